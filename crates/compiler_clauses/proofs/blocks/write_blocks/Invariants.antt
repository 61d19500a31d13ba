-- the blocks so far and those of the clauses that are left are all blocks
use Rattle.std.proofs.Common.{◌≡◌, ◌++◌, drop}
use Rattle.mspec_syntax.specs.Specification.{specification_variables}
use Rattle.compiler_clauses.specs.Clauses.{blocks_of}
use Rattle.compiler_clauses.proofs.blocks.write_blocks.Given as goal

abbrev pub invariant-loop-clause : goal.invariant-loop-clause
invariant-loop-clause g l =
    let vs = specification_variables l.specification in
    l.blocks.items ++ blocks_of vs (drop l.clause-index l.clause-items) ≡ blocks_of vs l.specification
