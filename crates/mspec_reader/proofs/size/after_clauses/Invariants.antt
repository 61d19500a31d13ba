-- the remaining room and the remaining nodes
use Rattle.std.proofs.Common.{◌≡◌, ◌+◌, drop}
use Rattle.mspec_syntax.specs.Specification.{specification_nodes}
use Rattle.mspec_reader.proofs.size.after_clauses.Given as goal

abbrev pub invariant-loop-clause : goal.invariant-loop-clause
invariant-loop-clause g l =
    l.left + specification_nodes l.clauses ≡ l.fn.room + specification_nodes (drop l.clause-index l.clauses)
