-- The constants added so far and those that are left are all constants.
use Rattle.std.specs.Prelude.{◌≡◌, [], length}
use Rattle.std.proofs.Common.{reverse}
use Rattle.compiler_assembly.specs.Assembling.{with_blocks}
use Rattle.compiler_assembly.proofs.assembler.with_constants.Given as goal

abbrev pub invariant-loop-term : goal.invariant-loop-term
invariant-loop-term g l =
    with_blocks (reverse l.left.items) l.builder 0 [] ≡ with_blocks l.fn.terms.items l.fn.builder 0 []

abbrev pub decreases-loop-term : goal.decreases-loop-term
decreases-loop-term g l = length l.left.items
