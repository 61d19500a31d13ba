-- the constants that were added, followed by the remaining ones
use Rattle.std.proofs.Common.{◌≡◌, ◌++◌, reverse, length}
use Rattle.mcode.specs.Building.{empty_program}
use Rattle.code_file.specs.Parts.{with_constants}
use Rattle.code_file.proofs.body.builder_of.Given as goal

abbrev pub invariant-loop-constant : goal.invariant-loop-constant
invariant-loop-constant g l =
    with_constants l.builder (l.builder.constants ++ reverse l.left.items) ≡ with_constants (empty_program l.fn.slots) l.fn.constants.items

abbrev pub decreases-loop-constant : goal.decreases-loop-constant
decreases-loop-constant g l = length l.left.items
