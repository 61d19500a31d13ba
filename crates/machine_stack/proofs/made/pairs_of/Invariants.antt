-- The pairs so far and those that are left are all.
use Rattle.std.specs.Prelude.{◌≡◌, length}
use Rattle.std.specs.List.{zip}
use Rattle.std.proofs.Common.{◌++◌, reverse}
use Rattle.machine_stack.proofs.made.pairs_of.Given as goal

abbrev pub invariant-loop-key : goal.invariant-loop-key
invariant-loop-key g l =
    (length l.keys.items ≡ length l.values.items)
    × (zip l.keys.items l.values.items ++ reverse l.pairs.items ≡ zip l.fn.keys.items l.fn.values.items)

abbrev pub decreases-loop-key : goal.decreases-loop-key
decreases-loop-key g l = length l.keys.items
