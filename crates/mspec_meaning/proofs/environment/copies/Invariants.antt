-- the values so far and the remaining ones make up the whole
use Rattle.std.proofs.Common.{◌≡◌, ◌++◌, drop}
use Rattle.mspec_match.specs.Slots.{seen, known}
use Rattle.mspec_meaning.proofs.environment.copies.Given as goal

abbrev pub invariant-loop-slot : goal.invariant-loop-slot
invariant-loop-slot g l = l.values.items ++ known (seen (drop l.slot-index l.slots)) ≡ known (seen l.slots)
