-- at most as many slots as needed, all free
use Rattle.std.proofs.Common.{◌-◌, ◌≤◌, length}
use Rattle.mspec_match.specs.Slots.{seen, AreFree}
use Rattle.mspec_match.proofs.head.free_slots.Given as goal

abbrev pub invariant-loop-slots : goal.invariant-loop-slots
invariant-loop-slots g l = (length l.slots.items ≤ l.count) × AreFree (seen l.slots.items)

abbrev pub decreases-loop-slots : goal.decreases-loop-slots
decreases-loop-slots g l = l.count - length l.slots.items
