use Rattle.std.specs.Prelude.{◌≡◌, [], replicate}
use Rattle.part_hash.proofs.finding.empty_slots.Given as goal

abbrev pub invariant-loop-number : goal.invariant-loop-number
invariant-loop-number g l = l.slots.items ≡ replicate l._number ([], 0, 0)
