use Rattle.std.proofs.Common.{◌≡◌}
use Rattle.std.specs.Prelude.{map}
use Rattle.std.specs.List.{range_with_len}
use Rattle.part_hash.specs.Slots.{half_at}
use Rattle.part_hash.proofs.adding.doubled.Given as goal

abbrev pub invariant-loop-number : goal.invariant-loop-number
invariant-loop-number g l =
    l.wide.items ≡ map (half_at l.slots) (range_with_len 0 l.number)
