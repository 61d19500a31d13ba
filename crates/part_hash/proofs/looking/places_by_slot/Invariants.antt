use Rattle.std.proofs.Common.{◌≡◌}
use Rattle.std.specs.Prelude.{flat_map}
use Rattle.std.specs.List.{range_with_len}
use Rattle.part_hash.specs.Classes.{part_of_class}
use Rattle.part_hash.proofs.looking.places_by_slot.Given as goal

abbrev pub invariant-loop-turn : goal.invariant-loop-turn
invariant-loop-turn g l =
    l.places.items ≡ flat_map (part_of_class l.settings l.base l.class l.store.rows l.store.slots.items) (range_with_len 0 l.turn)
