use Rattle.std.proofs.Common.{◌≡◌, List, length}
use Rattle.std.specs.Prelude.{find}
use Rattle.part_core.specs.Rows.{Row}
use Rattle.part_hash.specs.Classes.{earliest, is_next, slot_of_class}
use Rattle.part_hash.specs.Slots.{listing_at}
use Rattle.part_hash.specs.Standing.{Stands}
use Rattle.part_hash.proofs.walking.next_place.Given as goal

abbrev pub invariant-loop-turn : goal.invariant-loop-turn
invariant-loop-turn g l =
    (rows : List Row) → Stands l.settings l.store rows
    → l.next ≡ earliest (λ n. find (is_next l.settings l.base l.class l.from l.store.rows) (listing_at l.store.slots.items (slot_of_class (length l.store.slots.items) l.base l.class n)).0) l.turn
