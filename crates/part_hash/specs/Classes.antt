-- The rows of classes, in the order of a walk.
use Rattle.std.specs.Prelude.{ℕ, suc, zero, ◌+◌, ◌*◌, ◌/◌, ◌%◌, ◌==◌, ◌&&◌, Bool, false, if◌then◌else◌, nat_le, Option, Some, None, filter, find, flat_map, length, List}
use Rattle.std.specs.List.{range_with_len}
use Rattle.std.specs.Map.{values_of}
use Rattle.std.specs.Option.{option_map_or}
use Rattle.slab.specs.Slab.{Slab}
use Rattle.part_core.specs.declared.settings.Settings.{Settings}
use Rattle.part_core.specs.Settings.{class_at}
use Rattle.part_core.specs.Rows.{Row, is_live}
use Rattle.part_rows.specs.declared.place.Place.{Place}
use Rattle.part_hash.specs.Places.{Kept, Standing, passes, row_of}
use Rattle.part_hash.specs.Slots.{Listing, listing_at}

-- by how many the slots are apart in which rows of a class may stand: where the base doesn't divide them, in any
abbrev pub step_of : ℕ → ℕ → ℕ
step_of count base = if count % base == 0 then base else 1

-- such a slot
abbrev pub slot_of_class : ℕ → ℕ → ℕ → ℕ → ℕ
slot_of_class count base class turn = class % step_of count base + turn * step_of count base

-- the earlier of two places
abbrev pub earlier : Option Place → Option Place → Option Place
earlier None q = q
earlier (Some p) None = Some p
earlier (Some p) (Some q) = if nat_le p.made q.made then Some p else Some q

-- the earliest of the first n places
abbrev pub earliest : (ℕ → Option Place) → ℕ → Option Place
earliest f zero = None
earliest f (suc n) = earlier (earliest f n) (f n)

-- the row at a place is a live one of a class, created after the first `from` rows
abbrev pub is_next : Settings → ℕ → ℕ → ℕ → Slab Kept → Place → Bool
is_next o base class from slab p =
    nat_le from p.made && option_map_or (λ r. is_live r && (class_at o base r.0 == class)) (row_of slab p) false

-- the rows created after the first `from` rows
abbrev pub made_from : ℕ → List Standing → List Row
made_from from list = values_of (filter (λ e. nat_le from e.0.made) list)

-- the first live row of a class created after the first `from` rows
abbrev pub next_of_class : Settings → ℕ → ℕ → ℕ → Slab Kept → List Listing → Option Place
next_of_class o base class from slab slots =
    earliest (λ n. find (is_next o base class from slab) (listing_at slots (slot_of_class (length slots) base class n)).0)
    (length slots / step_of (length slots) base)

-- the places of the rows of a class in a slot
abbrev pub part_of_class : Settings → ℕ → ℕ → Slab Kept → List Listing → ℕ → List Place
part_of_class o base class slab slots n =
    filter (passes (λ k. class_at o base k == class) slab) (listing_at slots (slot_of_class (length slots) base class n)).0

-- the places of the rows of a class, slot after slot
abbrev pub class_of_slots : Settings → ℕ → ℕ → Slab Kept → List Listing → List Place
class_of_slots o base class slab slots =
    flat_map (part_of_class o base class slab slots) (range_with_len 0 (length slots / step_of (length slots) base))
