-- The elements of tuples, the rests of lists, and which terms are tuples and maps.
use Rattle.std.specs.Prelude.{ℕ, zero, suc, ◌≡◌, ◌<◌, Bool, true, false, nat_eq, Option, Some, None}
use Rattle.term_core.specs.Datum.{Datum, Items, item_count, cell_count}
use Rattle.term_core.specs.Datum.Datum.{tuple, map, cons}
use Rattle.term_core.specs.Datum.Items.{no_items, item}
use Rattle.term_core.specs.Limits.{depth}

-- the element that has n elements before it
abbrev pub item_at : Items → ℕ → Option Datum
item_at no_items n = None
item_at (item d ds) zero = Some d
item_at (item d ds) (suc n) = item_at ds n

-- the element of a tuple at a place counted from 1
abbrev pub field_of : ℕ → Datum → Option Datum
field_of (suc n) (tuple ds) = item_at ds n
field_of n d = None

-- whether a term is a tuple of n elements
abbrev pub is_tuple_of : ℕ → Datum → Bool
is_tuple_of n (tuple ds) = nat_eq (item_count ds) n
is_tuple_of n d = false

-- whether a term is a map
abbrev pub is_map : Datum → Bool
is_map (map es) = true
is_map d = false

-- the rest of a list after its first n elements; a term that is not a list, and the tail at the end, stay as they are
abbrev pub rest_of : ℕ → Datum → Datum
rest_of zero d = d
rest_of (suc n) (cons head tail) = rest_of n tail
rest_of (suc n) d = d

-- the rest of a list after n elements has more than four elements and is as deep as the list, so it can be shared
abbrev pub IsShared : ℕ → Datum → Type 0
IsShared n d = (4 < cell_count (rest_of n d)) × (depth (rest_of n d) ≡ depth d)
