-- Functions of tuples (Erlang Reference Manual, module erlang: element, is_record).
use Rattle.std.specs.Prelude.{ℕ, suc, ℤ, pos, List, Bool, false, ◌&&◌, Option, Some, None, nat_eq}
use Rattle.std.specs.Option.{option_and_then}
use Rattle.std.specs.Ordering.{int_eq}
use Rattle.std.specs.Cmp.Lexicographic.{pointwise}
use Rattle.term_core.specs.Datum.{Datum, Items, item_count}
use Rattle.term_core.specs.Datum.Datum.{integer, atom, tuple}
use Rattle.term_core.specs.Datum.Items.{item}
pub use Rattle.term_core.specs.Parts.{item_at}

-- the number of elements before a place counted from 1, None if there can be no such place
abbrev pub index_of : ℤ → Option ℕ
index_of (pos (suc n)) = Some n
index_of z = None

-- element: the element at a place counted from 1, None if there is none
abbrev pub element_of : Datum → Datum → Option Datum
element_of (integer z) (tuple ds) = option_and_then (item_at ds) (index_of z)
element_of place d = None

-- whether the first element is the atom of this name
abbrev pub begins_with : Items → List ℕ → Bool
begins_with (item (atom first) rest) name = pointwise nat_eq first name
begins_with ds name = false

-- whether a term is a tuple of this size whose first element is the atom of this name
abbrev pub is_named : Datum → List ℕ → ℤ → Bool
is_named (tuple ds) name size = int_eq (pos (item_count ds)) size && begins_with ds name
is_named d name size = false

-- is_record of a term, a name and a size, None if the name is not an atom or the size not an integer
abbrev pub is_record_of : Datum → Datum → Datum → Option Bool
is_record_of d (atom name) (integer size) = Some (is_named d name size)
is_record_of d name size = None
