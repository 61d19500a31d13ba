-- The rows of a part, and how writing changes them.
use Rattle.std.specs.Prelude.{ℕ, Bool, true, false, not, if◌then◌else◌, nat_lt, is_some, unwrap_or, filter, replicate, map, List, [], ◌∷◌, ◌++◌}
use Rattle.std.specs.List.{list_any}
use Rattle.std.specs.BTreeMap.{insert_entry}
use Rattle.std.specs.Map.{lookup}
use Rattle.term_core.specs.Datum.{Datum}
use Rattle.term_core.specs.Order.{datum_cmp}
use Rattle.term_operand.specs.Order.{is_same}
use Rattle.part_core.specs.declared.kind.TableKind.{TableKind}
use Rattle.part_core.specs.declared.kind.TableKind.TheVariants.{Set, OrderedSet, Bag, DuplicateBag}
use Rattle.part_core.specs.declared.settings.Settings.{Settings}
use Rattle.part_core.specs.Settings.{is_ordered, key_of}

-- a key and its objects in the order of insertion; a row without objects is dead
abbrev pub Row : Type 0
Row = Datum × List Datum

-- The state of a part: its rows, in a set in the order of their creation, in an ordered set in ascending key order; how
-- many times each session fixes the part; the number of slots of a set; and the base of walks that begin.
pub record PartState : Type 0 where
  pub rows : List Row
  pub fixes : List ℕ
  pub slots : ℕ
  pub base : ℕ

-- the number of slots of a new set
abbrev pub first_slots : ℕ
first_slots = 8

-- the state of a new part
abbrev pub opening : Settings → PartState
opening o =
    record { rows = []; fixes = replicate o.sessions 0; slots = first_slots; base = first_slots }

-- the list has no objects
abbrev pub is_empty : List Datum → Bool
is_empty [] = true
is_empty (t ∷ os) = false

-- the row has an object
abbrev pub is_live : Row → Bool
is_live row = not (is_empty row.1)

-- the objects of a key; none if it has no row
abbrev pub objects_at : List Row → Datum → List Datum
objects_at rows k = unwrap_or (lookup (is_same k) rows) []

-- the key has a row, dead or live
abbrev pub has_row : List Row → Datum → Bool
has_row rows k = is_some (lookup (is_same k) rows)

-- some session fixes the part
abbrev pub is_fixed : List ℕ → Bool
is_fixed fixes = list_any (nat_lt 0) fixes

-- the objects of a key after an object is inserted (STDLIB Reference Manual, ets:insert/2)
abbrev pub objects_with : TableKind → List Datum → Datum → List Datum
objects_with Set os t = t ∷ []
objects_with OrderedSet os t = t ∷ []
objects_with Bag os t = if list_any (is_same t) os then os else os ++ t ∷ []
objects_with DuplicateBag os t = os ++ t ∷ []

-- the objects that are not equal to the given one (ets:delete_object/2)
abbrev pub objects_without : Datum → List Datum → List Datum
objects_without t os = filter (λ u. not (is_same t u)) os

-- the rows, with the objects at a key replaced by a function of them
abbrev pub rows_at_key : Datum → (List Datum → List Datum) → List Row → List Row
rows_at_key k f rows = map (λ r. (r.0, if is_same k r.0 then f r.1 else r.1)) rows

-- the rows with a row of a new key: in an ordered set at its place in key order, else after the others
abbrev pub with_new_row : TableKind → Row → List Row → List Row
with_new_row kind r rows =
    if is_ordered kind then insert_entry datum_cmp rows r.0 r.1 else rows ++ r ∷ []

-- The rows after an object is inserted: if its key has a row, dead or live, the row keeps its place.
abbrev pub with_object : Settings → Datum → List Row → List Row
with_object o t rows =
    if has_row rows (key_of o t)
    then rows_at_key (key_of o t) (λ os. objects_with o.kind os t) rows
    else with_new_row o.kind (key_of o t, objects_with o.kind [] t) rows
