-- What holds of every state of a part.
use Rattle.std.specs.Prelude.{ℕ, ◌≡◌, ◌≤◌, ◌<◌, ◌*◌, false, IsTrue, IsFalse, All, nat_eq, length, List}
use Rattle.std.specs.List.{IsDistinct, list_any}
use Rattle.std.specs.List.Sorted.{IsStrictlySortedBy}
use Rattle.std.specs.Map.{keys_of}
use Rattle.term_core.specs.Datum.{Datum}
use Rattle.term_core.specs.Order.{datum_cmp}
use Rattle.term_operand.specs.Order.{is_same}
use Rattle.part_core.specs.declared.settings.Settings.{Settings}
use Rattle.part_core.specs.Settings.{is_ordered, is_set, is_object, key_of}
use Rattle.part_core.specs.Rows.{Row, PartState, is_live, is_fixed}
use Rattle.part_core.specs.Visits.{bases}
use Rattle.part_core.specs.After.{most_slots}

-- no key has two rows, and those of an ordered set are in ascending key order
pub record AreRows (o : Settings) (rows : List Row) : Type 0 where
  pub distinct : IsDistinct is_same (keys_of rows)
  pub rising : IsTrue (is_ordered o.kind) → IsStrictlySortedBy datum_cmp (keys_of rows)

-- a term is an object with a given key
abbrev pub IsObjectOf : Settings → Datum → Datum → Type 0
IsObjectOf o k t = IsTrue (is_object o t) × (key_of o t ≡ k)

-- each object of a row has the row's key, and a set has at most one object a row
pub record IsRow (o : Settings) (row : Row) : Type 0 where
  pub objects : All (IsObjectOf o row.0) row.1
  pub single : IsTrue (is_set o.kind) → length row.1 ≤ 1

-- a number of slots that a set can have
abbrev pub IsBase : ℕ → Type 0
IsBase n = IsTrue (list_any (nat_eq n) bases)

-- What holds of every state of a part: of its rows; that dead rows stay only while it is fixed; that there is a count
-- of fixes for each session; that the base is a number that the slots have been, and their number while nothing is
-- fixed. A set that can still grow has at most four rows per slot.
pub record IsState (o : Settings) (s : PartState) : Type 0 where
  pub rows : AreRows o s.rows
  pub each : All (IsRow o) s.rows
  pub live : is_fixed s.fixes ≡ false → All (λ r. IsTrue (is_live r)) s.rows
  pub sessions : length s.fixes ≡ o.sessions
  pub slots : IsBase s.slots
  pub base : IsBase s.base × (s.base ≤ s.slots)
  pub settled : is_fixed s.fixes ≡ false → s.base ≡ s.slots
  pub room : IsFalse (is_ordered o.kind) → s.slots < most_slots → length s.rows ≤ 4 * s.slots
