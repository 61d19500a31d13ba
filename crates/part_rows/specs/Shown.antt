-- What the rows of a part show, and how writing changes it.
use Rattle.std.specs.Prelude.{ℕ, Bool, not, ◌||◌, if◌then◌else◌, filter, length, List, [], All}
use Rattle.term_core.specs.Datum.{Datum}
use Rattle.term_operand.specs.Order.{is_same}
use Rattle.part_core.specs.declared.settings.Settings.{Settings}
use Rattle.part_core.specs.Rows.{Row, PartState, first_slots, is_live, rows_at_key, with_object}
use Rattle.part_core.specs.After.{slots_after}
use Rattle.part_core.specs.States.{AreRows, IsRow}

-- the rows, dead ones among them, and the number of their slots
pub record Shown : Type 0 where
  pub rows : List Row
  pub slots : ℕ

-- what new rows show
abbrev pub no_rows : Shown
no_rows = record { rows = []; slots = first_slots }

-- the state of a part with such rows, given the sessions' counts of fixes and the base of walks that begin
abbrev pub state_of : Shown → List ℕ → ℕ → PartState
state_of w fixes base = record { rows = w.rows; fixes = fixes; slots = w.slots; base = base }

-- rows that a state can have
pub record AreSound (o : Settings) (w : Shown) : Type 0 where
  pub rows : AreRows o w.rows
  pub each : All (IsRow o) w.rows

-- with an object inserted; the slots of a set are doubled in the same step if there are too many rows for them
abbrev pub shown_with : Settings → Datum → Shown → Shown
shown_with o t w =
    record { rows = with_object o t w.rows; slots = slots_after o.kind (length w.rows) (length (with_object o t w.rows)) w.slots }

-- the rows with the objects of a key replaced by `os`; if `os` is empty, the row is removed, unless `keeps`
abbrev pub rows_exchanged : Datum → List Datum → Bool → List Row → List Row
rows_exchanged k os keeps rows =
    if keeps then rows_at_key k (λ _. os) rows
    else filter (λ r. not (is_same k r.0) || is_live r) (rows_at_key k (λ _. os) rows)

abbrev pub shown_exchanged : Datum → List Datum → Bool → Shown → Shown
shown_exchanged k os keeps w = record { rows = rows_exchanged k os keeps w.rows; slots = w.slots }

-- what rows show without the dead ones
abbrev pub shown_live : Shown → Shown
shown_live w = record { rows = filter is_live w.rows; slots = w.slots }
