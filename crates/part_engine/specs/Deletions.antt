-- What a visit deletes, and how writing the remaining objects changes rows.
use Rattle.std.specs.Prelude.{ℕ, ◌≡◌, Bool, not, Option, filter, map, List, [], ◌∷◌}
use Rattle.std.specs.List.{list_any}
use Rattle.mcode.specs.Program.{Program}
use Rattle.part_core.specs.declared.settings.Settings.{Settings}
use Rattle.part_core.specs.Acts.{Cursor, Scope}
use Rattle.part_core.specs.Acts.Purpose.{Deletes}
use Rattle.part_core.specs.Rows.{Row}
use Rattle.part_core.specs.Visits.{is_true}
use Rattle.part_engine.specs.Looks.{seen_from, IsCounted}
use Rattle.part_rows.specs.Shown.{Shown, rows_exchanged}

-- the rows with an object for which the query returns true, each with its remaining objects
abbrev pub rows_left : Program → List Row → List Row
rows_left p rows =
    map (λ r. (r.0, filter (λ t. not (is_true p t)) r.1)) (filter (λ r. list_any (is_true p) r.1) rows)

-- the rows after the objects of each row in `left` were written at its key, one after the other
abbrev pub rows_swept : Bool → List Row → List Row → List Row
rows_swept keeps [] rows = rows
rows_swept keeps (v ∷ left) rows = rows_swept keeps left (rows_exchanged v.0 v.1 keeps rows)

abbrev pub shown_swept : Bool → List Row → Shown → Shown
shown_swept keeps left w = record { rows = rows_swept keeps left w.rows; slots = w.slots }

-- what a visit that deletes has found: what is left of the rows from which it deletes, how many objects it deletes, and
-- where the walk goes on
pub record IsChosen (o : Settings) (base : ℕ) (p : Program) (scope : Scope) (wanted : ℕ) (rows remaining : List Row) (count : ℕ) (at : Option Cursor) : Type 0 where
  pub left : remaining ≡ rows_left p (seen_from Deletes o base p scope wanted rows)
  pub counted : IsCounted Deletes o base p scope wanted rows count at
