-- How far a visit goes, what it has found, and where the walk goes on.
use Rattle.std.specs.Prelude.{ℕ, ◌≡◌, ◌-◌, ◌==◌, ◌&&◌, Bool, true, false, if◌then◌else◌, Option, None, length, min, List, [], ◌∷◌}
use Rattle.term_core.specs.Datum.{Datum}
use Rattle.mcode.specs.Program.{Program}
use Rattle.part_core.specs.declared.settings.Settings.{Settings}
use Rattle.part_core.specs.Settings.{is_ordered}
use Rattle.part_core.specs.Acts.{Cursor, Purpose, Scope}
use Rattle.part_core.specs.Acts.Cursor.{Class, Behind}
use Rattle.part_core.specs.Acts.Scope.{Begin, After, Named}
use Rattle.part_core.specs.Replies.{most_counted}
use Rattle.part_core.specs.Rows.{Row}
use Rattle.part_core.specs.Visits.{answers_of, next_class, next_key, yield_of_rows}
use Rattle.part_rows.specs.Looks.{looked_at}

-- a visit stops once it has reached its target: only one of an ordered set that is not for a named key
abbrev pub stops : Settings → Scope → Bool
stops o (Named k) = false
stops o (After (Class base class)) = false
stops o (After (Behind k)) = true
stops o Begin = is_ordered o.kind

-- where the walk goes on after the rows that a visit saw
abbrev pub next_after : Settings → ℕ → Scope → (Row → ℕ) → ℕ → List Row → Option Cursor
next_after o base (Named k) answers wanted rows = None
next_after o base (After (Class other class)) answers wanted rows = next_class other class
next_after o base (After (Behind k)) answers wanted rows = next_key answers wanted rows
next_after o base Begin answers wanted rows =
    if is_ordered o.kind then next_key answers wanted rows else next_class base 0

-- the rows until the target is reached if the visit stops there, else all
unfoldable pub rows_until : Bool → (Row → ℕ) → ℕ → List Row → List Row
rows_until stops answers wanted [] = []
rows_until stops answers wanted (r ∷ rs) =
    r ∷ (if stops && (wanted - answers r == 0) then [] else rows_until stops answers (wanted - answers r) rs)

-- the rows that a visit sees
abbrev pub seen_from : Purpose → Settings → ℕ → Program → Scope → ℕ → List Row → List Row
seen_from purpose o base p scope wanted rows =
    rows_until (stops o scope) (answers_of purpose p) wanted (looked_at o base scope rows)

-- what a visit that returns answers has found, and where the walk goes on
pub record IsFound (purpose : Purpose) (o : Settings) (base : ℕ) (p : Program) (scope : Scope) (wanted : ℕ) (rows : List Row) (objects : List Datum) (at : Option Cursor) : Type 0 where
  pub found : objects ≡ yield_of_rows purpose p (seen_from purpose o base p scope wanted rows)
  pub next : at ≡ next_after o base scope (answers_of purpose p) wanted (seen_from purpose o base p scope wanted rows)

-- the number that a visit that counts or deletes has found, and where the walk goes on
pub record IsCounted (purpose : Purpose) (o : Settings) (base : ℕ) (p : Program) (scope : Scope) (wanted : ℕ) (rows : List Row) (count : ℕ) (at : Option Cursor) : Type 0 where
  pub total : count ≡ min (length (yield_of_rows purpose p (seen_from purpose o base p scope wanted rows))) most_counted
  pub next : at ≡ next_after o base scope (answers_of purpose p) wanted (seen_from purpose o base p scope wanted rows)
