-- How many rows are dead, and a count of them that is kept with the rows.
use Rattle.std.specs.Prelude.{ℕ, ◌≡◌, if◌then◌else◌, List}
use Rattle.std.specs.List.{count_by}
use Rattle.std.specs.Map.{values_of}
use Rattle.term_core.specs.Datum.{Datum}
use Rattle.part_core.specs.declared.settings.Settings.{Settings}
use Rattle.part_core.specs.Rows.{Row, is_empty, is_fixed}
use Rattle.part_rows.specs.Shown.{Shown, shown_live}

-- the number of dead rows
abbrev pub dead_rows : List Row → ℕ
dead_rows rows = count_by is_empty (values_of rows)

-- 1 if there are no objects, i.e. if a row with them would be dead; else 0
abbrev pub one_dead : List Datum → ℕ
one_dead os = if is_empty os then 1 else 0

-- rows show a list, in which `dead` rows are dead
pub record Keeps {R : Type 0} (shows : Settings → R → Shown → Type 0) (o : Settings) (rows : R) (dead : ℕ) (w : Shown) : Type 0 where
  pub there : shows o rows w
  pub count : dead ≡ dead_rows w.rows

-- dead rows are removed, unless some session fixes the part
abbrev pub shown_settled : List ℕ → Shown → Shown
shown_settled fixes w = if is_fixed fixes then w else shown_live w
