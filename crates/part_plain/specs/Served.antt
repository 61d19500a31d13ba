-- Which tables rows in one list are for, and what they show.
use Rattle.std.specs.Prelude.{ℕ, ◌≡◌, IsTrue, List}
use Rattle.part_core.specs.declared.settings.Settings.{Settings}
use Rattle.part_core.specs.Rows.{Row}
use Rattle.part_rows.specs.Shown.{Shown}
use Rattle.part_engine.specs.Sets.{serves}

-- these rows, with this number of slots, are those of a table that is served
pub record IsShown (o : Settings) (list : List Row) (size : ℕ) (w : Shown) : Type 0 where
  pub served : IsTrue (serves o.kind)
  pub rows : w.rows ≡ list
  pub slots : w.slots ≡ size
