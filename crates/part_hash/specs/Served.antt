-- Which tables these rows are for, and what they show.
use Rattle.std.specs.Prelude.{ℕ, ◌≡◌, IsTrue, length}
use Rattle.part_core.specs.declared.settings.Settings.{Settings}
use Rattle.part_rows.specs.Shown.{Shown}
use Rattle.part_engine.specs.Sets.{serves}
use Rattle.part_hash.specs.declared.store.Store.{Store}
use Rattle.part_hash.specs.Places.{spread as spread_of}
use Rattle.part_hash.specs.Standing.{Stands}

-- these rows, with this number of slots, are those of a table that is served
pub record IsShown {A : Type 0} (o : Settings) (store : Store A) (divisor : ℕ) (w : Shown) : Type 0 where
  pub served : IsTrue (serves o.kind)
  pub rows : Stands o store w.rows
  pub spread : divisor ≡ spread_of o
  pub slots : w.slots ≡ length store.slots.items
