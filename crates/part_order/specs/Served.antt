-- Which tables rows in a tree are for, and what they show.
use Rattle.std.specs.Prelude.{◌≡◌, Bool, true, false, List}
use Rattle.part_core.specs.declared.kind.TableKind.{TableKind}
use Rattle.part_core.specs.declared.kind.TableKind.TheVariants.{OrderedSet}
use Rattle.part_core.specs.declared.settings.Settings.{Settings}
use Rattle.part_core.specs.Rows.{Row, first_slots}
use Rattle.part_rows.specs.Shown.{Shown}

-- the kinds that are served: only ordered sets
abbrev pub serves : TableKind → Bool
serves OrderedSet = true
serves kind = false

-- these entries of a tree are the rows of an ordered set, with the number of slots of a new one
pub record IsShown (o : Settings) (entries : List Row) (w : Shown) : Type 0 where
  pub kind : o.kind ≡ OrderedSet
  pub rows : w.rows ≡ entries
  pub slots : w.slots ≡ first_slots
