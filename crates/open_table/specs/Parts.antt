-- The parts of a table of one thread, and the states that they are in.
use Rattle.std.specs.Prelude.{ℕ, ◌≡◌, ◌<◌, Bool, if◌then◌else◌}
use Rattle.part_core.specs.declared.kind.TableKind.{TableKind}
use Rattle.part_core.specs.declared.part.Part.{Ghosts}
use Rattle.part_core.specs.Legal.{state_after}
use Rattle.part_core.specs.Settings.{is_ordered}
use Rattle.tables.specs.declared.options.Options.{Options}
use Rattle.tables.specs.Local.{AreAfter}
use Rattle.tables.specs.OneThread.{TableState}
use Rattle.tables.specs.Options.{IsOpenable, settings_of}
use Rattle.tables.specs.Turns.{Views}
use Rattle.open_table.specs.declared.parts.Parts.{Parts}
use Rattle.open_table.specs.declared.parts.Parts.TheVariants as parts

-- the options that the table was opened with
abbrev pub options_in : {S O A : Type 0} {s : Ghosts S A} {o : Ghosts O A} → Parts S O A s o → Options
options_in (parts.Unordered l) = l.options
options_in (parts.Ordered l) = l.options

-- the parts are in the states after these histories
abbrev pub Sees : {S O A : Type 0} {s : Ghosts S A} {o : Ghosts O A} → Parts S O A s o → Views → Type 0
Sees {s} {o} (parts.Unordered l) = AreAfter s.is_after l.parts.items
Sees {s} {o} (parts.Ordered l) = AreAfter o.is_after l.parts.items

-- A table is in a state, according to what is seen of it: the histories of its parts lead to their states.
pub record IsAt (o : Options) (sees : Views → Type 0) (t : TableState) : Type 0 where
  pub options : t.options ≡ o
  pub views : Views
  pub seen : sees views
  pub states : (k : ℕ) → k < o.parts → t.states k ≡ state_after (settings_of o) (views k)

-- the kinds that one of two sorts of parts serves, where the second is for ordered sets
abbrev pub serves_with : (TableKind → Bool) → (TableKind → Bool) → TableKind → Bool
serves_with unordered ordered kind = if is_ordered kind then ordered kind else unordered kind

-- A table can be opened with these options: each number is in its range, the kind's parts serve it, and an ordered set has one part.
abbrev pub CanOpen : (TableKind → Bool) → (TableKind → Bool) → Options → Type 0
CanOpen unordered ordered o = IsOpenable (serves_with unordered ordered) o
