use Rattle.std.proofs.Common.{◌≡◌, [], length}
use Rattle.part_core.specs.declared.settings.Settings.{Settings}
use Rattle.tables.specs.Opened.{AreDealt}
use Rattle.tables.proofs.opening.new_sessions.Given as goal

abbrev pub invariant-loop-number : goal.invariant-loop-number
invariant-loop-number g l = (length l.sessions.items ≡ l.number) × ((o : Settings) → AreDealt o [] l.sessions.items)
