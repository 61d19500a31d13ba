use Rattle.std.proofs.Common.{◌≡◌, ◌≤◌}
use Rattle.tables.specs.Turns.{Follows}
use Rattle.tables.specs.Fixing.{act_of_change}
use Rattle.tables.proofs.FixLemmas.{TurnedWithin}
use Rattle.tables.proofs.fixing.change_from.Given as goal

abbrev pub invariant-loop-part : goal.invariant-loop-part
invariant-loop-part g l =
    g.T.TryTurns.is_ready l.turns × (g.T.TryTurns.home l.turns ≡ g.T.TryTurns.home l.initial.turns) × (l.from ≤ l.part)
    × Follows (g.T.TryTurns.sees l.initial.turns) (g.T.TryTurns.sees l.turns) (TurnedWithin (g.T.TryTurns.home l.initial.turns) (act_of_change l.change) l.from l.part)
