use Rattle.std.proofs.Common.{◌≡◌, ◌≤◌}
use Rattle.tables.specs.Turns.{Follows}
use Rattle.walks.specs.Keys.{Passed}
use Rattle.host_session.proofs.searching.first_on.Given as goal

abbrev pub invariant-loop-part : goal.invariant-loop-part
invariant-loop-part g l =
    g.T.TryTurns.is_ready l.turns × (g.T.TryTurns.home l.turns ≡ g.T.TryTurns.home l.initial.turns) × (l.from ≤ l.part)
    × Follows (g.T.TryTurns.sees l.initial.turns) (g.T.TryTurns.sees l.turns) (Passed (g.T.TryTurns.home l.initial.turns) l.from l.part)
