use Rattle.std.proofs.Common.{◌≡◌}
use Rattle.tests_walks.proofs.plays.fix_below.Given as goal

abbrev pub invariant-loop-part : goal.invariant-loop-part
invariant-loop-part g l =
    g.T.TryTurns.is_ready l.session × (g.T.TryTurns.home l.session ≡ g.T.TryTurns.home l.initial.session)
