use Rattle.std.proofs.Common.{◌≡◌}
use Rattle.bench.proofs.phases.find_all.Given as goal

abbrev pub invariant-loop-object : goal.invariant-loop-object
invariant-loop-object g l =
    g.T.TryTurns.is_ready l.session × (g.T.TryTurns.home l.session ≡ g.T.TryTurns.home l.initial.session)
