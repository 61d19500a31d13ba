use Rattle.std.proofs.Common.{◌≡◌}
use Rattle.bench.proofs.calls.made_with_each.Given as goal

abbrev pub invariant-loop-object : goal.invariant-loop-object
invariant-loop-object g l =
    g.T.TryTurns.is_ready l.session × (g.T.TryTurns.home l.session ≡ g.T.TryTurns.home l.initial.session)
