use Rattle.std.proofs.Common.{◌≡◌}
use Rattle.tests_walks.proofs.writers.written.Given as goal

abbrev pub invariant-loop-write : goal.invariant-loop-write
invariant-loop-write g l =
    g.T.TryTurns.is_ready l.session × (g.T.TryTurns.home l.session ≡ g.T.TryTurns.home l.initial.session)
