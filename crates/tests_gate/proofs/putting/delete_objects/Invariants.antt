use Rattle.std.proofs.Common.{◌≡◌}
use Rattle.tests_gate.proofs.putting.delete_objects.Given as goal

abbrev pub invariant-loop-object : goal.invariant-loop-object
invariant-loop-object g l =
    g.T.TryTurns.is_ready l.turns × (g.T.TryTurns.home l.turns ≡ g.T.TryTurns.home l.initial.turns)
