use Rattle.std.proofs.Common.{◌≡◌}
use Rattle.tests_gate.proofs.refusals.most_fixes.Given as goal

abbrev pub invariant-loop-fixes : goal.invariant-loop-fixes
invariant-loop-fixes g l =
    g.T.TryTurns.is_ready l.turns × (g.T.TryTurns.home l.turns ≡ g.T.TryTurns.home l.initial.turns)
