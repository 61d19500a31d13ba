use Rattle.std.proofs.Common.{◌≡◌}
use Rattle.example.proofs.threads.put_keys.Given as goal

abbrev pub invariant-loop-key : goal.invariant-loop-key
invariant-loop-key g l =
    g.T.TryTurns.is_ready l.turns × (g.T.TryTurns.home l.turns ≡ g.T.TryTurns.home l.initial.turns)
