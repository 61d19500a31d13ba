use Rattle.std.proofs.Common.{◌≡◌}
use Rattle.bench.proofs.calls.in_pieces.Given as goal

abbrev pub invariant-loop-piece : goal.invariant-loop-piece
invariant-loop-piece g l =
    g.T.TryTurns.is_ready l.session × (g.T.TryTurns.home l.session ≡ g.T.TryTurns.home l.initial.session)
