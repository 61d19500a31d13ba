use Rattle.std.proofs.Common.{◌≡◌}
use Rattle.tables.specs.Turns.{Follows}
use Rattle.walks.proofs.OwnLemmas.{ReleasedBelow}
use Rattle.walks.proofs.own.release_own.Given as goal

abbrev pub invariant-loop-part : goal.invariant-loop-part
invariant-loop-part g l =
    g.T.TryTurns.is_ready l.turns × (g.T.TryTurns.home l.turns ≡ g.T.TryTurns.home l.initial.turns)
    × Follows (g.T.TryTurns.sees l.initial.turns) (g.T.TryTurns.sees l.turns) (ReleasedBelow (g.T.TryTurns.home l.initial.turns) l.own l.part)
