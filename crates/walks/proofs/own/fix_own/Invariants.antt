use Rattle.std.proofs.Common.{◌≡◌, length}
use Rattle.tables.specs.Turns.{Follows}
use Rattle.walks.proofs.OwnLemmas.{AreFreeFrom, FixedBelow}
use Rattle.walks.proofs.own.fix_own.Given as goal

abbrev pub invariant-loop-part : goal.invariant-loop-part
invariant-loop-part g l =
    g.T.TryTurns.is_ready l.turns × (g.T.TryTurns.home l.turns ≡ g.T.TryTurns.home l.initial.turns)
    × (length l.own ≡ 256) × AreFreeFrom l.own l.part
    × Follows (g.T.TryTurns.sees l.initial.turns) (g.T.TryTurns.sees l.turns) (FixedBelow (g.T.TryTurns.home l.initial.turns) l.own l.part)
