use Rattle.std.proofs.Common.{◌≡◌}
use Rattle.tables.specs.Turns.{Follows}
use Rattle.walk_core.specs.Counting.{purpose_of}
use Rattle.walks.specs.Counting.{CountsTo}
use Rattle.walk_core.specs.Positions.{position_of}
use Rattle.walks.specs.Query.{IsWithin, walk_of}
use Rattle.walks.proofs.counting.count_on.Given as goal

abbrev pub invariant-loop-visit : goal.invariant-loop-visit
invariant-loop-visit g l =
    let h = g.T.TryTurns.home l.initial.turns in
    g.T.TryTurns.is_ready l.turns × (g.T.TryTurns.home l.turns ≡ h) × IsWithin h.options l.query l.at
    × Follows (g.T.TryTurns.sees l.initial.turns) (g.T.TryTurns.sees l.turns)
    (CountsTo h (walk_of h (purpose_of l.counting) l.query) (position_of l.initial.at) (position_of l.at) l.total)
