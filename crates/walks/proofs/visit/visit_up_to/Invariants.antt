use Rattle.std.proofs.Common.{◌≡◌}
use Rattle.part_core.specs.Acts.Purpose.{Answers}
use Rattle.tables.specs.Turns.{Follows}
use Rattle.walk_core.specs.Goes.{up_to}
use Rattle.walk_core.specs.Positions.{position_of}
use Rattle.walks.specs.Query.{IsWithin, kept_of, walk_of}
use Rattle.walks.proofs.GoingLemmas.{GoesBy}
use Rattle.walks.proofs.visit.visit_up_to.Given as goal

abbrev pub invariant-loop-visit : goal.invariant-loop-visit
invariant-loop-visit g l =
    let h = g.T.TryTurns.home l.initial.turns in
    g.T.TryTurns.is_ready l.turns × (g.T.TryTurns.home l.turns ≡ h) × IsWithin h.options l.query l.at
    × Follows (g.T.TryTurns.sees l.initial.turns) (g.T.TryTurns.sees l.turns)
    (GoesBy h (walk_of h Answers l.query) (up_to l.limit) (position_of l.initial.at) (kept_of l.initial.kept) (position_of l.at) (kept_of l.kept))
