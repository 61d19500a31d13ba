use Rattle.std.proofs.Common.{◌≡◌, option_map}
use Rattle.part_core.specs.Ops.{cursor_of}
use Rattle.tables.specs.Turns.{Follows}
use Rattle.walk_core.specs.Walk.{start_of}
use Rattle.walk_core.specs.Walk.Position.{InPart}
use Rattle.parallel_select.specs.Gained.{IsFor, purpose_of}
use Rattle.parallel_select.specs.Parts.{part_walk, GoesGaining}
use Rattle.parallel_select.proofs.visits.visit_rest.Given as goal

abbrev pub invariant-loop-visit : goal.invariant-loop-visit
invariant-loop-visit g l =
    let h = g.T.TryTurns.home l.initial.turns in
    let w = part_walk h (purpose_of l.asking) l.query l.part in
    g.T.TryTurns.is_ready l.turns × (g.T.TryTurns.home l.turns ≡ h) × IsFor l.asking l.gained
    × Follows (g.T.TryTurns.sees l.initial.turns) (g.T.TryTurns.sees l.turns)
    (GoesGaining h w (start_of w) (InPart l.part (option_map cursor_of l.cursor)) l.initial.gained l.gained)
