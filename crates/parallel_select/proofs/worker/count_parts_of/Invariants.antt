use Rattle.std.proofs.Common.{◌≡◌}
use Rattle.tables.specs.Turns.{Follows}
use Rattle.parallel_select.specs.Gained.{IsFor, purpose_of}
use Rattle.parallel_select.specs.Parts.{part_walk, is_share}
use Rattle.parallel_select.proofs.WorkLemmas.{CountsSoFar}
use Rattle.parallel_select.proofs.worker.count_parts_of.Given as goal

abbrev pub invariant-loop-part : goal.invariant-loop-part
invariant-loop-part g l =
    let h = g.T.TryTurns.home l.initial.turns in
    g.T.TryTurns.is_ready l.turns × (g.T.TryTurns.home l.turns ≡ h) × IsFor l.asking l.gained
    × Follows (g.T.TryTurns.sees l.initial.turns) (g.T.TryTurns.sees l.turns)
    (CountsSoFar h (part_walk h (purpose_of l.asking) l.query) (is_share l.workers l.number) l.gained l.part)
