use Rattle.std.proofs.Common.{◌≡◌, length}
use Rattle.std.specs.Prelude.{filter}
use Rattle.tables.specs.Turns.{Follows}
use Rattle.walk_core.specs.Walk.{at_key, start_of}
use Rattle.parallel_select.specs.Gained.{IsFor, purpose_of}
use Rattle.parallel_select.specs.Parts.{part_walk, stands_in, GoesGaining}
use Rattle.parallel_select.proofs.KeyLemmas.{count_first}
use Rattle.parallel_select.proofs.visits.visit_keys.Given as goal

abbrev pub invariant-loop-number : goal.invariant-loop-number
invariant-loop-number g l =
    let h = g.T.TryTurns.home l.initial.turns in
    let w = part_walk h (purpose_of l.asking) l.query l.part in
    let p = stands_in h.options l.part in
    g.T.TryTurns.is_ready l.turns × (g.T.TryTurns.home l.turns ≡ h) × IsFor l.asking l.gained
    × Follows (g.T.TryTurns.sees l.initial.turns) (g.T.TryTurns.sees l.turns)
    (GoesGaining h w (start_of w) (at_key (count_first p l.number l.keys) (length (filter p l.keys))) l.initial.gained l.gained)
