use Rattle.std.proofs.Common.{◌≡◌, ◌≤◌, length, map, vec_items, vec_len, vec_capacity}
use Rattle.part_core.specs.Acts.Purpose.{Answers}
use Rattle.tables.specs.Turns.{Follows}
use Rattle.parallel_select.specs.Parts.{part_walk, is_share, answers_of, Works}
use Rattle.parallel_select.proofs.worker.answer_parts.Given as goal

abbrev pub invariant-loop-part : goal.invariant-loop-part
invariant-loop-part g l =
    let h = g.T.TryTurns.home l.initial.turns in
    g.T.TryTurns.is_ready l.turns × (g.T.TryTurns.home l.turns ≡ h)
    × (vec_len l.lists ≡ l.part) × (h.options.parts ≤ vec_capacity l.lists)
    × (length (map vec_items l.lists.items) ≡ l.part)
    × Follows (g.T.TryTurns.sees l.initial.turns) (g.T.TryTurns.sees l.turns)
    (λ v u. Works h (part_walk h Answers l.query) (is_share l.workers l.number) (answers_of (map vec_items l.lists.items)) v l.part u)
