use Rattle.std.proofs.Common.{◌≡◌, ◌≤◌, ◌<◌, ℕ, length, map, vec_items}
use Rattle.std.specs.Prelude.{if◌then◌else◌}
use Rattle.parallel_select.specs.Parts.{is_share, answers_of}
use Rattle.parallel_select.proofs.workers.put_own.Given as goal

abbrev pub invariant-loop-part : goal.invariant-loop-part
invariant-loop-part g l =
    (length l.own ≡ l.parts) × (length l.others ≡ l.parts)
    × ((k : ℕ) → l.part ≤ k → answers_of (map vec_items l.own) k ≡ answers_of (map vec_items l.initial.own) k)
    × ((k : ℕ) → l.part ≤ k → answers_of (map vec_items l.others) k ≡ answers_of (map vec_items l.initial.others) k)
    × ((k : ℕ) → k < l.part → answers_of (map vec_items l.others) k
    ≡ (if is_share l.workers l.number k then answers_of (map vec_items l.initial.own) k else answers_of (map vec_items l.initial.others) k))
