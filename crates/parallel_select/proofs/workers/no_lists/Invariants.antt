use Rattle.std.proofs.Common.{◌≡◌, ◌≤◌, length, map, vec_items, vec_len, vec_capacity}
use Rattle.parallel_select.proofs.workers.no_lists.Given as goal

abbrev pub invariant-loop-part : goal.invariant-loop-part
invariant-loop-part g l =
    (vec_len l.lists ≡ l.part) × (l.parts ≤ vec_capacity l.lists) × (length (map vec_items l.lists.items) ≡ l.part)
