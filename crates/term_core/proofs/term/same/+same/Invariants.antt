-- depth decreases; the elements from a place on are equal
use Rattle.std.proofs.Common.{◌≡◌, ◌+◌, ◌*◌, drop}
use Rattle.term_core.specs.Datum.{items_of}
use Rattle.term_core.specs.Limits.{depth, items_depth}
use Rattle.term_core.proofs.term.same.+same.Given as goal

abbrev pub decreases-is_same : goal.decreases-is_same
decreases-is_same g l = 4 * depth l.a.now + 1

abbrev pub decreases-is_same_within : goal.decreases-is_same_within
decreases-is_same_within g l = 4 * depth l.a.now

abbrev pub decreases-same_tuples : goal.decreases-same_tuples
decreases-same_tuples g l = 4 * items_depth (items_of l.a.now) + 3

abbrev pub decreases-same_items : goal.decreases-same_items
decreases-same_items g l = 4 * items_depth (items_of l.a.now) + 2

abbrev pub invariant-same_items-loop-i : goal.invariant-same_items-loop-i
invariant-same_items-loop-i g l = drop l.i l.a ≡ drop l.i l.b
