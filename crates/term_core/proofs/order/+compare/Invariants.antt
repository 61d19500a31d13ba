-- What remains compares as the whole does.
use Rattle.std.proofs.Common.{◌≡◌, ◌+◌, ◌*◌, max, drop}
use Rattle.std.specs.Option.{option_copied}
use Rattle.term_core.specs.Datum.{items_of, entries_of, cells}
use Rattle.term_core.specs.Limits.{depth, items_depth, entries_depth, tail_depth}
use Rattle.term_core.specs.Order.{datum_cmp, items_cmp, keys_cmp, values_cmp}
use Rattle.term_core.specs.Term.{tail_of}
use Rattle.term_core.proofs.order.+compare.Given as goal

abbrev pub decreases-compare : goal.decreases-compare
decreases-compare g l = 5 * depth l.a.now + 1

abbrev pub decreases-compare_alike : goal.decreases-compare_alike
decreases-compare_alike g l = 5 * depth l.a.now

abbrev pub decreases-compare_tuples : goal.decreases-compare_tuples
decreases-compare_tuples g l = 5 * items_depth (items_of l.a.now) + 3

abbrev pub decreases-compare_items : goal.decreases-compare_items
decreases-compare_items g l = 5 * items_depth (items_of l.a.now) + 2

abbrev pub decreases-compare_maps : goal.decreases-compare_maps
decreases-compare_maps g l = 5 * entries_depth (entries_of l.a.now) + 4

abbrev pub decreases-compare_entries : goal.decreases-compare_entries
decreases-compare_entries g l = 5 * entries_depth (entries_of l.a.now) + 3

abbrev pub decreases-compare_keys : goal.decreases-compare_keys
decreases-compare_keys g l = 5 * entries_depth (entries_of l.a.now) + 2

abbrev pub decreases-compare_values : goal.decreases-compare_values
decreases-compare_values g l = 5 * entries_depth (entries_of l.a.now) + 2

abbrev pub decreases-compare_lists : goal.decreases-compare_lists
decreases-compare_lists g l = 5 * max (items_depth (items_of l.a.now)) (tail_depth (tail_of (option_copied l.a_tail))) + 3

abbrev pub decreases-compare_tails : goal.decreases-compare_tails
decreases-compare_tails g l = 5 * tail_depth (tail_of (option_copied l.a)) + 2

abbrev pub invariant-compare_items-loop-i : goal.invariant-compare_items-loop-i
invariant-compare_items-loop-i g l = items_cmp (items_of (drop l.i l.a)) (items_of (drop l.i l.b)) ≡ items_cmp (items_of l.a) (items_of l.b)

abbrev pub invariant-compare_keys-loop-i : goal.invariant-compare_keys-loop-i
invariant-compare_keys-loop-i g l = keys_cmp (entries_of (drop l.i l.a)) (entries_of (drop l.i l.b)) ≡ keys_cmp (entries_of l.a) (entries_of l.b)

abbrev pub invariant-compare_values-loop-i : goal.invariant-compare_values-loop-i
invariant-compare_values-loop-i g l = values_cmp (entries_of (drop l.i l.a)) (entries_of (drop l.i l.b)) ≡ values_cmp (entries_of l.a) (entries_of l.b)

abbrev pub invariant-compare_lists-loop-i : goal.invariant-compare_lists-loop-i
invariant-compare_lists-loop-i g l =
    datum_cmp (cells (drop l.i l.a) (tail_of (option_copied l.a_tail))) (cells (drop l.i l.b) (tail_of (option_copied l.b_tail)))
    ≡ datum_cmp (cells l.a (tail_of (option_copied l.a_tail))) (cells l.b (tail_of (option_copied l.b_tail)))
