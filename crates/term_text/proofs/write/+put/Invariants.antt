use Rattle.std.proofs.Common.{◌≡◌, ◌++◌, ◌+◌, ◌*◌, max, drop}
use Rattle.std.specs.Str.{encode_utf8_all}
use Rattle.std.specs.Option.{option_copied}
use Rattle.term_core.specs.Datum.{items_of, entries_of}
use Rattle.term_core.specs.Term.{tail_of}
use Rattle.term_core.specs.Limits.{depth, tail_depth, items_depth, entries_depth}
use Rattle.term_text.specs.Canonical.{items_text, more_items_text, entries_text, more_entries_text}
use Rattle.term_text.proofs.write.+put.Given as goal

abbrev pub decreases-put : goal.decreases-put
decreases-put g l = 4 * depth l.term.now

abbrev pub decreases-put_tuple : goal.decreases-put_tuple
decreases-put_tuple g l = 4 * items_depth (items_of l.elements.now) + 3

abbrev pub decreases-put_elements : goal.decreases-put_elements
decreases-put_elements g l = 4 * items_depth (items_of l.elements.now) + 2

abbrev pub decreases-put_list : goal.decreases-put_list
decreases-put_list g l = 4 * max (items_depth (items_of l.elements.now)) (tail_depth (tail_of (option_copied l.tail))) + 3

abbrev pub decreases-put_map : goal.decreases-put_map
decreases-put_map g l = 4 * entries_depth (entries_of l.pairs.now) + 3

abbrev pub decreases-put_pairs : goal.decreases-put_pairs
decreases-put_pairs g l = 4 * entries_depth (entries_of l.pairs.now) + 2

abbrev pub decreases-put_pair : goal.decreases-put_pair
decreases-put_pair g l = 4 * max (depth l.key.now) (depth l.value.now) + 1

abbrev pub invariant-put_elements-loop-element : goal.invariant-put_elements-loop-element
invariant-put_elements-loop-element g l = (l.out.front ≡ l.fn.out.front) × (l.out.items ++ encode_utf8_all (more_items_text l.fn.form (items_of (drop l.element-index l.rest))) ≡ l.fn.out.items ++ encode_utf8_all (items_text l.fn.form (items_of l.fn.elements)))

abbrev pub invariant-put_pairs-loop-key : goal.invariant-put_pairs-loop-key
invariant-put_pairs-loop-key g l = (l.out.front ≡ l.fn.out.front) × (l.out.items ++ encode_utf8_all (more_entries_text l.fn.form (entries_of (drop l.key-index l.rest))) ≡ l.fn.out.items ++ encode_utf8_all (entries_text l.fn.form (entries_of l.fn.pairs)))
