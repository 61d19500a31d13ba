-- Mixing what remains into the hash so far gives the whole.
use Rattle.std.proofs.Common.{◌≡◌, ◌+◌, ◌*◌, max, drop}
use Rattle.std.specs.Option.{option_copied}
use Rattle.term_core.specs.Datum.{items_of, entries_of}
use Rattle.term_core.specs.KeyHash.{mix_items, mix_entries}
use Rattle.term_core.specs.Limits.{depth, items_depth, entries_depth, tail_depth}
use Rattle.term_core.specs.Term.{tail_of}
use Rattle.term_core.proofs.hash.+hash.Given as goal

abbrev pub decreases-hash_of : goal.decreases-hash_of
decreases-hash_of g l = 4 * depth l.term.now

abbrev pub decreases-mix_elements : goal.decreases-mix_elements
decreases-mix_elements g l = 4 * items_depth (items_of l.elements.now) + 1

abbrev pub decreases-mix_pairs : goal.decreases-mix_pairs
decreases-mix_pairs g l = 4 * entries_depth (entries_of l.pairs.now) + 1

abbrev pub decreases-mix_list : goal.decreases-mix_list
decreases-mix_list g l = 4 * max (items_depth (items_of l.elements.now)) (tail_depth (tail_of (option_copied l.tail))) + 2

abbrev pub decreases-hash_of_tail : goal.decreases-hash_of_tail
decreases-hash_of_tail g l = 4 * tail_depth (tail_of (option_copied l.tail)) + 1

abbrev pub invariant-mix_elements-loop-i : goal.invariant-mix_elements-loop-i
invariant-mix_elements-loop-i g l = mix_items l.mixed (items_of (drop l.i l.elements)) ≡ mix_items l.fn.hash (items_of l.elements)

abbrev pub invariant-mix_pairs-loop-i : goal.invariant-mix_pairs-loop-i
invariant-mix_pairs-loop-i g l = mix_entries l.mixed (entries_of (drop l.i l.pairs)) ≡ mix_entries l.fn.hash (entries_of l.pairs)
