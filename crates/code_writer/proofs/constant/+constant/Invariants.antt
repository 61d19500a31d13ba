-- The recursion decreases the depth of the terms.
use Rattle.std.proofs.Common.{◌+◌, ◌*◌, max}
use Rattle.std.specs.Option.{option_copied}
use Rattle.term_core.specs.Datum.{items_of, entries_of}
use Rattle.term_core.specs.Term.{tail_of}
use Rattle.term_core.specs.Limits.{IsTerm, depth, tail_depth, items_depth, entries_depth}
use Rattle.code_writer.specs.Spelling.{constant_bytes, pair_bytes}
use Rattle.code_writer.proofs.WriteLemmas.{IsWritten}
use Rattle.code_writer.proofs.constant.+constant.Given as goal

abbrev pub decreases-put_constant : goal.decreases-put_constant
decreases-put_constant g l = 4 * depth l.term.now

abbrev pub decreases-put_elements : goal.decreases-put_elements
decreases-put_elements g l = 4 * items_depth (items_of l.elements.now) + 1

abbrev pub decreases-put_tuple : goal.decreases-put_tuple
decreases-put_tuple g l = 4 * items_depth (items_of l.elements.now) + 2

abbrev pub decreases-put_pairs : goal.decreases-put_pairs
decreases-put_pairs g l = 4 * entries_depth (entries_of l.pairs.now) + 1

abbrev pub decreases-put_map : goal.decreases-put_map
decreases-put_map g l = 4 * entries_depth (entries_of l.pairs.now) + 2

abbrev pub decreases-put_tail : goal.decreases-put_tail
decreases-put_tail g l = 4 * depth (tail_of (option_copied l.tail)) + 1

abbrev pub decreases-put_list : goal.decreases-put_list
decreases-put_list g l = 4 * max (items_depth (items_of l.elements.now)) (tail_depth (tail_of (option_copied l.tail))) + 2

abbrev pub invariant-put_elements-loop-element : goal.invariant-put_elements-loop-element
invariant-put_elements-loop-element g l = IsWritten constant_bytes IsTerm l.elements l.element-index l.initial.out.items l.out.items

abbrev pub invariant-put_pairs-loop-key : goal.invariant-put_pairs-loop-key
invariant-put_pairs-loop-key g l = IsWritten pair_bytes (λ _. Unit {0}) l.pairs l.key-index l.initial.out.items l.out.items
