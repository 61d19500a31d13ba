use Rattle.std.proofs.Common.{◌≡◌, ◌+◌, ◌*◌, ◌≤◌, [], length, take, drop}
use Rattle.std.specs.Str.{chars}
use denote.Text.{Utf8}
use denote.Shadow.{shadow}
use Rattle.term_text.specs.TokenReading.{all_steps}
use Rattle.term_text.specs.Reading.{separated, elements_at, pair_at, pairs_from, term_at}
use Rattle.term_core.specs.Datum.{entries_of}
use Rattle.term_core.specs.MapPairs.{AreRising}
use Rattle.term_text.proofs.read.+term.Given as goal

abbrev pub decreases-form : goal.decreases-form
decreases-form g l = 10 * l.levels + 9

abbrev pub decreases-term : goal.decreases-term
decreases-term g l = 10 * l.levels + 1

abbrev pub decreases-any_term : goal.decreases-any_term
decreases-any_term g l = 10 * l.levels

abbrev pub decreases-one_term : goal.decreases-one_term
decreases-one_term g l = 10 * l.levels + 1

abbrev pub decreases-tail : goal.decreases-tail
decreases-tail g l = 10 * l.levels

abbrev pub decreases-elements : goal.decreases-elements
decreases-elements g l = 10 * l.levels + 5

abbrev pub invariant-elements-loop-after : goal.invariant-elements-loop-after
invariant-elements-loop-after g l =
    shadow (Utf8 l.rest) × ((l.fn.base ≤ length l.stack.items) × ((take l.fn.base l.stack.items ≡ take l.fn.base l.fn.stack.items)
    × (elements_at (term_at l.fn.levels) l.fn.limit (drop l.fn.base l.stack.items) (chars l.rest) ≡ elements_at (term_at l.fn.levels) l.fn.limit (drop l.fn.base l.fn.stack.items) (chars l.fn.text))))

abbrev pub decreases-elements-loop-after : goal.decreases-elements-loop-after
decreases-elements-loop-after g l = length (chars l.rest)

abbrev pub decreases-tuple : goal.decreases-tuple
decreases-tuple g l = 10 * l.levels + 8

abbrev pub decreases-list : goal.decreases-list
decreases-list g l = 10 * l.levels + 8

abbrev pub decreases-more_of_list : goal.decreases-more_of_list
decreases-more_of_list g l = 10 * l.levels + 7

abbrev pub decreases-list_end : goal.decreases-list_end
decreases-list_end g l = 10 * l.levels + 6

abbrev pub decreases-tail_end : goal.decreases-tail_end
decreases-tail_end g l = 10 * l.levels + 5

abbrev pub decreases-few_pair : goal.decreases-few_pair
decreases-few_pair g l = 10 * l.levels + 5

abbrev pub decreases-few_pairs : goal.decreases-few_pairs
decreases-few_pairs g l = 10 * l.levels + 6

abbrev pub invariant-few_pairs-loop-read : goal.invariant-few_pairs-loop-read
invariant-few_pairs-loop-read g l =
    shadow (Utf8 l.rest) × ((l.stack.items ≡ l.fn.stack.items) × (AreRising (entries_of l.few.items) × (pairs_from (term_at l.fn.levels) l.goes_on l.few.items (chars l.rest) ≡ all_steps (separated (pair_at (term_at l.fn.levels))) [] (chars l.fn.text))))

abbrev pub decreases-pair : goal.decreases-pair
decreases-pair g l = 10 * l.levels + 5

abbrev pub decreases-more_pairs : goal.decreases-more_pairs
decreases-more_pairs g l = 10 * l.levels + 6

abbrev pub invariant-more_pairs-loop-more : goal.invariant-more_pairs-loop-more
invariant-more_pairs-loop-more g l =
    shadow (Utf8 l.rest) × ((l.stack.items ≡ l.fn.stack.items) × (all_steps (separated (pair_at (term_at l.levels))) l.pairs.entries (chars l.rest) ≡ all_steps (separated (pair_at (term_at l.fn.levels))) l.fn.pairs.entries (chars l.fn.text)))

abbrev pub decreases-more_pairs-loop-more : goal.decreases-more_pairs-loop-more
decreases-more_pairs-loop-more g l = length (chars l.rest)

abbrev pub decreases-pairs : goal.decreases-pairs
decreases-pairs g l = 10 * l.levels + 7

abbrev pub decreases-map : goal.decreases-map
decreases-map g l = 10 * l.levels + 8
