-- depth decreases, with a row of terms after a term of its depth
use Rattle.std.proofs.Common.{◌≡◌, ◌+◌, ◌*◌, drop}
use Rattle.term_core.specs.Datum.{items_of, entries_of}
use Rattle.term_core.specs.Limits.{depth, items_depth, entries_depth}
use Rattle.mspec_syntax.specs.Sought.{is_sought}
use Rattle.mspec_syntax.specs.Grammar.{items_mention, entries_mention}
use Rattle.mspec_reader.proofs.head.+mention.Given as goal

abbrev pub decreases-mentions : goal.decreases-mentions
decreases-mentions g l = 2 * depth l.term.now

abbrev pub decreases-any_mentions : goal.decreases-any_mentions
decreases-any_mentions g l = 2 * items_depth (items_of l.terms.now) + 1

abbrev pub decreases-any_pair_mentions : goal.decreases-any_pair_mentions
decreases-any_pair_mentions g l = 2 * entries_depth (entries_of l.pairs.now) + 1

-- what remains decides
abbrev pub invariant-any_mentions-loop-term : goal.invariant-any_mentions-loop-term
invariant-any_mentions-loop-term g l =
    items_mention (is_sought l.sought) (items_of (drop l.term-index l.terms)) ≡ items_mention (is_sought l.sought) (items_of l.terms)

abbrev pub invariant-any_pair_mentions-loop-key : goal.invariant-any_pair_mentions-loop-key
invariant-any_pair_mentions-loop-key g l =
    entries_mention (is_sought l.sought) (entries_of (drop l.key-index l.pairs)) ≡ entries_mention (is_sought l.sought) (entries_of l.pairs)
