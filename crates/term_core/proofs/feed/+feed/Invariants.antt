-- depth decreases; feeding what remains completes the whole
use Rattle.std.proofs.Common.{◌+◌, ◌*◌, max, drop}
use Rattle.std.specs.Option.{option_copied}
use Rattle.term_core.specs.Datum.{items_of, entries_of}
use Rattle.term_core.specs.Fed.{items_fed, entries_fed}
use Rattle.term_core.specs.Limits.{depth, items_depth, entries_depth, tail_depth}
use Rattle.term_core.specs.Term.{tail_of}
use Rattle.term_core.proofs.FedLemmas.{Leads}
use Rattle.term_core.proofs.feed.+feed.Given as goal

abbrev pub decreases-feed : goal.decreases-feed
decreases-feed g l = 4 * depth l.term.now

abbrev pub decreases-feed_elements : goal.decreases-feed_elements
decreases-feed_elements g l = 4 * items_depth (items_of l.elements.now) + 1

abbrev pub decreases-feed_tuple : goal.decreases-feed_tuple
decreases-feed_tuple g l = 4 * items_depth (items_of l.elements.now) + 2

abbrev pub decreases-feed_pair : goal.decreases-feed_pair
decreases-feed_pair g l = 4 * max (depth l.pair.now.0) (depth l.pair.now.1) + 1

abbrev pub decreases-feed_pairs : goal.decreases-feed_pairs
decreases-feed_pairs g l = 4 * entries_depth (entries_of l.pairs.now) + 2

abbrev pub decreases-feed_map : goal.decreases-feed_map
decreases-feed_map g l = 4 * entries_depth (entries_of l.pairs.now) + 3

abbrev pub decreases-feed_list : goal.decreases-feed_list
decreases-feed_list g l = 4 * max (items_depth (items_of l.elements.now)) (tail_depth (tail_of (option_copied l.tail))) + 2

abbrev pub decreases-feed_tail : goal.decreases-feed_tail
decreases-feed_tail g l = 4 * tail_depth (tail_of (option_copied l.tail)) + 1

abbrev pub invariant-feed_elements-loop-i : goal.invariant-feed_elements-loop-i
invariant-feed_elements-loop-i g l =
    Leads g.H.Hasher.write l.initial.state l.state (items_fed (items_of (drop l.i l.elements))) (items_fed (items_of l.elements))

abbrev pub invariant-feed_pairs-loop-i : goal.invariant-feed_pairs-loop-i
invariant-feed_pairs-loop-i g l =
    Leads g.H.Hasher.write l.initial.state l.state (entries_fed (entries_of (drop l.i l.pairs))) (entries_fed (entries_of l.pairs))
