use Rattle.std.proofs.Common.{◌+◌, ◌<◌, SFits, length, drop, arith, ap}
use Rattle.std.specs.Int.{w64}
use Rattle.std.proofs.lemmas.Int.{to_z-of_z}
use Rattle.std.specs.Option.{option_copied}
use Rattle.term_core.specs.Datum.{items_of, entries_of, cells}
use Rattle.term_core.specs.Datum.Datum.{map, tuple}
use Rattle.term_core.specs.Fed.{term_fed, items_fed, entries_fed}
use Rattle.term_core.specs.Limits.{depth}
use Rattle.term_core.specs.Term.{tail_of}
use Rattle.term_core.specs.TermFalls.{depth-cells}
use Rattle.term_core.proofs.FedLemmas.{fed_behind, fed_both, fed_one, leads_begin, leads_on, leads_end, items-at, items-end, entries-at, entries-end, tuple-fed, map-fed, list-fed}
use Rattle.term_core.proofs.RowLemmas.{depth-element, depth-entry}
use Rattle.term_core.proofs.feed.+feed.Goals as goal

pub feed-feed_list-requires : goal.feed-feed_list-requires
feed-feed_list-requires g t c κs within =
    let deep = depth-cells c.in-List.elements.now (tail_of (option_copied c.in-List.tail)) c.in-List.ensures.split.0 in
    let whole = ap depth c.in-List.ensures.value in (omega arith, (within.0, (within.1, c.in-List.ensures.split)))

pub feed-returns-in-Integer : goal.feed-returns-in-Integer
unfolding term_fed
feed-returns-in-Integer g t c =
    let fits : SFits w64 c.in-Integer.value = (rw (← c.in-Integer.ensures.value) at c.in-Integer.ensures.within).sound in
    rw (← c.in-Integer.ensures.value) (fed_one g.H.Hasher.write _ _ _ (simp to_z-of_z at c.write_i64.ensures))

pub feed-returns-in-Atom : goal.feed-returns-in-Atom
feed-returns-in-Atom g t c = rw (← c.in-Atom.ensures.value) c.feed_atom.ensures

pub feed-returns-in-Tuple : goal.feed-returns-in-Tuple
feed-returns-in-Tuple g t c = rw (← c.in-Tuple.ensures.value) c.feed_tuple.ensures

pub feed-returns-in-Map : goal.feed-returns-in-Map
feed-returns-in-Map g t c = rw (← c.in-Map.ensures.value) c.feed_map.ensures

pub feed-returns-in-Nil : goal.feed-returns-in-Nil
unfolding term_fed
feed-returns-in-Nil g t c = rw (← c.in-Nil.ensures.value) c.feed_kind.ensures

pub feed-returns-in-List : goal.feed-returns-in-List
feed-returns-in-List g t c = rw (← c.in-List.ensures.value) c.feed_list.ensures

pub feed-returns-in-Binary : goal.feed-returns-in-Binary
feed-returns-in-Binary g t c = rw (← c.in-Binary.ensures.value) c.feed_binary.ensures

pub feed_elements-feed-requires : goal.feed_elements-feed-requires
feed_elements-feed-requires g t c κs within =
    let there : c.loop-i.i < length c.args.elements.now = omega arith in
    let deep = depth-element c.args.elements.now c.loop-i.i c.index-elements-i.result there c.index-elements-i.is in (omega arith, within)

pub feed_elements-loop-i-init : goal.feed_elements-loop-i-init
feed_elements-loop-i-init g t c = leads_begin g.H.Hasher.write c.args.state.now (items_fed (items_of c.args.elements.now))

pub feed_elements-loop-i-preserved : goal.feed_elements-loop-i-preserved
feed_elements-loop-i-preserved g t c =
    let xs = c.args.elements.now in
    let i = c.loop-i.i in
    let there : i < length xs = omega arith in
    leads_on g.H.Hasher.write _ _ _ (term_fed c.index-elements-i.result) (items_fed (items_of (drop i xs))) (items_fed (items_of (drop (i + 1) xs))) (items_fed (items_of xs)) c.feed.ensures (items-at xs i c.index-elements-i.result there c.index-elements-i.is) c.loop-i.invariant

pub feed_elements-returns : goal.feed_elements-returns
feed_elements-returns g t c =
    let xs = c.args.elements.now in
    leads_end g.H.Hasher.write _ _ (items_fed (items_of (drop c.loop-i.i xs))) (items_fed (items_of xs)) (items-end xs c.loop-i.i (omega arith)) c.loop-i.invariant

pub feed_tuple-returns : goal.feed_tuple-returns
feed_tuple-returns g t c =
    let xs = c.args.elements.now in
    fed_behind g.H.Hasher.write _ _ _ 2 (length xs) (items_fed (items_of xs)) (term_fed (tuple (items_of xs))) c.feed_kind.ensures c.feed_elements.ensures (tuple-fed xs)

pub feed_pair-returns : goal.feed_pair-returns
feed_pair-returns g t c =
    fed_both g.H.Hasher.write _ _ _ (term_fed c.args.pair.now.0) (term_fed c.args.pair.now.1) c.feed.ensures c.feed-2.ensures

pub feed_pairs-feed_pair-requires : goal.feed_pairs-feed_pair-requires
feed_pairs-feed_pair-requires g t c κs within =
    let there : c.loop-i.i < length c.args.pairs.now = omega arith in
    let deep = depth-entry c.args.pairs.now c.loop-i.i c.index-pairs-i.result there c.index-pairs-i.is in (omega arith, within)

pub feed_pairs-loop-i-init : goal.feed_pairs-loop-i-init
feed_pairs-loop-i-init g t c = leads_begin g.H.Hasher.write c.args.state.now (entries_fed (entries_of c.args.pairs.now))

pub feed_pairs-loop-i-preserved : goal.feed_pairs-loop-i-preserved
feed_pairs-loop-i-preserved g t c =
    let xs = c.args.pairs.now in
    let i = c.loop-i.i in
    let there : i < length xs = omega arith in
    leads_on g.H.Hasher.write _ _ _ (λ rest. term_fed c.index-pairs-i.result.0 (term_fed c.index-pairs-i.result.1 rest)) (entries_fed (entries_of (drop i xs))) (entries_fed (entries_of (drop (i + 1) xs))) (entries_fed (entries_of xs)) c.feed_pair.ensures (entries-at xs i c.index-pairs-i.result there c.index-pairs-i.is) c.loop-i.invariant

pub feed_pairs-returns : goal.feed_pairs-returns
feed_pairs-returns g t c =
    let xs = c.args.pairs.now in
    leads_end g.H.Hasher.write _ _ (entries_fed (entries_of (drop c.loop-i.i xs))) (entries_fed (entries_of xs)) (entries-end xs c.loop-i.i (omega arith)) c.loop-i.invariant

pub feed_map-returns : goal.feed_map-returns
feed_map-returns g t c =
    let xs = c.args.pairs.now in
    fed_behind g.H.Hasher.write _ _ _ 3 (length xs) (entries_fed (entries_of xs)) (term_fed (map (entries_of xs))) c.feed_kind.ensures c.feed_pairs.ensures (map-fed xs)

pub feed_list-returns : goal.feed_list-returns
feed_list-returns g t c =
    let xs = c.args.elements.now in
    let tail = option_copied c.args.tail in
    let W = g.H.Hasher.write in
    fed_behind W _ _ _ 5 (length xs) (λ rest. items_fed (items_of xs) (term_fed (tail_of tail) rest)) (term_fed (cells xs (tail_of tail))) c.feed_kind.ensures
    (fed_both W _ _ _ (items_fed (items_of xs)) (term_fed (tail_of tail)) c.feed_elements.ensures c.feed_tail.ensures)
    (list-fed xs tail c.requires.some c.requires.tail)

pub feed_tail-returns-in-None : goal.feed_tail-returns-in-None
unfolding term_fed
feed_tail-returns-in-None g t c = rw c.in-None.is c.feed_kind.ensures

pub feed_tail-returns-in-Some : goal.feed_tail-returns-in-Some
feed_tail-returns-in-Some g t c = rw c.in-Some.is c.feed.ensures
