use Rattle.term_core.proofs.MapLemmas.{deepest_more, ord_max-nat, sound_more}
use Rattle.term_text.proofs.pairs.deepest_pair.Goals as goal

pub loop-pair-preserved : goal.loop-pair-preserved
loop-pair-preserved g c =
    let ps = c.args.pairs.now in
    let i = c.loop-pair.pair-index in
    let more = deepest_more ps i c.loop-pair.deepest _ _ c.pair-item.result c.loop-pair-test.true c.pair-item.is c.depth.ensures.value c.depth-in-loop-pair.ensures.value c.loop-pair.invariant.0 in (
      rw (c.max-deepest.ensures, c.max.ensures, ord_max-nat c.loop-pair.deepest c.depth.result) more,
      sound_more ps i c.pair-item.result c.loop-pair-test.true c.pair-item.is (c.depth.ensures.within.sound, c.depth-in-loop-pair.ensures.within.sound) c.loop-pair.invariant.1,
    )
