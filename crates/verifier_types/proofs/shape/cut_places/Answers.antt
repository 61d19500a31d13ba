use Rattle.std.proofs.Common.{refl, sym, ◌∙◌}
use Rattle.verifier_types.proofs.ShapeLemmas.{cut_popped}
use Rattle.verifier_types.proofs.shape.cut_places.Goals as goal

pub loop-places-smaller : goal.loop-places-smaller
loop-places-smaller g c =
    let reaching = c.loop-places-test.ensures.above refl in
    let reaching = rw c.as_slice.ensures.value at reaching in
    (cut_popped c.args.depth _ c.loop-places.places.items c.pop.new.self.items c.pop.result c.loop-places.invariant.0 (sym c.loop-places.places.ok.0) c.pop.ensures.items c.pop.ensures.value reaching).fewer

pub loop-places-preserved : goal.loop-places-preserved
loop-places-preserved g c =
    let reaching = c.loop-places-test.ensures.above refl in
    let reaching = rw c.as_slice.ensures.value at reaching in
    let once = cut_popped c.args.depth _ c.loop-places.places.items c.pop.new.self.items c.pop.result c.loop-places.invariant.0 (sym c.loop-places.places.ok.0) c.pop.ensures.items c.pop.ensures.value reaching in
    (once.rise, once.kinds ∙ c.loop-places.invariant.1)
