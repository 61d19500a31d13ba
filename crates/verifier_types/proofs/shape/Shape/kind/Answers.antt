use Rattle.std.proofs.Common.{arith, sym, ap, ◌∙◌, Some, ◌-◌, ◌<◌}
use Rattle.std.proofs.lemmas.Option.{slice_get_past}
use Rattle.verifier_types.specs.Shape.{place_kind, frame_kinds}
use Rattle.verifier_types.proofs.ShapeLemmas.{length-frame_kinds, kind_from_top}
use Rattle.verifier_types.proofs.shape.Shape.kind.Goals as goal

pub returns-then-above-self : goal.returns-then-above-self
returns-then-above-self g c =
    let places = c.self.inside.places.items in
    let depth = c.self.inside.depth in
    rw (← c.self.view_is) (sym (slice_get_past (frame_kinds places depth) c.args.above (omega (arith, length-frame_kinds places depth, c.if-above-self.true))))

pub returns : goal.returns
returns g c =
    let places = c.self.inside.places.items in
    let depth = c.self.inside.depth in
    let within : c.args.above < depth = omega (arith, c.if-above-self.false) in
    rw (← c.self.view_is) (ap Some (c.place_kind.ensures ∙ ap (λ ps. place_kind ps (depth - 1 - c.args.above)) c.as_slice.ensures.value) ∙ sym (kind_from_top places c.args.above depth within))
