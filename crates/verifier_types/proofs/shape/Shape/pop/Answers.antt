use Rattle.std.proofs.Common.{arith, sym, ap, ◌∙◌, ◌-◌}
use Rattle.verifier_types.specs.Kept.{popped_shape}
use Rattle.verifier_types.proofs.ShapeLemmas.{depth_is, drop-frame_kinds}
use Rattle.verifier_types.proofs.shape.Shape.pop.Goals as goal

pub overflow_sub-depth : goal.overflow_sub-depth
overflow_sub-depth g c = omega (arith, c.requires, depth_is _ _ _ _ c.self.view_is)

pub returns : goal.returns
returns g c =
    let places = c.self.inside.places.items in
    let depth = c.self.inside.depth in
    let whole = drop-frame_kinds places c.args.count (depth - c.args.count) depth (omega (arith, c.requires, depth_is _ _ _ _ c.self.view_is)) in
    ap (λ ks. record { kinds = ks; bound = c.self.inside.bound.items }) (c.cut_places.ensures.kinds ∙ sym whole)
    ∙ ap (λ s. popped_shape s c.args.count) c.self.view_is

pub overflow_cast-depth : goal.overflow_cast-depth
overflow_cast-depth g c = record { fits = omega (arith, c.requires, depth_is _ _ _ _ c.self.view_is, c.self.ranges.0.1) }
