use Rattle.std.proofs.Common.{sym, ◌∙◌, ◌≡◌, length}
use Rattle.verifier_types.proofs.ShapeLemmas.{below-length, length-frame_kinds}
use Rattle.verifier_types.proofs.shape.Shape.is_at_or_below.Goals as goal

pub returns-then-frame-depth : goal.returns-then-frame-depth
returns-then-frame-depth g c = (
  λ never. absurd (cc),
  λ below.
      let same : length c.args.self.now.kinds ≡ c.args.frame.now.depth = below-length _ _ below.kinds ∙ length-frame_kinds c.args.frame.now.places c.args.frame.now.depth in
      absurd (c.if-frame-depth.true (sym same ∙ sym c.depth.ensures)),
)
