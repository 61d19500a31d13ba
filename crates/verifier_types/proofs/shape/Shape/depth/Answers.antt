use Rattle.verifier_types.proofs.ShapeLemmas.{depth_is}
use Rattle.verifier_types.proofs.shape.Shape.depth.Goals as goal

pub returns : goal.returns
returns g c = depth_is _ _ _ _ c.self.view_is
