use Rattle.std.proofs.Common.{arith}
use Rattle.verifier_types.proofs.ShapeLemmas.{depth_is}
use Rattle.verifier_types.proofs.shape.Shape.push.Goals as goal

pub push_place-requires-clause-room : goal.push_place-requires-clause-room
push_place-requires-clause-room g c = omega (arith, c.requires, depth_is _ _ _ _ c.self.view_is)

pub overflow_add-self : goal.overflow_add-self
overflow_add-self g c = record { fits = omega (arith, c.requires, depth_is _ _ _ _ c.self.view_is) }
