-- The kinds so far are below, so the remaining ones decide.
use Rattle.std.specs.Prelude.{◌≡◌, reverse}
use Rattle.verifier_types.specs.Effect.{are_below}
use Rattle.verifier_types.proofs.PassedLemmas.{left_below}
use Rattle.verifier_types.proofs.effect.are_tops_below.Given as goal

abbrev pub invariant-loop-above : goal.invariant-loop-above
invariant-loop-above g l = are_below l.shape.kinds (reverse l.arguments) ≡ left_below l.shape.kinds l.arguments l.above
