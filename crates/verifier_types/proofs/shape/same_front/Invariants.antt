-- The places so far are the same.
use Rattle.std.specs.Prelude.{◌≡◌, take}
use Rattle.verifier_types.proofs.shape.same_front.Given as goal

abbrev pub invariant-loop-index : goal.invariant-loop-index
invariant-loop-index l = take l.index l.places ≡ take l.index l.listed
