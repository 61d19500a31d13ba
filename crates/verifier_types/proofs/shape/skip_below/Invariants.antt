-- The places so far have smaller numbers.
use Rattle.std.specs.Prelude.{◌<◌, All, take}
use Rattle.mcode.specs.Program.{place_number}
use Rattle.verifier_types.proofs.shape.skip_below.Given as goal

abbrev pub invariant-loop-index : goal.invariant-loop-index
invariant-loop-index l = All (λ place. place_number place < l.number) (take l.index l.places)
