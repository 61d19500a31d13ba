-- The entries so far are above, and the places that were passed are below each later entry.
use Rattle.std.specs.Prelude.{take}
use Rattle.verifier_types.specs.Kept.{AreListedAbove}
use Rattle.verifier_types.proofs.CursorLemmas.{ArePassed}
use Rattle.verifier_types.proofs.shape.listed_above.Given as goal

abbrev pub invariant-loop-index : goal.invariant-loop-index
invariant-loop-index l =
    AreListedAbove l.places (take l.index l.listed) × ArePassed l.places l.listed l.next l.index
