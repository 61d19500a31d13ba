-- The slots so far are marked, and marking the remaining ones marks all.
use Rattle.std.specs.Prelude.{◌≡◌, length, drop}
use Rattle.verifier_types.specs.Shape.{marked}
use Rattle.verifier_types.proofs.shape.mark.Given as goal

abbrev pub invariant-loop-slot : goal.invariant-loop-slot
invariant-loop-slot l =
    (marked l.bound (drop l.slot-index l.slots) ≡ marked l.fn.bound l.slots) × (length l.bound ≡ length l.fn.bound)
