-- The places that were removed are at the depth or above it.
use Rattle.std.specs.Prelude.{◌≡◌, length}
use Rattle.mcode.specs.Program.{Rise, place_number}
use Rattle.verifier_types.specs.Shape.{frame_kinds}
use Rattle.verifier_types.proofs.shape.cut_places.Given as goal

abbrev pub invariant-loop-places : goal.invariant-loop-places
invariant-loop-places g l =
    (Rise place_number l.places.items) × (frame_kinds l.places.items l.depth ≡ frame_kinds l.fn.places.items l.depth)

abbrev pub decreases-loop-places : goal.decreases-loop-places
decreases-loop-places g l = length l.places.items
