use Rattle.std.specs.Prelude.{◌≡◌, false}
use Rattle.std.specs.List.{AllWithin}
use Rattle.part_hash.specs.Places.{is_standing}
use Rattle.part_hash.proofs.places.first_standing.Given as goal

abbrev pub invariant-loop-number : goal.invariant-loop-number
invariant-loop-number g l = AllWithin (λ p. is_standing l.rows p ≡ false) l.places l.from l.number
