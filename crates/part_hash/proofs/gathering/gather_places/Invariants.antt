use Rattle.std.proofs.Common.{◌≡◌, ◌++◌, take}
use Rattle.std.specs.Prelude.{flat_map}
use Rattle.part_core.specs.Rows.{Row}
use Rattle.part_hash.specs.Places.{rows_of}
use Rattle.part_hash.proofs.gathering.gather_places.Given as goal

abbrev pub invariant-loop-place : goal.invariant-loop-place
invariant-loop-place g l =
    l.into.items ≡ l.initial.into.items ++ flat_map (λ (r : Row). r.1) (rows_of l.rows (take l.place-index l.places))
