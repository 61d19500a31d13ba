use Rattle.std.proofs.Common.{◌≡◌, ◌++◌, take}
use Rattle.part_hash.specs.Places.{rows_of}
use Rattle.part_hash.proofs.looking.look_at_places.Given as goal

abbrev pub invariant-loop-place : goal.invariant-loop-place
invariant-loop-place g l =
    l.into.items ≡ l.initial.into.items ++ rows_of l.rows (take l.place-index l.places)
