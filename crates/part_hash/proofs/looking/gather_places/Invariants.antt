use Rattle.std.proofs.Common.{◌≡◌, ◌==◌, ◌++◌, take}
use Rattle.std.specs.Prelude.{filter}
use Rattle.part_core.specs.Settings.{class_at}
use Rattle.part_hash.specs.Places.{passes}
use Rattle.part_hash.proofs.looking.gather_places.Given as goal

abbrev pub invariant-loop-place : goal.invariant-loop-place
invariant-loop-place g l =
    l.into.items ≡ l.initial.into.items ++ filter (passes (λ k. class_at l.settings l.base k == l.class) l.rows) (take l.place-index l.places)
