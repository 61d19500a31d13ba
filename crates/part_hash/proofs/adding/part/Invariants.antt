use Rattle.std.specs.Prelude.{◌≡◌, ◌%◌, ◌==◌, filter, take}
use Rattle.part_hash.proofs.adding.part.Given as goal

abbrev pub invariant-loop-place : goal.invariant-loop-place
invariant-loop-place g l = l.part.items ≡ filter (λ p. p.low % l.count == l.number) (take l.place-index l.places)
