use Rattle.std.specs.Prelude.{IsFalse, take}
use Rattle.part_core.specs.Rows.{has_row}
use Rattle.part_plain.proofs.places.place_of.Given as goal

abbrev pub invariant-loop-place : goal.invariant-loop-place
invariant-loop-place g l = IsFalse (has_row (take l.place l.rows) l.key)
