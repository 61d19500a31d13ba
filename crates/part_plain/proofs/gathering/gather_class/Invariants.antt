use Rattle.std.proofs.Common.{◌≡◌, ◌++◌, take}
use Rattle.std.specs.Prelude.{flat_map}
use Rattle.part_core.specs.Visits.{in_class}
use Rattle.part_plain.proofs.gathering.gather_class.Given as goal

abbrev pub invariant-loop-row : goal.invariant-loop-row
invariant-loop-row g l =
    l.into.items ≡ l.initial.into.items ++ flat_map (λ r. r.1) (in_class l.settings l.base l.class (take l.row-index l.rows))
