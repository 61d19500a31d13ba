use Rattle.std.proofs.Common.{◌≡◌, ◌++◌}
use Rattle.std.specs.Prelude.{flat_map}
use Rattle.part_engine.specs.Sets.{rows_from}
use Rattle.part_plain.proofs.gathering.gather.Given as goal

abbrev pub invariant-loop-class : goal.invariant-loop-class
invariant-loop-class g l =
    l.into.items ++ flat_map (λ r. r.1) (rows_from l.settings l.base l.class l.rows) ≡ l.initial.into.items ++ flat_map (λ r. r.1) (rows_from l.settings l.base 0 l.rows)
