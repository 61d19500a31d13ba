use Rattle.std.proofs.Common.{◌≡◌, ◌++◌, List}
use Rattle.std.specs.Prelude.{flat_map}
use Rattle.part_core.specs.Rows.{Row}
use Rattle.part_engine.specs.Sets.{rows_from}
use Rattle.part_hash.specs.Standing.{Stands}
use Rattle.part_hash.proofs.gathering.gather.Given as goal

abbrev pub invariant-loop-class : goal.invariant-loop-class
invariant-loop-class g l =
    (rows : List Row) → Stands l.settings l.store rows
    → l.into.items ++ flat_map (λ (r : Row). r.1) (rows_from l.settings l.base l.class rows) ≡ l.initial.into.items ++ flat_map (λ (r : Row). r.1) (rows_from l.settings l.base 0 rows)
