use Rattle.std.proofs.Common.{◌≡◌, List}
use Rattle.part_core.specs.Replies.{first_live}
use Rattle.part_core.specs.Rows.{Row}
use Rattle.part_engine.specs.Sets.{rows_from}
use Rattle.part_hash.specs.Standing.{Stands}
use Rattle.part_hash.proofs.walking.live_from.Given as goal

abbrev pub invariant-loop-class : goal.invariant-loop-class
invariant-loop-class g l =
    (rows : List Row) → Stands l.settings l.store rows
    → first_live (rows_from l.settings l.base l.class rows) ≡ first_live (rows_from l.settings l.base l.first rows)
