use Rattle.std.proofs.Common.{◌≡◌}
use Rattle.part_core.specs.Replies.{first_live}
use Rattle.part_engine.specs.Sets.{rows_from}
use Rattle.part_plain.proofs.walking.live_from.Given as goal

abbrev pub invariant-loop-class : goal.invariant-loop-class
invariant-loop-class g l =
    first_live (rows_from l.settings l.base l.class l.rows) ≡ first_live (rows_from l.settings l.base l.first l.rows)
