use Rattle.std.proofs.Common.{◌≡◌, drop}
use Rattle.part_core.specs.Visits.{in_class}
use Rattle.part_core.specs.Replies.{first_live}
use Rattle.part_plain.proofs.walking.live_in.Given as goal

abbrev pub invariant-loop-row : goal.invariant-loop-row
invariant-loop-row g l =
    first_live (in_class l.settings l.base l.class (drop l.row-index l.rows)) ≡ first_live (in_class l.settings l.base l.class l.rows)
