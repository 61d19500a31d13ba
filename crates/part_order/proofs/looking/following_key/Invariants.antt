use Rattle.std.proofs.Common.{◌≡◌}
use Rattle.part_core.specs.Replies.{first_live}
use Rattle.part_core.specs.Visits.{following_rows}
use Rattle.part_order.proofs.looking.following_key.Given as goal

abbrev pub invariant-loop-next : goal.invariant-loop-next
invariant-loop-next g l =
    first_live l.next-iterator ≡ first_live (following_rows l.key l.tree.entries)
