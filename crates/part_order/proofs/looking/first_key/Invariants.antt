use Rattle.std.proofs.Common.{◌≡◌}
use Rattle.part_core.specs.Replies.{first_live}
use Rattle.part_order.proofs.looking.first_key.Given as goal

abbrev pub invariant-loop-key : goal.invariant-loop-key
invariant-loop-key g l = first_live l.key-iterator ≡ first_live l.tree.entries
