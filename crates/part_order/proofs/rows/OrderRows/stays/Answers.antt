use Rattle.std.specs.Map.{lookup}
use Rattle.term_operand.specs.Order.{is_same}
use Rattle.part_order.proofs.TreeLemmas.{none_stays}
use Rattle.part_order.proofs.rows.OrderRows.stays.Goals as goal

pub returns-then-replaces : goal.returns-then-replaces
returns-then-replaces g c =
    none_stays c.args.replaces (lookup (is_same c.args.key.now) c.args.self.now) c.if-replaces.true
