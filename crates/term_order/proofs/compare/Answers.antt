use Rattle.term_core.specs.OrderLaws.{datum_cmp-says}
use Rattle.term_order.proofs.compare.Goals as goal

pub returns-clause-order : goal.returns-clause-order
returns-clause-order g c = rw c.cmp.ensures (datum_cmp-says c.args.a.now c.args.b.now)
