use Rattle.part_plain.proofs.GatherLemmas.{gathered_next, gathered_all}
use Rattle.part_plain.proofs.gathering.gather_class.Goals as goal

pub loop-row-preserved : goal.loop-row-preserved
loop-row-preserved g c =
    gathered_next c.args.settings c.args.base c.args.class c.args.rows.now c.loop-row.row-index c.row-item.result c.args.into.now.items c.loop-row.into.items c.gather_row.new.into.items c.loop-row-test.true c.row-item.is c.loop-row.invariant c.in_ok-gather_row.ensures

pub returns : goal.returns
returns g c =
    gathered_all c.args.settings c.args.base c.args.class c.args.rows.now c.loop-row.row-index c.args.into.now.items c.loop-row.into.items c.loop-row-test.false c.loop-row.invariant
