use Rattle.std.proofs.Common.{◌∙◌, arith}
use Rattle.part_core.specs.Visits.{is_true}
use Rattle.part_rows.proofs.ObjectLemmas.{count_next, count_within, counted, uncounted}
use Rattle.part_rows.proofs.objects.count_all.Goals as goal
use Rattle.part_rows.proofs.objects.count_all.Goals.{then-branch, else-branch}

pub loop-object-preserved : goal.loop-object-preserved
loop-object-preserved g c =
    let holds = rw c.loop-object.invariant.0 at c.in_ok-holds.ensures.holds in
    let few = count_within (is_true c.args.machine.now.code) c.args.objects.now c.loop-object.object-index c.loop-object-test.true in (
      c.holds.ensures.code ∙ c.loop-object.invariant.0,
      count_next c.args.machine.now.code c.args.objects.now c.loop-object.object-index c.object-item.result c.in_ok-holds.field-0 c.loop-object.count c.if-branch.count c.loop-object-test.true c.object-item.is holds c.loop-object.invariant.1 (elim c.if-branch.branch [
        | then-branch w ↦ counted c.loop-object.count c.if-branch.count c.in_ok-holds.field-0 w.if-branch.true (w.count-is ∙ w.saturating_add-count.ensures) (omega (arith, few, c.loop-object.invariant.1, c.loop-object-test.true, c.loop-object.auto.object-index-end))
        | else-branch w ↦ uncounted c.loop-object.count c.if-branch.count c.in_ok-holds.field-0 w.if-branch.false w.count-is
      ]),
    )
