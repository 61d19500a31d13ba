use Rattle.std.proofs.Common.{◌∙◌}
use Rattle.mcode.specs.Answer.{answer_of}
use Rattle.part_rows.proofs.ObjectLemmas.{given_next}
use Rattle.part_rows.proofs.objects.gather_all.Goals as goal

pub loop-object-preserved : goal.loop-object-preserved
loop-object-preserved g c =
    let found = rw c.loop-object.invariant.0 at c.in_ok-gather_one.ensures.found in (
      c.gather_one.ensures.code ∙ c.loop-object.invariant.0,
      given_next (answer_of c.args.machine.now.code) c.args.objects.now c.loop-object.object-index c.object-item.result c.args.found.now.items c.loop-object.found.items c.gather_one.new.found.items c.loop-object-test.true c.object-item.is c.loop-object.invariant.1 found,
    )
