use Rattle.std.proofs.lemmas.Result.{IfErr-weaker, IfOk-weaker}
use Rattle.part_core.specs.Acts.Act.{Take}
use Rattle.part_core.specs.Acts.Answer.{Replied}
use Rattle.part_core.specs.Acts.Said.{Objects}
use Rattle.open_table.proofs.ShowLemmas.{is_same, key_does, key_stays}
use Rattle.open_table.proofs.table.OpenTable.take.Goals as goal

pub returns-clause-same : goal.returns-clause-same
returns-clause-same g c =
    is_same c.args.self.now c.take.new.turns c.take.ensures.same

pub returns-clause-done : goal.returns-clause-done
returns-clause-done g c =
    let x = c.args.self.now in
    let y = c.take.new.turns in
    IfOk-weaker c.take.result _ _ (λ found follows. key_does x y c.args.key.now (Take c.args.key.now) (Replied (Objects found.items)) c.take.ensures.same follows) c.take.ensures.done

pub returns-clause-refused : goal.returns-clause-refused
returns-clause-refused g c =
    let x = c.args.self.now in
    let y = c.take.new.turns in
    IfErr-weaker c.take.result _ _ (λ u follows. key_stays x y c.args.key.now (Take c.args.key.now) c.take.ensures.same follows) c.take.ensures.refused
