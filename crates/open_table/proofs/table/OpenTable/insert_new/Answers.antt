use Rattle.std.proofs.lemmas.Result.{IfErr-weaker, IfOk-weaker}
use Rattle.part_core.specs.Acts.Act.{InsertNew}
use Rattle.part_core.specs.Acts.Answer.{Replied}
use Rattle.part_core.specs.Acts.Said.{Flag}
use Rattle.open_table.proofs.ShowLemmas.{is_same, object_does, object_refuses}
use Rattle.open_table.proofs.table.OpenTable.insert_new.Goals as goal

pub returns-clause-same : goal.returns-clause-same
returns-clause-same g c =
    is_same c.args.self.now c.insert_new.new.turns c.insert_new.ensures.same

pub returns-clause-done : goal.returns-clause-done
returns-clause-done g c =
    let x = c.args.self.now in
    let y = c.insert_new.new.turns in
    IfOk-weaker c.insert_new.result _ _ (λ fresh follows. object_does x y c.args.object (InsertNew c.args.object) (Replied (Flag fresh)) c.insert_new.ensures.same follows) c.insert_new.ensures.done

pub returns-clause-refused : goal.returns-clause-refused
returns-clause-refused g c =
    let x = c.args.self.now in
    let y = c.insert_new.new.turns in
    IfErr-weaker c.insert_new.result _ _ (λ r follows. object_refuses x y c.args.object (InsertNew c.args.object) r.fault c.insert_new.ensures.same follows) c.insert_new.ensures.refused
