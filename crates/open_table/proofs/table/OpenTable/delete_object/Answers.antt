use Rattle.std.proofs.lemmas.Result.{IfErr-weaker, IfOk-weaker}
use Rattle.part_core.specs.Acts.Act.{DeleteObject}
use Rattle.part_core.specs.Acts.Answer.{Replied}
use Rattle.part_core.specs.Acts.Said.{Nothing}
use Rattle.open_table.proofs.ShowLemmas.{is_same, object_does, object_refuses}
use Rattle.open_table.proofs.table.OpenTable.delete_object.Goals as goal

pub returns-clause-same : goal.returns-clause-same
returns-clause-same g c =
    is_same c.args.self.now c.delete_object.new.turns c.delete_object.ensures.same

pub returns-clause-done : goal.returns-clause-done
returns-clause-done g c =
    let x = c.args.self.now in
    let y = c.delete_object.new.turns in
    IfOk-weaker c.delete_object.result _ _ (λ u follows. object_does x y c.args.object.now (DeleteObject c.args.object.now) (Replied Nothing) c.delete_object.ensures.same follows) c.delete_object.ensures.done

pub returns-clause-refused : goal.returns-clause-refused
returns-clause-refused g c =
    let x = c.args.self.now in
    let y = c.delete_object.new.turns in
    IfErr-weaker c.delete_object.result _ _ (λ f follows. (follows.0, object_refuses x y c.args.object.now (DeleteObject c.args.object.now) f c.delete_object.ensures.same follows.1)) c.delete_object.ensures.refused
