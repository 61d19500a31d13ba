use Rattle.std.proofs.lemmas.Result.{IfErr-weaker, IfOk-weaker}
use Rattle.part_core.specs.Acts.Act.{Insert}
use Rattle.part_core.specs.Acts.Answer.{Replied}
use Rattle.part_core.specs.Acts.Said.{Nothing}
use Rattle.open_table.proofs.ShowLemmas.{is_same, object_does, object_refuses}
use Rattle.open_table.proofs.table.OpenTable.insert.Goals as goal

pub returns-clause-same : goal.returns-clause-same
returns-clause-same g c =
    is_same c.args.self.now c.insert.new.turns c.insert.ensures.same

pub returns-clause-done : goal.returns-clause-done
returns-clause-done g c =
    let x = c.args.self.now in
    let y = c.insert.new.turns in
    IfOk-weaker c.insert.result _ _ (λ u follows. object_does x y c.args.object (Insert c.args.object) (Replied Nothing) c.insert.ensures.same follows) c.insert.ensures.done

pub returns-clause-refused : goal.returns-clause-refused
returns-clause-refused g c =
    let x = c.args.self.now in
    let y = c.insert.new.turns in
    IfErr-weaker c.insert.result _ _ (λ r follows. object_refuses x y c.args.object (Insert c.args.object) r.fault c.insert.ensures.same follows) c.insert.ensures.refused
