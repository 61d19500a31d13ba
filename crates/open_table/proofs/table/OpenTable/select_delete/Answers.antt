use Rattle.std.proofs.lemmas.Result.{IfOk-weaker}
use Rattle.open_table.proofs.ShowLemmas.{delete_does, is_same}
use Rattle.open_table.proofs.table.OpenTable.select_delete.Goals as goal

pub returns-clause-same : goal.returns-clause-same
returns-clause-same g c =
    is_same c.args.self.now c.select_delete.new.turns c.select_delete.ensures.same

pub returns-clause-done : goal.returns-clause-done
returns-clause-done g c =
    let x = c.args.self.now in
    let y = c.select_delete.new.turns in
    IfOk-weaker c.select_delete.result _ _ (λ count follows. delete_does x y c.args.query.now count c.select_delete.ensures.same follows) c.select_delete.ensures.done
