use Rattle.std.proofs.lemmas.Result.{IfErr-weaker, IfOk-weaker}
use Rattle.walk_core.specs.Goes.{whole}
use Rattle.open_table.proofs.ShowLemmas.{is_same, count_reads, count_stays}
use Rattle.open_table.proofs.table.OpenTable.select_count.Goals as goal

pub returns-clause-same : goal.returns-clause-same
returns-clause-same g c =
    is_same c.args.self.now c.select_count.new.turns c.select_count.ensures.same

pub returns-clause-done : goal.returns-clause-done
returns-clause-done g c =
    let x = c.args.self.now in
    let y = c.select_count.new.turns in
    IfOk-weaker c.select_count.result _ _ (λ count follows. count_reads x y c.args.query.now count c.select_count.ensures.same follows) c.select_count.ensures.done

pub returns-clause-refused : goal.returns-clause-refused
returns-clause-refused g c =
    let x = c.args.self.now in
    let y = c.select_count.new.turns in
    IfErr-weaker c.select_count.result _ _ (λ u follows. count_stays x y c.args.query.now whole c.select_count.ensures.same follows) c.select_count.ensures.refused
