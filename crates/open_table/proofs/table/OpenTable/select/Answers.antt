use Rattle.std.proofs.lemmas.Result.{IfErr-weaker, IfOk-weaker}
use Rattle.part_core.specs.Replies.{most_counted}
use Rattle.walk_core.specs.Goes.{up_to}
use Rattle.open_table.proofs.ShowLemmas.{is_same, select_reads, select_stays}
use Rattle.open_table.proofs.table.OpenTable.select.Goals as goal

pub returns-clause-same : goal.returns-clause-same
returns-clause-same g c =
    is_same c.args.self.now c.select.new.turns c.select.ensures.same

pub returns-clause-done : goal.returns-clause-done
returns-clause-done g c =
    let x = c.args.self.now in
    let y = c.select.new.turns in
    IfOk-weaker c.select.result _ _ (λ answers follows. select_reads x y c.args.query.now answers.items c.select.ensures.same follows) c.select.ensures.done

pub returns-clause-refused : goal.returns-clause-refused
returns-clause-refused g c =
    let x = c.args.self.now in
    let y = c.select.new.turns in
    IfErr-weaker c.select.result _ _ (λ u follows. select_stays x y c.args.query.now (up_to most_counted) c.select.ensures.same follows) c.select.ensures.refused
