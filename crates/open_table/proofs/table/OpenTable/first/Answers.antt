use Rattle.std.proofs.lemmas.Result.{IfErr-weaker, IfOk-weaker}
use Rattle.open_table.proofs.ShowLemmas.{is_same, first_reads, first_stays}
use Rattle.open_table.proofs.table.OpenTable.first.Goals as goal

pub returns-clause-same : goal.returns-clause-same
returns-clause-same g c =
    is_same c.args.self.now c.first.new.turns c.first.ensures.same

pub returns-clause-done : goal.returns-clause-done
returns-clause-done g c =
    let x = c.args.self.now in
    let y = c.first.new.turns in
    IfOk-weaker c.first.result _ _ (λ k follows. first_reads x y k c.first.ensures.same follows) c.first.ensures.done

pub returns-clause-refused : goal.returns-clause-refused
returns-clause-refused g c =
    let x = c.args.self.now in
    let y = c.first.new.turns in
    IfErr-weaker c.first.result _ _ (λ u follows. first_stays x y c.first.ensures.same follows) c.first.ensures.refused
