use Rattle.std.proofs.lemmas.Result.{IfErr-weaker, IfOk-weaker}
use Rattle.open_table.proofs.ShowLemmas.{is_same, next_does, next_refuses}
use Rattle.open_table.proofs.table.OpenTable.next.Goals as goal

pub returns-clause-same : goal.returns-clause-same
returns-clause-same g c =
    is_same c.args.self.now c.next.new.turns c.next.ensures.same

pub returns-clause-done : goal.returns-clause-done
returns-clause-done g c =
    let x = c.args.self.now in
    let y = c.next.new.turns in
    IfOk-weaker c.next.result _ _ (λ k follows. next_does x y c.args.key.now k c.next.ensures.same follows) c.next.ensures.done

pub returns-clause-refused : goal.returns-clause-refused
returns-clause-refused g c =
    let x = c.args.self.now in
    let y = c.next.new.turns in
    IfErr-weaker c.next.result _ _ (λ f follows. next_refuses x y c.args.key.now f c.next.ensures.same follows) c.next.ensures.refused
