use Rattle.std.proofs.lemmas.Result.{IfErr-weaker, IfOk-weaker}
use Rattle.open_table.specs.Facts.{are_legal}
use Rattle.open_table.proofs.ShowLemmas.{is_same, unfix_does, unfix_refuses}
use Rattle.open_table.proofs.table.OpenTable.unfix.Goals as goal

pub returns-clause-same : goal.returns-clause-same
returns-clause-same g c =
    is_same c.args.self.now c.unfix.new.turns c.unfix.ensures.same

pub returns-clause-done : goal.returns-clause-done
returns-clause-done g c =
    let x = c.args.self.now in
    let y = c.unfix.new.turns in
    IfOk-weaker c.unfix.result _ _ (λ u follows. unfix_does x y c.unfix.ensures.same follows) c.unfix.ensures.done

pub returns-clause-refused : goal.returns-clause-refused
returns-clause-refused g c =
    let x = c.args.self.now in
    let y = c.unfix.new.turns in
    IfErr-weaker c.unfix.result _ _ (λ f follows. unfix_refuses x y f (λ v part sees inside. are_legal g.met.S.Part.legal g.met.O.Part.legal x.parts v sees part inside) c.unfix.ensures.same follows) c.unfix.ensures.refused
