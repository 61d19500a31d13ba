use Rattle.std.proofs.lemmas.Result.{IfErr-weaker, IfOk-weaker}
use Rattle.open_table.specs.Facts.{are_legal}
use Rattle.open_table.proofs.ShowLemmas.{is_same, fix_does, fix_refuses}
use Rattle.open_table.proofs.table.OpenTable.fix.Goals as goal

pub returns-clause-same : goal.returns-clause-same
returns-clause-same g c =
    is_same c.args.self.now c.fix.new.turns c.fix.ensures.same

pub returns-clause-done : goal.returns-clause-done
returns-clause-done g c =
    let x = c.args.self.now in
    let y = c.fix.new.turns in
    IfOk-weaker c.fix.result _ _ (λ u follows. fix_does x y c.fix.ensures.same follows) c.fix.ensures.done

pub returns-clause-refused : goal.returns-clause-refused
returns-clause-refused g c =
    let x = c.args.self.now in
    let y = c.fix.new.turns in
    IfErr-weaker c.fix.result _ _ (λ f follows. fix_refuses x y f (λ v part sees inside. are_legal g.met.S.Part.legal g.met.O.Part.legal x.parts v sees part inside) c.fix.ensures.same follows) c.fix.ensures.refused
