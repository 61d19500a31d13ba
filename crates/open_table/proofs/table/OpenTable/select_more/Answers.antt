use Rattle.std.proofs.lemmas.Result.{IfErr-weaker, IfOk-weaker}
use Rattle.open_table.proofs.ShowLemmas.{is_same, more_continues, more_keeps, more_stays}
use Rattle.open_table.proofs.table.OpenTable.select_more.Goals as goal

pub returns-clause-same : goal.returns-clause-same
returns-clause-same g c =
    is_same c.args.self.now c.select_more.new.turns c.select_more.ensures.same

pub returns-clause-done : goal.returns-clause-done
returns-clause-done g c =
    let x = c.args.self.now in
    let y = c.select_more.new.turns in
    IfOk-weaker c.select_more.result _ _ (λ step follows. more_continues x y c.args.walk step c.select_more.ensures.same follows) c.select_more.ensures.done

pub returns-clause-stranger : goal.returns-clause-stranger
returns-clause-stranger g c =
    let x = c.args.self.now in
    let y = c.select_more.new.turns in
    λ other. ((c.select_more.ensures.stranger other).0, more_stays x y c.select_more.ensures.same (c.select_more.ensures.stranger other).1)

pub returns-clause-kept : goal.returns-clause-kept
returns-clause-kept g c =
    let x = c.args.self.now in
    let y = c.select_more.new.turns in
    IfErr-weaker c.select_more.result _ _ (λ r told is. more_keeps x y c.args.walk r.value c.select_more.ensures.same (told is)) c.select_more.ensures.kept
