use Rattle.std.proofs.lemmas.Result.{IfErr-weaker, IfOk-weaker}
use Rattle.open_table.proofs.ShowLemmas.{is_same, limit_begins, limit_refuses}
use Rattle.open_table.proofs.table.OpenTable.select_limit.Goals as goal

pub returns-clause-same : goal.returns-clause-same
returns-clause-same g c =
    is_same c.args.self.now c.select_limit.new.turns c.select_limit.ensures.same

pub returns-clause-done : goal.returns-clause-done
returns-clause-done g c =
    let x = c.args.self.now in
    let y = c.select_limit.new.turns in
    IfOk-weaker c.select_limit.result _ _ (λ step follows. limit_begins x y c.args.query c.args.limit step c.select_limit.ensures.same follows) c.select_limit.ensures.done

pub returns-clause-limited : goal.returns-clause-limited
returns-clause-limited g c =
    λ none. (c.select_limit.ensures.limited none).0

pub returns-clause-back : goal.returns-clause-back
returns-clause-back g c =
    let x = c.args.self.now in
    let y = c.select_limit.new.turns in
    limit_refuses x y c.args.query c.args.limit c.select_limit.result c.select_limit.ensures.same c.select_limit.ensures.limited c.select_limit.ensures.refused c.select_limit.ensures.back

pub returns-clause-refused : goal.returns-clause-refused
returns-clause-refused g c =
    IfErr-weaker c.select_limit.result _ _ (λ r told more. (told more).0) c.select_limit.ensures.refused
