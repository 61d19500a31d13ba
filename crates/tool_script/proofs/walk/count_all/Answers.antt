use Rattle.std.proofs.Common.{sym, ap}
use Rattle.std.proofs.lemmas.Result.{IfOk-weaker}
use Rattle.tables.specs.declared.options.Options.{Options}
use Rattle.tool_script.specs.Replies.{reply_term}
use Rattle.tool_script.specs.Walks.{count_step}
use Rattle.tool_script.proofs.SelectLemmas.{faulty, counted}
use Rattle.tool_script.proofs.walk.count_all.Goals as goal

pub returns-in_ok-select_count-in-Ok-clause-answered : goal.returns-in_ok-select_count-in-Ok-clause-answered
returns-in_ok-select_count-in-Ok-clause-answered g c = λ walks.
    let turns = g.T.TryTurns in
    let h = turns.home c.args.turns.now in
    counted c.whole_walks_count.ensures h (turns.sees c.args.turns.now) (turns.sees c.select_count.new.turns) walks c.args.term.now c.in-Ok.query c.in_ok-select_count-in-Ok.field-0 c.requires.alone (g.met.T.TryTurns.fits c.args.turns.now c.requires.ready).0
    (c.in-Ok.ensures.ok h.options (ap (λ (x : Options). x.keypos) (sym c.options.ensures))) c.in_ok-select_count-in-Ok.ensures.done

pub returns-in-Err-clause-answered : goal.returns-in-Err-clause-answered
returns-in-Err-clause-answered g c =
    let turns = g.T.TryTurns in
    let h = turns.home c.args.turns.now in
    IfOk-weaker c.refusal.result _ _ (λ reply told walks count w at. faulty h.options (turns.sees c.args.turns.now) walks c.args.term.now c.in-Err.fault count_step (reply_term reply) count w told c.in-Err.ensures.refused at)
    c.refusal.ensures
