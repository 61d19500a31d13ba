use Rattle.std.proofs.Common.{◌≡◌, ◌∙◌, sym, ap, Some, rules}
use Rattle.std.specs.Prelude.{FitsSigned}
use Rattle.std.specs.Int.{w64}
use Rattle.std.proofs.lemmas.Int.{to_z-of_z}
use Rattle.std.proofs.lemmas.Result.{IfOk-weaker}
use Rattle.mcode.specs.Answer.{answer_of}
use Rattle.tables.specs.declared.options.Options.{Options}
use Rattle.walks.specs.Query.{plan_of}
use Rattle.tool_script.specs.Replies.{reply_term}
use Rattle.tool_script.specs.Walks.{begun, limit_in, piece_step}
use Rattle.tool_script.proofs.SelectLemmas.{faulty, meant}
use Rattle.tool_script.proofs.walk.select_some.Goals as goal

pub returns-in-Ok-clause-answered : goal.returns-in-Ok-clause-answered
returns-in-Ok-clause-answered g c =
    let turns = g.T.TryTurns in
    let h = turns.home c.args.turns.now in
    let o = h.options in
    let q = c.in-Ok.query in
    let fits : FitsSigned w64 c.args.limit = search rules in
    let limited : limit_in c.args.limit ≡ Some c.in-Some.limit = ap limit_in (sym (to_z-of_z w64 c.args.limit fits)) ∙ sym c.limit_in.ensures.limit ∙ c.in-Some.is in
    let means = c.in-Ok.ensures.ok o (ap (λ (x : Options). x.keypos) (sym c.options.ensures)) in
    IfOk-weaker c.begin.result _ _ (λ reply done count w at. rw limited (meant o (turns.sees c.args.turns.now) (turns.sees c.begin.new.turns) c.args.walks.now c.begin.new.walks c.args.term.now (answer_of q.code) (plan_of q o) (λ x answer plan. piece_step x (begun x.table.options h.number c.in-Some.limit answer plan)) (reply_term reply) count w means done at))
    c.begin.ensures.answered

pub returns-in-Err-clause-answered : goal.returns-in-Err-clause-answered
returns-in-Err-clause-answered g c =
    let turns = g.T.TryTurns in
    let h = turns.home c.args.turns.now in
    let fits : FitsSigned w64 c.args.limit = search rules in
    let limited : limit_in c.args.limit ≡ Some c.in-Some.limit = ap limit_in (sym (to_z-of_z w64 c.args.limit fits)) ∙ sym c.limit_in.ensures.limit ∙ c.in-Some.is in
    IfOk-weaker c.refusal.result _ _ (λ reply told count w at. rw limited (faulty h.options (turns.sees c.args.turns.now) c.args.walks.now c.args.term.now c.in-Err.fault (λ x answer plan. piece_step x (begun x.table.options h.number c.in-Some.limit answer plan)) (reply_term reply) count w told c.in-Err.ensures.refused at))
    c.refusal.ensures
