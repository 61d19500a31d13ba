use Rattle.std.proofs.Common.{◌≡◌, [], ◌∷◌, inl, refl, sym, subst, rules}
use Rattle.std.specs.Str.{IsUtf8}
use Rattle.std.proofs.lemmas.Result.{err_from_is_err_and, on_ok_weaker}
use Rattle.mcode.specs.Answer.{answer_of}
use Rattle.tool_query.specs.Answers.Report.{answers}
use Rattle.tool_query.specs.Query.{Answers}
use Rattle.tool_query.proofs.AnswerLemmas.{reported_as}
use Rattle.tool_query.proofs.RunLemmas.{report_finished, report_stops, ended_refused, report_unread, report_unspelled, report_nothing, one_front}
use Rattle.tool_query.proofs.run.run_input.Goals as goal

pub returns-in_err-text-clause-refused : goal.returns-in_err-text-clause-refused
returns-in_err-text-clause-refused g c =
    let p = err_from_is_err_and c.from_residual.result c.from_residual.ensures.1 in
    rw (p.1, p.2) (inl (report_unspelled c.args.input.now c.args.input.now _ _ _ refl c.in_err-text.ensures.refused))

pub returns-in_err-first-clause-refused : goal.returns-in_err-first-clause-refused
returns-in_err-first-clause-refused g c =
    let p = err_from_is_err_and c.from_residual-in_err-first.result c.from_residual-in_err-first.ensures.1 in
    rw (p.1, p.2) (inl (report_unread c.args.input.now _ _ _ _ c.in_ok-text.ensures.ok c.in_err-first.ensures.refused))

pub returns-in_err-reported-in-Ok-clause-refused : goal.returns-in_err-reported-in-Ok-clause-refused
returns-in_err-reported-in-Ok-clause-refused g c =
    let p = err_from_is_err_and c.from_residual-in_err-reported-in-Ok.result c.from_residual-in_err-reported-in-Ok.ensures.1 in
    rw (p.1, p.2) (inl (report_unspelled c.args.input.now _ _ _ _ c.in_ok-text.ensures.ok (c.in_err-reported-in-Ok.ensures.refused (c.in_ok-first.first ∷ []) (one_front c.in_ok-first.ensures.ok))))

pub returns-in-Ok-clause-ok : goal.returns-in-Ok-clause-ok
returns-in-Ok-clause-ok g c =
    let asked = c.in-Ok.ensures.ok in
    let a = reported_as (answers c.args.form) (λ object answer. answer ≡ answer_of c.in-Ok.code object) (Answers asked.0) (λ d a is. subst (Answers asked.0 d) (sym is) (asked.2 d)) _ _ _ c.in_ok-reported-in-Ok.ensures.ok in
    let utf8 : IsUtf8 c.in_ok-text.text.now = search rules in
    on_ok_weaker c.finish.result (λ ended. report_finished (answers c.args.form) c.args.input.now c.in_ok-text.text.now _ _ _ c.in_ok-first.first asked.0 _ _ c.in_ok-text.ensures.ok utf8 c.in_ok-first.ensures.ok asked.1 a ended.0 ended.1) c.finish.ensures.ok

pub returns-in-Ok-clause-refused : goal.returns-in-Ok-clause-refused
returns-in-Ok-clause-refused g c =
    let asked = c.in-Ok.ensures.ok in
    let a = reported_as (answers c.args.form) (λ object answer. answer ≡ answer_of c.in-Ok.code object) (Answers asked.0) (λ d a is. subst (Answers asked.0 d) (sym is) (asked.2 d)) _ _ _ c.in_ok-reported-in-Ok.ensures.ok in
    let utf8 : IsUtf8 c.in_ok-text.text.now = search rules in
    ended_refused c.finish.result (λ f ends. report_stops (answers c.args.form) c.args.input.now c.in_ok-text.text.now _ _ _ c.in_ok-first.first asked.0 _ _ f c.in_ok-text.ensures.ok utf8 c.in_ok-first.ensures.ok asked.1 a ends) c.finish.ensures.refused

pub returns-in_err-read_on-in-Err-clause-refused : goal.returns-in_err-read_on-in-Err-clause-refused
returns-in_err-read_on-in-Err-clause-refused g c =
    let p = err_from_is_err_and c.from_residual-in_err-read_on-in-Err.result c.from_residual-in_err-read_on-in-Err.ensures.1 in
    rw (p.1, p.2) (inl (report_unspelled c.args.input.now _ _ _ _ c.in_ok-text.ensures.ok (c.in_err-read_on-in-Err.ensures.refused (c.in_ok-first.first ∷ []) (one_front c.in_ok-first.ensures.ok))))

pub returns-clause-refused : goal.returns-clause-refused
returns-clause-refused g c =
    let utf8 : IsUtf8 c.in_ok-text.text.now = search rules in
    let rest = c.in_ok-read_on-in-Err.ensures.ok in
    inl (report_nothing (answers c.args.form) c.args.input.now c.in_ok-text.text.now _ c.in_ok-first.first rest.0 _ _ c.in_ok-text.ensures.ok utf8 c.in_ok-first.ensures.ok rest.1 c.in-Err.ensures.refused)

pub run_lines-requires-text-text : goal.run_lines-requires-text-text
run_lines-requires-text-text g c = search rules

pub run_lines-requires-text-rest : goal.run_lines-requires-text-rest
run_lines-requires-text-rest g c = search rules

pub read_on-requires-text-text : goal.read_on-requires-text-text
read_on-requires-text-text g c = search rules

pub read_on-requires-text-rest : goal.read_on-requires-text-rest
read_on-requires-text-rest g c = search rules

pub finish-requires-text-text : goal.finish-requires-text-text
finish-requires-text-text g c = search rules
