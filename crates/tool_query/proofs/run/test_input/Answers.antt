use Rattle.std.proofs.Common.{[], ◌∷◌, inl, refl, rules}
use Rattle.std.specs.Str.{IsUtf8}
use Rattle.std.proofs.lemmas.Result.{err_from_is_err_and, on_ok_weaker}
use Rattle.tool_query.specs.Answers.Report.{outcomes}
use Rattle.tool_query.specs.Query.{Query}
use Rattle.tool_query.proofs.RunLemmas.{report_finished, report_stops, ended_refused, report_unread, report_unspelled, report_nothing, one_front}
use Rattle.tool_query.proofs.run.test_input.Goals as goal

pub returns-in_err-text-clause-refused : goal.returns-in_err-text-clause-refused
returns-in_err-text-clause-refused g c =
    let p = err_from_is_err_and c.from_residual.result c.from_residual.ensures.1 in
    rw (p.1, p.2) (inl (report_unspelled c.args.input.now c.args.input.now _ _ _ refl c.in_err-text.ensures.refused))

pub returns-in_err-first-clause-refused : goal.returns-in_err-first-clause-refused
returns-in_err-first-clause-refused g c =
    let p = err_from_is_err_and c.from_residual-in_err-first.result c.from_residual-in_err-first.ensures.1 in
    rw (p.1, p.2) (inl (report_unread c.args.input.now _ _ _ _ c.in_ok-text.ensures.ok c.in_err-first.ensures.refused))

pub returns-in_err-reported-in-Ok-clause-refused : goal.returns-in_err-reported-in-Ok-clause-refused
returns-in_err-reported-in-Ok-clause-refused g c =
    let p = err_from_is_err_and c.from_residual-in_err-reported-in-Ok.result c.from_residual-in_err-reported-in-Ok.ensures.1 in
    rw (p.1, p.2) (inl (report_unspelled c.args.input.now _ _ _ _ c.in_ok-text.ensures.ok (c.in_err-reported-in-Ok.ensures.refused (c.in_ok-first.first ∷ []) (one_front c.in_ok-first.ensures.ok))))

pub returns-in-Ok-clause-ok : goal.returns-in-Ok-clause-ok
returns-in-Ok-clause-ok g c =
    let s = c.in-Ok.specification in
    let a = c.in_ok-reported-in-Ok.ensures.ok in
    let utf8 : IsUtf8 c.in_ok-text.text.now = search rules in
    on_ok_weaker c.finish.result (λ ended. report_finished (outcomes c.args.form) c.args.input.now c.in_ok-text.text.now _ _ _ c.in_ok-first.first (Query.meant s) _ _ c.in_ok-text.ensures.ok utf8 c.in_ok-first.ensures.ok (s, refl, c.in-Ok.ensures.ok) a ended.0 ended.1) c.finish.ensures.ok

pub returns-in-Ok-clause-refused : goal.returns-in-Ok-clause-refused
returns-in-Ok-clause-refused g c =
    let s = c.in-Ok.specification in
    let a = c.in_ok-reported-in-Ok.ensures.ok in
    let utf8 : IsUtf8 c.in_ok-text.text.now = search rules in
    ended_refused c.finish.result (λ f ends. report_stops (outcomes c.args.form) c.args.input.now c.in_ok-text.text.now _ _ _ c.in_ok-first.first (Query.meant s) _ _ f c.in_ok-text.ensures.ok utf8 c.in_ok-first.ensures.ok (s, refl, c.in-Ok.ensures.ok) a ends) c.finish.ensures.refused

pub returns-in_err-read_on-in-Err-clause-refused : goal.returns-in_err-read_on-in-Err-clause-refused
returns-in_err-read_on-in-Err-clause-refused g c =
    let p = err_from_is_err_and c.from_residual-in_err-read_on-in-Err.result c.from_residual-in_err-read_on-in-Err.ensures.1 in
    rw (p.1, p.2) (inl (report_unspelled c.args.input.now _ _ _ _ c.in_ok-text.ensures.ok (c.in_err-read_on-in-Err.ensures.refused (c.in_ok-first.first ∷ []) (one_front c.in_ok-first.ensures.ok))))

pub returns-clause-refused : goal.returns-clause-refused
returns-clause-refused g c =
    let utf8 : IsUtf8 c.in_ok-text.text.now = search rules in
    let rest = c.in_ok-read_on-in-Err.ensures.ok in
    inl (report_nothing (outcomes c.args.form) c.args.input.now c.in_ok-text.text.now _ c.in_ok-first.first rest.0 _ _ c.in_ok-text.ensures.ok utf8 c.in_ok-first.ensures.ok rest.1 c.in-Err.ensures.refused)

pub outcome_lines-requires-text-text : goal.outcome_lines-requires-text-text
outcome_lines-requires-text-text g c = search rules

pub outcome_lines-requires-text-rest : goal.outcome_lines-requires-text-rest
outcome_lines-requires-text-rest g c = search rules

pub read_on-requires-text-text : goal.read_on-requires-text-text
read_on-requires-text-text g c = search rules

pub read_on-requires-text-rest : goal.read_on-requires-text-rest
read_on-requires-text-rest g c = search rules

pub finish-requires-text-text : goal.finish-requires-text-text
finish-requires-text-text g c = search rules
