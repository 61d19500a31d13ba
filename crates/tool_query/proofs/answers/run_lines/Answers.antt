use Rattle.std.proofs.Common.{rules}
use Rattle.std.specs.Str.{chars}
use Rattle.std.proofs.lemmas.Result.{err_from_is_err_and}
use Rattle.term_text.proofs.Nexts.{sentence_shorter}
use Rattle.tool_query.proofs.AnswerLemmas.{answered_none, answered_more, answered_all, answered_cut, answered_front}
use Rattle.tool_query.proofs.answers.run_lines.Goals as goal

pub loop-scratch-init : goal.loop-scratch-init
loop-scratch-init g c = (search rules, rw c.new-lines.ensures.items (answered_none _ _ (chars c.args.rest.now)))

pub loop-scratch-smaller : goal.loop-scratch-smaller
loop-scratch-smaller g c = sentence_shorter (rw c.in-Some.is at c.in_ok-object.ensures.ok)

pub loop-scratch-preserved : goal.loop-scratch-preserved
loop-scratch-preserved g c =
    (search rules, answered_more _ _ _ _ _ _ _ _ c.loop-scratch.invariant.1 (rw c.in-Some.is at c.in_ok-object.ensures.ok) c.in-Ok.ensures.ok)

pub returns-in_err-object-clause-refused : goal.returns-in_err-object-clause-refused
returns-in_err-object-clause-refused g c =
    let p = err_from_is_err_and c.from_residual.result c.from_residual.ensures.1 in
    λ ds front. rw (p.1, p.2) (c.in_err-object.ensures.refused _ (answered_front _ _ (chars c.args.text.now) _ _ _ ds front c.loop-scratch.invariant.1))

pub returns-in_default-clause-ok : goal.returns-in_default-clause-ok
returns-in_default-clause-ok g c = answered_all _ _ _ _ _ c.loop-scratch.invariant.1 (rw c.in_default.is at c.in_ok-object.ensures.ok)

pub returns-in-Err-clause-ok : goal.returns-in-Err-clause-ok
returns-in-Err-clause-ok g c = rw c.in-Err.ensures.err (answered_cut _ _ _ _ _ _ _ c.loop-scratch.invariant.1 (rw c.in-Some.is at c.in_ok-object.ensures.ok))
