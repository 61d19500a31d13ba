use Rattle.std.proofs.Common.{[], ◌∷◌, ◌++◌, rules}
use Rattle.std.proofs.lemmas.List.{append-nil}
use Rattle.std.proofs.lemmas.Result.{err_from_is_err_and}
use Rattle.term_text.specs.Text.Front.{at_first, behind}
use Rattle.term_text.proofs.Nexts.{sentence_shorter, front_whole, front_join}
use Rattle.tool_query.proofs.run.read_on.Goals as goal

pub loop-scratch-init : goal.loop-scratch-init
loop-scratch-init g c = (search rules, ([], at_first))

pub loop-scratch-smaller : goal.loop-scratch-smaller
loop-scratch-smaller g c = sentence_shorter (rw c.in-Some.is at c.in_ok-object.ensures.ok)

pub loop-scratch-preserved : goal.loop-scratch-preserved
loop-scratch-preserved g c =
    (search rules, (c.loop-scratch.invariant.1.0 ++ c.in-Some.object ∷ [], behind c.loop-scratch.invariant.1.1 (rw c.in-Some.is at c.in_ok-object.ensures.ok)))

pub returns-in_err-object-clause-refused : goal.returns-in_err-object-clause-refused
returns-in_err-object-clause-refused g c =
    let p = err_from_is_err_and c.from_residual.result c.from_residual.ensures.1 in
    λ ds front. rw (p.1, p.2) (c.in_err-object.ensures.refused _ (front_join front c.loop-scratch.invariant.1.1))

pub returns-in_default-clause-ok : goal.returns-in_default-clause-ok
returns-in_default-clause-ok g c =
    (c.loop-scratch.invariant.1.0, rw append-nil at (front_whole c.loop-scratch.invariant.1.1 (rw c.in_default.is at c.in_ok-object.ensures.ok)))
