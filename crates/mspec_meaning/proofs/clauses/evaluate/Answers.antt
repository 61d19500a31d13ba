use Rattle.std.proofs.Common.{None}
use Rattle.mspec_meaning.proofs.HoldLemmas.{Means-skip, Means-here, Means-end}
use Rattle.mspec_meaning.proofs.clauses.evaluate.Goals as goal

pub loop-clause-preserved : goal.loop-clause-preserved
loop-clause-preserved g c = λ answer rest.
    let never = rw c.in-Not.is at c.in_ok-clause_answer.ensures in
    c.loop-clause.invariant answer
    (Means-skip c.clauses-clause-items.result.now c.loop-clause.clause-index c.clause-item.result c.args.object.now answer c.loop-clause-test.true c.clause-item.is never rest)

pub returns-in-Answers : goal.returns-in-Answers
returns-in-Answers g c =
    let answer = c.in-Answers.answer in
    let by = rw c.in-Answers.is at c.in_ok-clause_answer.ensures in
    c.loop-clause.invariant answer
    (Means-here c.clauses-clause-items.result.now c.loop-clause.clause-index c.clause-item.result c.args.object.now answer by.0 c.loop-clause-test.true c.clause-item.is by.1 by.2)

pub returns : goal.returns
returns g c =
    c.loop-clause.invariant None (Means-end c.clauses-clause-items.result.now c.loop-clause.clause-index c.args.object.now c.loop-clause-test.false)
