use Rattle.std.proofs.lemmas.Result.{err_from_is_err_and}
use Rattle.mspec_reader.proofs.ReadingLemmas.{ExpressionsFront-more, ExpressionsFront-all, ExpressionsFront-refuses}
use Rattle.mspec_reader.proofs.body.read_expressions.Goals as goal

pub returns-in_err-expression-clause-refused : goal.returns-in_err-expression-clause-refused
returns-in_err-expression-clause-refused g c =
    let p = err_from_is_err_and c.from_residual.result c.from_residual.ensures.1 in
    rw (p.1, p.2)
    (ExpressionsFront-refuses c.args.clause c.args.variables.now c.args.terms.now c.loop-term.term-index c.term-item.result c.loop-term.expressions.items c.in_err-expression.field-0.0 c.loop-term-test.true c.term-item.is c.loop-term.invariant c.in_err-expression.ensures.refused)

pub loop-term-preserved : goal.loop-term-preserved
loop-term-preserved g c =
    ExpressionsFront-more c.args.clause c.args.variables.now c.args.terms.now c.loop-term.term-index c.term-item.result c.loop-term.expressions.items _ c.in_ok-expression.expression c.loop-term-test.true c.term-item.is c.in_ok-expression.ensures.ok c.in_ok-push.ensures.items c.loop-term.invariant

pub returns-clause-ok : goal.returns-clause-ok
returns-clause-ok g c =
    ExpressionsFront-all c.args.clause c.args.variables.now c.args.terms.now c.loop-term.term-index c.loop-term.expressions.items c.loop-term-test.false c.loop-term.invariant
