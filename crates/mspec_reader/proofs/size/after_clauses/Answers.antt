use Rattle.std.proofs.Common.{arith}
use Rattle.mspec_syntax.proofs.SizeLemmas.{specification_nodes-step}
use Rattle.mspec_reader.proofs.size.after_clauses.Goals as goal

pub returns-in_err-left : goal.returns-in_err-left
returns-in_err-left g c =
    let step = specification_nodes-step c.args.clauses.now c.loop-clause.clause-index c.clause-item.result c.loop-clause-test.true c.clause-item.is in
    rw c.from_residual.ensures (omega (arith, step, c.loop-clause.invariant, c.in_err-left.ensures))

pub loop-clause-preserved : goal.loop-clause-preserved
loop-clause-preserved g c =
    let step = specification_nodes-step c.args.clauses.now c.loop-clause.clause-index c.clause-item.result c.loop-clause-test.true c.clause-item.is in
    omega (arith, step, c.loop-clause.invariant, c.in_ok-left.ensures)
