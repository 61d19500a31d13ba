use Rattle.std.proofs.lemmas.Result.{err_from_is_err_and}
use Rattle.mspec_reader.proofs.ReadingLemmas.{ClausesFront-none, ClausesFront-more, ClausesFront-all, ClausesFront-refuses}
use Rattle.mspec_reader.proofs.read.read_clauses.Goals as goal

pub loop-number-init : goal.loop-number-init
loop-number-init g c = ClausesFront-none c.args.terms.now c.new-clauses.result.items c.new-clauses.ensures.items

pub returns-in_err-clause-clause-refused : goal.returns-in_err-clause-clause-refused
returns-in_err-clause-clause-refused g c =
    let p = err_from_is_err_and c.from_residual.result c.from_residual.ensures.1 in
    rw (p.1, p.2)
    (ClausesFront-refuses c.args.terms.now c.loop-number.number c.index-terms-number.result c.loop-number.clauses.items c.in_err-clause.field-0.0 c.loop-number-test.true c.index-terms-number.is c.loop-number.invariant c.in_err-clause.ensures.refused)

pub loop-number-preserved : goal.loop-number-preserved
loop-number-preserved g c =
    ClausesFront-more c.args.terms.now c.loop-number.number c.index-terms-number.result c.loop-number.clauses.items c.push.new.self.items c.in_ok-clause.clause c.loop-number-test.true c.index-terms-number.is c.in_ok-clause.ensures.ok c.in_ok-push.ensures.items c.loop-number.invariant

pub returns-clause-ok : goal.returns-clause-ok
returns-clause-ok g c =
    ClausesFront-all c.args.terms.now c.loop-number.number c.loop-number.clauses.items c.loop-number-test.false c.loop-number.invariant
