use Rattle.std.proofs.Common.{refl}
use Rattle.std.proofs.lemmas.Result.{err_from_is_err_and}
use Rattle.mspec_reader.proofs.ReadingLemmas.{conditions-refused, bodies-refused}
use Rattle.mspec_reader.proofs.read.read_clause.Goals as goal

pub same-variables : goal.same-variables
same-variables g c = refl

pub new-requires : goal.new-requires
new-requires g c = c.in_ok-variables.ensures

pub returns-in_err-conditions-clause-refused : goal.returns-in_err-conditions-clause-refused
returns-in_err-conditions-clause-refused g c =
    let residual = c.from_residual-in_err-conditions in
    let p = err_from_is_err_and residual.result residual.ensures.1 in
    rw (p.1, p.2)
    (conditions-refused c.args.number c.in-Some.head.now c.in-Some.conditions.now c.in-Some.body.now c.args.term.now c.in_ok-head.head c.in_ok-variables.variables c.in_err-conditions.field-0.0 c.in-Some.ensures.found c.in_ok-head.ensures.ok c.in_ok-variables.ensures c.in_err-conditions.ensures.refused)

pub returns-in_err-body-clause-refused : goal.returns-in_err-body-clause-refused
returns-in_err-body-clause-refused g c =
    let residual = c.from_residual-in_err-body in
    let p = err_from_is_err_and residual.result residual.ensures.1 in
    rw (p.1, p.2)
    (bodies-refused c.args.number c.in-Some.head.now c.in-Some.conditions.now c.in-Some.body.now c.args.term.now c.in_ok-head.head c.in_ok-variables.variables c.in_ok-conditions.conditions.items c.in_err-body.field-0.0 c.in-Some.ensures.found c.in_ok-head.ensures.ok c.in_ok-variables.ensures c.in_ok-conditions.ensures.ok c.in_err-body.ensures.refused)
