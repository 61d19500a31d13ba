use Rattle.std.proofs.Common.{inl, sym, subst}
use Rattle.std.proofs.lemmas.Result.{err_from_is_err_and, IfOk-weaker, IfErr-weaker}
use Rattle.mspec_syntax.specs.Specification.{Specification}
use Rattle.mspec_syntax.specs.Grammar.{IsSpecification}
use Rattle.mspec_reader.proofs.ReadingLemmas.{refused-memory, size-refused, only-read}
use Rattle.mspec_reader.proofs.read.read_spec.Goals as goal

pub returns-in_err-clauses-clause-only : goal.returns-in_err-clauses-clause-only
returns-in_err-clauses-clause-only g c = λ s is small.
    let p = err_from_is_err_and c.from_residual.result c.from_residual.ensures.1 in
    rw (p.1, p.2) (refused-memory c.args.term.now s c.in_err-clauses.field-0.0 is small (inl c.in_err-clauses.ensures.refused))

pub returns-clause-ok : goal.returns-clause-ok
returns-clause-ok g c =
    let P : Specification → Type 0 = λ s. IsSpecification c.args.term.now s in
    IfOk-weaker c.within_limits.result _ _ (λ s h. (subst P (sym h.0) c.in_ok-clauses.ensures.ok, h.1)) c.within_limits.ensures.ok

pub returns-clause-refused : goal.returns-clause-refused
returns-clause-refused g c =
    IfErr-weaker c.within_limits.result _ _ (λ f h. size-refused c.args.term.now c.in_ok-clauses.clauses.items f c.in_ok-clauses.ensures.ok h) c.within_limits.ensures.refused

pub returns-clause-only : goal.returns-clause-only
returns-clause-only g c = λ s is small.
    only-read c.args.term.now s c.in_ok-clauses.clauses.items c.within_limits.result c.in_ok-clauses.ensures.ok is small c.within_limits.ensures.ok c.within_limits.ensures.refused
