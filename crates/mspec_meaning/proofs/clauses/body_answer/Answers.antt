use Rattle.std.proofs.Common.{sym, ◌∙◌, ap}
use Rattle.std.proofs.lemmas.Result.{IfOk-weaker}
use Rattle.mspec_meaning.specs.Meaning.{value_of}
use Rattle.mspec_meaning.proofs.HoldLemmas.{body_value-last}
use Rattle.mspec_meaning.proofs.clauses.body_answer.Goals as goal

pub returns : goal.returns
returns g c =
    let p = c.args.environment.now in
    let last = c.in-Some.last.now in
    IfOk-weaker c.into_term.result _ _
    (λ answer h.
    h ∙ c.in_ok-value.ensures
    ∙ ap (λ m. value_of m last p.substitution p.object) c.requires
    ∙ sym (body_value-last c.args.body.now p.substitution p.object last (sym c.in-Some.ensures.value)))
    c.into_term.ensures
