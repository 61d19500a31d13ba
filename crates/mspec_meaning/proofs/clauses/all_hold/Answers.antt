use Rattle.std.proofs.Common.{◌≡◌, Some, option_map, refl, sym, ◌∙◌, ap}
use Rattle.std.proofs.lemmas.Bool.{false≢true}
use Rattle.term_operand.specs.Value.{value_datum}
use Rattle.mspec_meaning.specs.Meaning.{true_term, value_of}
use Rattle.mspec_meaning.proofs.HoldLemmas.{HoldFront-more, HoldFront-never, HoldFront-all}
use Rattle.mspec_meaning.proofs.clauses.all_hold.Goals as goal

pub loop-condition-preserved : goal.loop-condition-preserved
loop-condition-preserved g c =
    let p = c.args.environment.now in
    let value = c.in_ok-answer.ensures ∙ ap (λ m. value_of m c.condition-item.result p.substitution p.object) c.requires in
    HoldFront-more c.args.conditions.now c.loop-condition.condition-index c.condition-item.result p.substitution p.object c.loop-condition-test.true c.condition-item.is
    (sym value ∙ ap (option_map value_datum) c.in-Some.is ∙ ap Some (c.if-not-is_true.ensures.0 refl)) c.loop-condition.invariant

pub returns-then-not-is_true : goal.returns-then-not-is_true
returns-then-not-is_true g c =
    let p = c.args.environment.now in
    let value = (rw c.in-Some.is at c.in_ok-answer.ensures) ∙ ap (λ m. value_of m c.condition-item.result p.substitution p.object) c.requires in
    HoldFront-never c.args.conditions.now c.loop-condition.condition-index c.condition-item.result p.substitution p.object c.loop-condition-test.true c.condition-item.is
    (λ q. let e = value ∙ q in let same : value_datum c.in-Some.answer ≡ true_term = cc in false≢true (c.if-not-is_true.ensures.1 same))
    c.loop-condition.invariant

pub returns-in-None : goal.returns-in-None
returns-in-None g c =
    let p = c.args.environment.now in
    let none = (rw c.in-None.is at c.in_ok-answer.ensures) ∙ ap (λ m. value_of m c.condition-item.result p.substitution p.object) c.requires in
    HoldFront-never c.args.conditions.now c.loop-condition.condition-index c.condition-item.result p.substitution p.object c.loop-condition-test.true c.condition-item.is
    (λ q. absurd (let e = none ∙ q in cc))
    c.loop-condition.invariant

pub returns : goal.returns
returns g c =
    let p = c.args.environment.now in
    HoldFront-all c.args.conditions.now c.loop-condition.condition-index p.substitution p.object c.loop-condition-test.false c.loop-condition.invariant
