use Rattle.std.proofs.Common.{length, sym, ◌∙◌, ap}
use Rattle.mspec_syntax.specs.Specification.{clause_variables}
use Rattle.mspec_meaning.specs.Meaning.{body_value}
use Rattle.mspec_match.specs.Slots.{seen, substitution_of}
use Rattle.mspec_meaning.proofs.HoldLemmas.{clause-applies, clause-fails, clause-unmatched}
use Rattle.mspec_meaning.proofs.clauses.clause_answer.Goals as goal

pub returns-in_default : goal.returns-in_default
returns-in_default g c = clause-unmatched c.args.clause.now c.args.object.now (rw c.in_default.is at c.in_ok-slots.ensures)

pub new-conditions-requires : goal.new-conditions-requires
new-conditions-requires g c =
    let match = rw c.in-Some.is at c.in_ok-slots.ensures in
    ap length c.as_slice-slots.ensures.value ∙ match.0 ∙ sym (ap length c.variables-variables.ensures)

pub new-body-requires : goal.new-body-requires
new-body-requires g c =
    let match = rw c.in-Some.is at c.in_ok-slots.ensures in
    ap length c.as_slice-slots.ensures.value ∙ match.0 ∙ sym (ap length c.variables-variables.ensures)

pub returns-then-not-branch : goal.returns-then-not-branch
returns-then-not-branch g c =
    let match = rw c.in-Some.is at c.in_ok-slots.ensures in
    let fails = rw c.if-not-branch.true at c.in_ok-all_hold.ensures in
    let clause = c.args.clause.now in
    let o = c.args.object.now in
    let s = substitution_of (clause_variables clause) (seen c.in-Some.slots.items) in
    let names = ap (λ l. substitution_of l (seen c.as_slice-slots.result.now)) c.variables-variables.ensures
    ∙ ap (λ l. substitution_of (clause_variables clause) (seen l)) c.as_slice-slots.ensures.value in
    clause-fails clause s c.new-conditions.result.substitution o c.new-conditions.result.object c.conditions.result.now
    (c.new-conditions.ensures.substitution ∙ names) c.new-conditions.ensures.object c.conditions.ensures match.1 fails

pub returns : goal.returns
returns g c =
    let match = rw c.in-Some.is at c.in_ok-slots.ensures in
    let hold = rw c.if-not-branch.false at c.in_ok-all_hold.ensures in
    let clause = c.args.clause.now in
    let o = c.args.object.now in
    let s = substitution_of (clause_variables clause) (seen c.in-Some.slots.items) in
    let names = ap (λ l. substitution_of l (seen c.as_slice-slots.result.now)) c.variables-variables.ensures
    ∙ ap (λ l. substitution_of (clause_variables clause) (seen l)) c.as_slice-slots.ensures.value in
    let applies = clause-applies clause s c.new-conditions.result.substitution o c.new-conditions.result.object c.conditions.result.now
    (c.new-conditions.ensures.substitution ∙ names) c.new-conditions.ensures.object c.conditions.ensures match.1 hold in (
      s,
      applies,
      c.in_ok-body_answer.ensures
          ∙ ap (λ l. body_value l c.new-body.result.substitution c.new-body.result.object) c.body.ensures
          ∙ ap (λ d. body_value clause.body c.new-body.result.substitution d) c.new-body.ensures.object
          ∙ ap (λ r. body_value clause.body r o) (c.new-body.ensures.substitution ∙ names),
    )
