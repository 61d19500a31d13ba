use Rattle.std.proofs.Common.{◌≡◌, ◌-◌, ◌∷◌, rules, sym, ap, ◌∙◌, arith}
use mir.Val.{SFits}
use Rattle.std.specs.Int.{w64}
use Rattle.std.proofs.lemmas.Int.{to_z-of_z}
use Rattle.term_operand.specs.Value.{value_datum}
use Rattle.machine_stack.specs.Stack.{stack_at}
use Rattle.machine_stack.proofs.MakeLemmas.{computed_is}
use Rattle.machine_stack.proofs.places.Places.arithmetic.Goals as goal

pub returns-clause-flow : goal.returns-clause-flow
returns-clause-flow g c p object held pc slots are on =
    let terms = c.args.self.now.terms in
    let below : c.args.height - 1 - 1 ≡ c.args.height - 2 = omega arith in
    let whole = c.top-2.ensures.terms ∙ ap (λ ds. value_datum c.top-2.result.now ∷ ds) (c.top.ensures.terms ∙ ap (λ n. value_datum c.top.result.now ∷ stack_at terms n) below) in
    let left : SFits w64 c.in-Some-Some.left = search rules in
    let right : SFits w64 c.in-Some-Some.right = search rules in
    let value = rw (to_z-of_z w64 c.in-Some-Some.left left, to_z-of_z w64 c.in-Some-Some.right right) at c.computed-value.ensures.value in (
      slots,
      are,
      c.push_or_jump.ensures.flow p pc slots
          ∙ computed_is p object pc slots c.args.function c.args.otherwise (stack_at terms c.args.height) _ _ _ _ _ _ whole (sym c.integer-left.ensures ∙ c.in-Some-Some.is-0) (sym c.integer-right.ensures ∙ c.in-Some-Some.is-1) value,
    )

pub returns-clause-borrowed : goal.returns-clause-borrowed
returns-clause-borrowed g c is = c.push_or_jump.ensures.borrowed is c.computed-value.ensures.borrowed
