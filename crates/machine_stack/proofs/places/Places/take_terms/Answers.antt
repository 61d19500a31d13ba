use Rattle.std.proofs.Common.{◌≡◌, ◌-◌, ◌+◌, ◌∷◌, ◌++◌, [], take, drop, reverse, sym, ap, ◌∙◌, arith}
use Rattle.term_operand.specs.Value.{value_datum}
use Rattle.machine_stack.specs.Stack.{stack_at}
use Rattle.machine_stack.proofs.StackLemmas.{taken_more}
use Rattle.machine_stack.proofs.places.Places.take_terms.Goals as goal

pub loop-taken-preserved : goal.loop-taken-preserved
loop-taken-preserved g c =
    let stack = stack_at c.args.self.now.terms c.args.height in
    let height = c.args.height in
    let taken = c.loop-taken.taken in
    let d = value_datum c.pop.result in
    let inv = c.loop-taken.invariant in
    let below : height - (taken + 1) ≡ height - taken - 1 = omega arith in
    let more = taken_more stack taken d (stack_at c.pop.new.self.terms (height - taken - 1)) (sym inv.2 ∙ c.pop.ensures.terms) in
    rw (c.in_ok-push.ensures.items, c.in_ok-into_term.ensures, below) (
      c.pop.ensures.count ∙ inv.0,
      ap (λ ds. ds ++ d ∷ []) inv.1 ∙ sym more.0,
      more.1,
    )

pub returns-clause-terms : goal.returns-clause-terms
returns-clause-terms g c =
    let stack = stack_at c.args.self.now.terms c.args.height in
    let done : c.loop-taken.taken ≡ c.args.count = omega arith in
    rw c.reverse.ensures.items (ap reverse (c.loop-taken.invariant.1 ∙ ap (λ n. take n stack) done))

pub returns-clause-rest : goal.returns-clause-rest
returns-clause-rest g c =
    let stack = stack_at c.args.self.now.terms c.args.height in
    let done : c.loop-taken.taken ≡ c.args.count = omega arith in
    ap (λ n. stack_at c.loop-taken.self.terms (c.args.height - n)) (sym done) ∙ c.loop-taken.invariant.2
    ∙ ap (λ n. drop n stack) done
