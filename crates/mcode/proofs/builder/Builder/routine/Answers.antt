use Rattle.std.proofs.Common.{rules, ◌≡◌, suc, length, ap, arith, sym, ◌∙◌}
use Rattle.mcode.specs.Program.{Program, routine_of}
use Rattle.mcode.specs.Building.{with_routine, begun, empty_body, one_routine_more, with_body, IsBegun}
use Rattle.mcode.proofs.BuildLemmas.{next_begun, still_too_much}
use Rattle.mcode.proofs.builder.Builder.routine.Given as given
use Rattle.mcode.proofs.builder.Builder.routine.Goals as goal

pub returns-in_default-checked_sub-clause-fits : goal.returns-in_default-checked_sub-clause-fits
returns-in_default-checked_sub-clause-fits g c much =
    c.in_default.ensures (still_too_much _ _ _ _ _ (ap (λ (p : Program). p.around.number) (sym c.self.view_is) ∙ ap length (sym c.routines-before.ensures.value)) (sym c.as_slice.ensures.value) much)

-- the builder's new state
further : (g : given.Over) (c : goal.After-store g) → (begun c.store.new.self c.self.inside.main ≡ with_routine (begun c.self.inside.code c.self.inside.main) c.args.arguments.items c.args.gives c.args.slots) × IsBegun c.store.new.self c.self.inside.main × (length c.store.new.self.around.routines ≡ suc (length c.self.inside.code.around.routines))
further g c =
    let pushed : c.push_routine.new.self ≡ one_routine_more c.self.inside.code (routine_of c.args.arguments.items c.args.gives (empty_body c.args.slots)) = search rules in
    next_begun c.self.inside.code c.push_routine.new.self c.exchange-seen.new.self c.store.new.self c.self.inside.main c.args.arguments.items c.args.gives c.args.slots c.in-Some-checked_sub.last c.exchange-seen.result c.self.invariant
    (omega (arith, c.in-Some-checked_sub.ensures.0, c.in-Some-checked_sub.ensures.1, ap length c.routines-before.ensures.value))
    pushed (c.exchange-seen.ensures.code ∙ ap (with_body c.push_routine.new.self) c.empty-2.ensures) c.exchange-seen.ensures.before c.store.ensures

pub invariant_of-self-2 : goal.invariant_of-self-2
invariant_of-self-2 g c = (further g c).1

pub returns-clause-ok : goal.returns-clause-ok
returns-clause-ok g c = (
  (further g c).0
      ∙ ap (λ p. with_routine p c.args.arguments.items c.args.gives c.args.slots) c.self.view_is,
  omega (arith, (further g c).2, ap length c.routines-before.ensures.value),
)

pub returns-clause-fits : goal.returns-clause-fits
returns-clause-fits g c much =
    c.in_default.ensures (still_too_much _ _ _ _ _ (ap (λ (p : Program). p.around.number) (sym c.self.view_is) ∙ ap length (sym c.routines-before.ensures.value)) (sym c.as_slice.ensures.value) much)
