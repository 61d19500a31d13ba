use Rattle.std.proofs.Common.{[], reverse, refl, sym, ap, subst, ◌∙◌, arith}
use Rattle.mcode.specs.Run.{entry}
use Rattle.verifier_types.specs.Effect.{arguments_of}
use Rattle.machine_step.specs.Fits.{AreOf}
use Rattle.machine_step.proofs.AloneLemmas.{main_seen}
use Rattle.machine_stack.specs.Stack.{stack_at}
use Rattle.machine_bodies.proofs.GoingLemmas.{going_first}
use Rattle.mcode.proofs.BodyLemmas.{own_of_body}
use Rattle.machine_bodies.proofs.StandLemmas.{entered_stands}
use Rattle.machine_bodies.proofs.bodies.begin.Goals as goal

pub returns-clause-going : goal.returns-clause-going
returns-clause-going g c object =
    let p = c.args.code.now in
    let whole = c.routines-routines.ensures.within in
    let whole = rw c.code.ensures.value at whole in
    let main = whole.number in
    let made = c.in_ok-current.ensures in
    let made = rw c.main.ensures at made in
    let are = subst (λ o. AreOf (reverse (arguments_of o)) []) (sym (own_of_body p 0 main)) tt in
    let begins = entered_stands made (main_seen p main) [] are refl refl refl made.pc made.cells (ap (stack_at c.in_ok-current.current.stack.terms) made.height) (omega (arith, made.height)) in
    rw c.new-2.ensures.items (going_first p object main c.code.ensures.typed made.body begins.0 (begins.1 ∙ ap (λ q. entry q []) made.body))
