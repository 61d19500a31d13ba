use Rattle.std.proofs.Common.{rules, sym, ap, ◌∙◌, arith}
use Rattle.mcode.specs.Machine.{push_outcome}
use Rattle.machine_stack.specs.Stack.{stack_at}
use Rattle.machine_step.proofs.SlotLemmas.{held_inside, held_read, got_there}
use Rattle.machine_step.proofs.inside.get.Goals as goal

pub get-requires : goal.get-requires
get-requires g c =
    let ready = c.requires.finds.1.ready in
    let stack = stack_at c.args.stack.now.terms c.args.height in
    (search rules, rw c.from.ensures (held_inside ready.1 c.args.slots.now.terms c.args.slot ready.2 (got_there ready.1 c.args.slot ready.0 stack ready.3)))

pub push-requires : goal.push-requires
push-requires g c = (search rules, omega (arith, c.requires.finds.1.room.after))

pub returns-clause-flow : goal.returns-clause-flow
returns-clause-flow g c p pc slots are on =
    let stack = stack_at c.args.stack.now.terms c.args.height in
    let there = held_read slots c.args.slots.now.terms c.args.slot are (got_there slots c.args.slot pc stack on) in
    let read = c.get.ensures.value in
    let read = rw (c.from.ensures) at read in
    let value = rw (← c.in_ok-bound.ensures.value) at read in
    (slots, are, c.push.ensures.flow p pc slots ∙ ap (push_outcome pc stack slots) (sym value ∙ there))
