use Rattle.std.proofs.Common.{refl, ◌∙◌}
use Rattle.term_operand.specs.Value.{value_datum}
use Rattle.machine_stack.specs.Stack.{stack_at}
use Rattle.machine_stack.proofs.ConstantLemmas.{read_there}
use Rattle.machine_stack.proofs.MakeLemmas.{key_inside, value_is}
use Rattle.machine_stack.proofs.places.Places.value.Goals as goal

pub bounds-constants-from : goal.bounds-constants-from
bounds-constants-from g c =
    let ready = c.requires.ready in
    let on = ready.ready in
    let inside = key_inside ready.code ready.object on.0 on.1 c.args.key c.args.otherwise (stack_at c.args.self.now.terms c.args.height) on.3 in
    let inside = rw ready.same at inside in
    rw (c.constants.ensures.value, c.from.ensures) inside

pub returns-clause-flow : goal.returns-clause-flow
returns-clause-flow g c p object held same pc slots are on =
    let stack = stack_at c.args.self.now.terms c.args.height in
    let read = c.index-constants-from.is in
    let read = rw (c.constants.ensures.value, c.from.ensures, ← same) at read in
    let inside = key_inside p object pc slots c.args.key c.args.otherwise stack on in
    let there = read_there p.constants c.args.key c.index-constants-from.result inside read in (
      slots,
      are,
      c.push_or_jump.ensures.flow p pc slots
          ∙ value_is p object pc slots c.args.key c.args.otherwise stack (value_datum c.top.result.now) _ c.index-constants-from.result _ c.top.ensures.terms there c.in_ok-value.ensures.value on,
    )

pub returns-clause-memory : goal.returns-clause-memory
returns-clause-memory g c is = (refl, c.push_or_jump.ensures.borrowed is (c.in_ok-value.ensures.memory (c.top.ensures.borrowed is)))
