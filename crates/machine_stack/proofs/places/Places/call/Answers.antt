use Rattle.std.proofs.Common.{refl, ◌∙◌}
use Rattle.machine_stack.specs.Stack.{stack_at}
use Rattle.machine_stack.proofs.MakeLemmas.{called_is}
use Rattle.machine_stack.proofs.StackLemmas.{stack_left}
use Rattle.machine_stack.proofs.places.Places.call.Goals as goal

pub returns-clause-flow : goal.returns-clause-flow
returns-clause-flow g c p object held pc slots are on = (
  slots,
  are,
  c.push_or_jump.ensures.flow p pc slots
      ∙ called_is p object pc slots c.args.function c.args.arguments c.args.otherwise (stack_at c.args.self.now.terms c.args.height) _ _
      (stack_left c.args.self.now.terms c.args.height c.args.arguments c.requires.deep c.requires.within) c.in_ok-value.ensures.value on,
)

pub returns-clause-memory : goal.returns-clause-memory
returns-clause-memory g c is few = (refl, c.push_or_jump.ensures.borrowed is (c.in_ok-value.ensures.memory is few))
