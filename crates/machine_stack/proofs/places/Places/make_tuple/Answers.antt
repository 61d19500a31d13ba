use Rattle.std.proofs.Common.{ap, ◌∙◌}
use Rattle.mcode.specs.Machine.{tuple_made}
use Rattle.machine_stack.specs.Stack.{stack_at}
use Rattle.machine_stack.proofs.MakeLemmas.{tuple_is}
use Rattle.machine_stack.proofs.places.Places.make_tuple.Goals as goal

pub returns-clause-flow : goal.returns-clause-flow
returns-clause-flow g c p object held pc slots are on = (
  slots,
  are,
  c.push_or_jump.ensures.flow p pc slots
      ∙ tuple_is p object pc slots c.args.size c.args.otherwise (stack_at c.args.self.now.terms c.args.height) _ _ c.in_ok-elements.ensures.rest
      (c.made_value-tuple.ensures ∙ c.in_ok-make_tuple.ensures ∙ ap tuple_made c.in_ok-elements.ensures.terms) on,
)
