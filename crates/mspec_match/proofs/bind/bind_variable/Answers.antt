use Rattle.std.proofs.Common.{option_map, refl, ap}
use Rattle.term_operand.specs.Operand.{operand_datum}
use Rattle.mspec_match.proofs.SlotLemmas.{free-Binds, bound-Answers}
use Rattle.mspec_match.proofs.bind.bind_variable.Goals as goal

pub returns-in-None : goal.returns-in-None
returns-in-None g c =
    free-Binds (λ o. option_map operand_datum o) c.args.variables.now c.args.slots.now c.in-Some.rank c.args.number _ _ _ c.in-Some.ensures.in_order c.in-Some.ensures.found c.requires (ap (λ o. option_map operand_datum o) c.in-None.is) refl

pub returns-in-Some-slots : goal.returns-in-Some-slots
returns-in-Some-slots g c =
    bound-Answers (λ o. option_map operand_datum o) c.are_same.result c.args.variables.now c.args.slots.now c.in-Some.rank c.args.number _ _ _ c.in-Some.ensures.in_order c.in-Some.ensures.found c.requires (ap (λ o. option_map operand_datum o) c.in-Some-slots.is) c.are_same.ensures
