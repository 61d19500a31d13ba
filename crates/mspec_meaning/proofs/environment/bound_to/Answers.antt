use Rattle.std.proofs.Common.{Some, option_map, sym, ◌∙◌, ap}
use Rattle.mspec_syntax.proofs.RisingLemmas.{Rises-itself}
use Rattle.term_operand.specs.Operand.{operand_datum}
use Rattle.mspec_match.specs.Slots.{seen}
use Rattle.mspec_match.proofs.MatchLemmas.{lookup-known, lookup-unknown, lookup-free}
use Rattle.mspec_match.proofs.SlotLemmas.{assigned-get}
use Rattle.mspec_meaning.proofs.environment.bound_to.Goals as goal

pub returns-in-Some-slots : goal.returns-in-Some-slots
returns-in-Some-slots g c =
    let vs = c.args.variables.now in
    let place = assigned-get (λ o. option_map operand_datum o) vs c.args.slots.now c.in-Some.rank c.args.number _ (Rises-itself vs c.in-Some.ensures.in_order) c.in-Some.ensures.found c.requires in
    ap Some c.new.ensures.value
    ∙ sym (lookup-known vs (seen c.args.slots.now) c.args.number _ (place ∙ ap (λ o. option_map operand_datum o) c.in-Some-slots.is))

pub returns-in-None-slots : goal.returns-in-None-slots
returns-in-None-slots g c =
    let vs = c.args.variables.now in
    let rises = Rises-itself vs c.in-Some.ensures.in_order in
    let place = assigned-get (λ o. option_map operand_datum o) vs c.args.slots.now c.in-Some.rank c.args.number _ rises c.in-Some.ensures.found c.requires in
    sym (lookup-free vs (seen c.args.slots.now) c.args.number rises (place ∙ ap (λ o. option_map operand_datum o) c.in-None-slots.is))

pub returns-in-None : goal.returns-in-None
returns-in-None g c = sym (lookup-unknown c.args.variables.now (seen c.args.slots.now) c.args.number c.in-None.ensures.missing)
