use Rattle.std.proofs.Common.{rules, sym, length, set, Some, arith}
use Rattle.std.proofs.lemmas.Bool.{ltb-true, cond-true}
use Rattle.std.proofs.lemmas.List.{length-set}
use Rattle.term_operand.specs.Value.{value_datum}
use Rattle.machine_step.proofs.SlotLemmas.{held_count, held_set, slot_there}
use Rattle.machine_step.proofs.inside.bind.Goals as goal

pub pop-top-requires : goal.pop-top-requires
pop-top-requires g c =
    let finds = c.requires.finds.1 in
    (search rules, (omega (arith, finds.room.operands), finds.room.within))

pub put-requires : goal.put-requires
put-requires g c =
    let ready = c.requires.finds.1.ready in
    let on = ready.3 in
    let on = rw c.pop-top.ensures.terms at on in
    let inside = ltb-true c.args.slot (length ready.1) (slot_there ready.1 c.args.slot ready.0 _ _ on) in
    (search rules, rw c.from.ensures (omega (arith, inside, held_count ready.1 c.args.slots.now.terms ready.2)))

pub returns-clause-flow : goal.returns-clause-flow
returns-clause-flow g c p pc slots are on =
    let on = rw c.pop-top.ensures.terms at on in
    let inside = slot_there slots c.args.slot pc _ _ on in
    rw (c.put.ensures.terms, c.from.ensures, c.pop-top.ensures.terms)
    (set slots c.args.slot (Some (value_datum c.pop-top.result)), held_set slots c.args.slots.now.terms c.args.slot (value_datum c.pop-top.result) are, sym (cond-true _ _ _ inside))

pub returns-clause-within : goal.returns-clause-within
returns-clause-within g c = omega (arith, c.requires.finds.1.room.within)

pub returns-clause-slots : goal.returns-clause-slots
returns-clause-slots g c = rw c.put.ensures.terms (length-set c.args.slots.now.terms c.from.result (value_datum c.pop-top.result))

pub returns-clause-borrowed : goal.returns-clause-borrowed
returns-clause-borrowed g c of_stack of_slots =
    let both = c.pop-top.ensures.borrowed of_stack in
    (both.1, c.put.ensures.borrowed of_slots both.0)
