use Rattle.std.proofs.Common.{length, rules, refl, ap, ◌∙◌, arith}
use Rattle.std.proofs.lemmas.List.{length-set}
use Rattle.term_operand.specs.Value.{value_datum}
use Rattle.machine_bodies.proofs.StandLemmas.{result_room, resumed_with}
use Rattle.machine_bodies.proofs.activation.Activation.resume.Goals as goal

pub put-requires : goal.put-requires
put-requires g c =
    let waits = c.requires.2 in
    (search rules, rw c.from.ensures (result_room waits (value_datum c.args.value) c.requires.3))

pub overflow_add-self : goal.overflow_add-self
overflow_add-self g c =
    let room = result_room c.requires.2 (value_datum c.args.value) c.requires.3 in
    let count = length-set c.args.self.now.stack.terms c.from.result (value_datum c.args.value) in
    let few = c.put.ensures.few in
    let few = rw (c.put.ensures.terms, count) at few in
    record { fits = omega (arith, few, room) }

pub overflow_add-self-2 : goal.overflow_add-self-2
overflow_add-self-2 g c = record { fits = omega (arith, c.requires.2.few) }

pub returns-clause-on : goal.returns-clause-on
returns-clause-on g c t s waits good =
    let room = result_room waits (value_datum c.args.value) good in
    let terms = c.put.ensures.terms in
    let terms = rw c.from.ensures at terms in
    let places = ap length terms ∙ length-set c.args.self.now.stack.terms c.args.self.now.height (value_datum c.args.value) in
    resumed_with waits refl places refl waits.none (omega (arith, places, room)) (value_datum c.args.value) good refl refl terms
