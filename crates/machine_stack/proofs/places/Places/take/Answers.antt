use Rattle.std.proofs.Common.{◌<◌, length, false, refl, arith}
use Rattle.std.proofs.lemmas.List.{map-set, length-map}
use Rattle.term_operand.specs.Value.{value_datum, is_borrowed}
use Rattle.term_operand.specs.declared.value.Value.TheVariants as place
use Rattle.term_operand.proofs.BorrowLemmas.{all-get_or, all-set}
use Rattle.machine_stack.proofs.places.Places.take.Goals as goal

pub returns-clause-terms : goal.returns-clause-terms
returns-clause-terms g c =
    rw (← c.self.view_is, c.replace.ensures.after)
    (map-set value_datum c.self.inside.places.items c.args.index (place.Bool false))

pub returns-clause-borrowed : goal.returns-clause-borrowed
returns-clause-borrowed g c =
    let places = c.self.inside.places.items in
    let there = c.in-Some.there.now in
    let within = rw (← c.self.view_is) at c.requires in
    let inside : c.args.index < length places = omega (arith, within, length-map places value_datum) in
    rw (← c.self.view_is, c.replace.ensures.after, c.replace.ensures.value)
    (λ is.
    let here = all-get_or is_borrowed places c.args.index there inside is in
    (rw (← c.in-Some.ensures.value) at here, all-set is_borrowed places c.args.index (place.Bool false) is refl))
