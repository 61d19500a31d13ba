use Rattle.std.proofs.lemmas.List.{map-set}
use Rattle.term_operand.specs.Value.{value_datum, is_borrowed}
use Rattle.term_operand.proofs.BorrowLemmas.{all-set}
use Rattle.machine_stack.proofs.places.Places.put.Goals as goal

pub returns-clause-terms : goal.returns-clause-terms
returns-clause-terms g c =
    rw (← c.self.view_is, c.replace.ensures.after)
    (map-set value_datum c.self.inside.places.items c.args.index c.args.place)

pub returns-clause-borrowed : goal.returns-clause-borrowed
returns-clause-borrowed g c =
    rw (← c.self.view_is, c.replace.ensures.after)
    (λ is of_place. all-set is_borrowed c.self.inside.places.items c.args.index c.args.place is of_place)
