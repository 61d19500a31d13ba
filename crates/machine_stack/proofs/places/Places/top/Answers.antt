use Rattle.term_operand.specs.Value.{value_datum}
use Rattle.machine_stack.proofs.StackLemmas.{stack_top}
use Rattle.machine_stack.proofs.places.Places.top.Goals as goal

pub returns-clause-terms : goal.returns-clause-terms
returns-clause-terms g c =
    let read = rw c.from.ensures at c.get.ensures.value in
    stack_top c.args.self.now.terms c.args.height (value_datum c.get.result.now) c.requires.some c.requires.within read
