use Rattle.std.proofs.Common.{false}
use Rattle.term_operand.specs.Operand.{boolean}
use Rattle.term_operand.specs.Value.{value_datum}
use Rattle.machine_stack.proofs.StackLemmas.{stack_pop}
use Rattle.machine_stack.proofs.places.Places.pop.Goals as goal

pub returns-clause-terms : goal.returns-clause-terms
returns-clause-terms g c =
    let read = rw c.from.ensures at c.take.ensures.value in
    rw (c.take.ensures.terms, c.from.ensures)
    (stack_pop c.args.self.now.terms c.args.height (value_datum c.take.result) (boolean false) c.requires.some c.requires.within read)
