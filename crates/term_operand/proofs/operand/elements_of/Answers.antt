use Rattle.term_operand.proofs.ViewLemmas.{no_tuple}
use Rattle.term_operand.proofs.operand.elements_of.Goals as goal

pub returns-in-List : goal.returns-in-List
returns-in-List g c =
    let split = rw c.in-List.is at c.requires in
    rw c.in-List.is (no_tuple _ _ split.0)
