use Rattle.term_operand.proofs.ViewLemmas.{no_number}
use Rattle.term_operand.proofs.operand.integer_of.Goals as goal

pub returns-in-List : goal.returns-in-List
returns-in-List g c =
    let split = rw c.in-List.is at c.requires in
    rw c.in-List.is (no_number _ _ split.0)
