use Rattle.term_text.proofs.Meets.{one_fault}
use Rattle.term_text.proofs.law.a_text_has_one_fault.Goals as goal

pub returns : goal.returns
returns c = one_fault
