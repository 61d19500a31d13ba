use Rattle.term_text.proofs.Bytes.{no_string_in}
use Rattle.term_text.proofs.write.is_string.Goals as goal

pub returns-in-Some : goal.returns-in-Some
returns-in-Some g c = rw c.in-Some.is (no_string_in c.args.form c.args.elements.now c.in-Some.field-0.now (rw c.in-Some.is at c.requires))
