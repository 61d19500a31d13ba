use Rattle.term_text.proofs.ReadBack.{read_back}
use Rattle.term_text.specs.declared.write.Form.TheVariants as forms
use Rattle.term_text.proofs.law.readable_text_is_read_back.Goals as goal

pub returns : goal.returns
returns c = λ d h. read_back forms.Readable d h
