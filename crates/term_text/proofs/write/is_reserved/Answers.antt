use Rattle.term_text.proofs.ByteWords.{no_word_reserved}
use Rattle.term_text.proofs.write.is_reserved.Goals as goal

pub returns-in-None : goal.returns-in-None
returns-in-None c = no_word_reserved c.args.text.now c.as_bytes.result.now c.as_bytes.ensures.value c.in-None.ensures.value
