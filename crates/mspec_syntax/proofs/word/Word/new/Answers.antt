use Rattle.std.proofs.Common.{◌∙◌}
use Rattle.mspec_syntax.proofs.PlainLemmas.{word_alike}
use Rattle.mspec_syntax.proofs.word.Word.new.Goals as goal

pub returns : goal.returns
returns c = rw c.as_bytes.ensures.value at c.of_bytes.ensures ∙ word_alike c.args.text.now c.utf8.text
