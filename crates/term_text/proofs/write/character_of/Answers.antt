use Rattle.std.proofs.Common.{refl}
use Rattle.term_text.proofs.Bytes.{no_character}
use Rattle.term_text.proofs.write.character_of.Goals as goal

pub returns-in_default : goal.returns-in_default
returns-in_default g c = rw (no_character c.view.result c.args.term.now c.view.ensures.value c.view.ensures.split c.in_default.not-Integer) refl
