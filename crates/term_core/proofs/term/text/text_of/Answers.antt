use Rattle.std.proofs.Common.{refl, rules}
use Rattle.std.proofs.Math.Utf8.{encode}
use Rattle.std.proofs.lemmas.Slice.{pushed}
use Rattle.std.proofs.lemmas.Str.{chars-nil, IsUtf8-string_bytes}
use Rattle.std.specs.Char.{IsScalar}
use Rattle.std.specs.String.{string_bytes}
use Rattle.term_core.proofs.TextLemmas.{chars_more}
use Rattle.term_core.proofs.term.text.text_of.Goals as goal

pub loop-character-init : goal.loop-character-init
loop-character-init g c = rw c.new-text.ensures.bytes chars-nil

pub loop-character-preserved : goal.loop-character-preserved
loop-character-preserved g c =
    let read = c.character-item.result in
    let scalar : IsScalar read = search rules in
    let grown = pushed (encode read) refl c.in_ok-push.was c.push.ensures.bytes in
    rw grown (chars_more (string_bytes c.loop-character.text) c.args.characters.now c.loop-character.character-index read (IsUtf8-string_bytes c.loop-character.text) scalar c.loop-character.invariant c.loop-character-test.true c.character-item.is)
