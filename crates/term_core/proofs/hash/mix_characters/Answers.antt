use Rattle.std.proofs.lemmas.Str.{IsUtf8-past_char, chars_past_char}
use Rattle.term_core.proofs.TextLemmas.{chars_none}
use Rattle.term_core.proofs.hash.mix_characters.Goals as goal

pub loop-character-preserved : goal.loop-character-preserved
loop-character-preserved c =
    let held = c.loop-character.invariant in
    let parts = c.in-Some.ensures.steps.0 in (
      IsUtf8-past_char _ _ c.in-Some.character held.0 parts,
      rw (c.mix-mixed.ensures, c.from.ensures) (rw (chars_past_char _ _ c.in-Some.character held.0 parts) at held.1),
    )

pub returns : goal.returns
returns c = rw (chars_none _ c.in-None.ensures.steps.0.0) at c.loop-character.invariant.1
