-- mixing in the characters that remain gives the whole
use Rattle.std.proofs.Common.{◌≡◌}
use Rattle.std.specs.Str.{IsUtf8, chars}
use Rattle.std.specs.Str.Iter.{chars_rest}
use Rattle.term_core.specs.KeyHash.{mix_all}
use Rattle.term_core.proofs.hash.mix_characters.Given as goal

abbrev pub invariant-loop-character : goal.invariant-loop-character
invariant-loop-character l =
    IsUtf8 (chars_rest l.character-iterator) × (mix_all l.mixed (chars (chars_rest l.character-iterator)) ≡ mix_all l.fn.hash (chars l.fn.text))
