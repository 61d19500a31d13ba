-- feeding the characters that remain completes the whole
use Rattle.std.specs.Str.{IsUtf8, chars}
use Rattle.std.specs.Str.Iter.{chars_rest}
use Rattle.term_core.specs.Fed.{characters_fed}
use Rattle.term_core.proofs.FedLemmas.{Leads}
use Rattle.term_core.proofs.feed.feed_characters.Given as goal

abbrev pub invariant-loop-character : goal.invariant-loop-character
invariant-loop-character g l =
    IsUtf8 (chars_rest l.character-iterator) × Leads g.H.Hasher.write l.initial.state l.state (characters_fed (chars (chars_rest l.character-iterator))) (characters_fed (chars l.fn.text))
