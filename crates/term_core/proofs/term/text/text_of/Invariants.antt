-- the text so far has the characters so far
use Rattle.std.proofs.Common.{◌≡◌, take}
use Rattle.std.specs.Str.{chars}
use Rattle.std.specs.String.{string_bytes}
use Rattle.term_core.proofs.term.text.text_of.Given as goal

abbrev pub invariant-loop-character : goal.invariant-loop-character
invariant-loop-character g l = chars (string_bytes l.text) ≡ take l.character-index l.characters
