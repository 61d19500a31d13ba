use Rattle.std.proofs.Common.{◌≡◌, ◌++◌, length}
use Rattle.std.specs.Str.{chars, encode_utf8_all}
use denote.Text.{Utf8}
use denote.Shadow.{shadow}
use Rattle.term_text.specs.Canonical.{quoted_characters}
use Rattle.term_text.proofs.write.put_all_quoted.Given as goal

abbrev pub invariant-loop-character : goal.invariant-loop-character
invariant-loop-character g l =
    shadow (Utf8 l.rest)
    × (l.out.front ≡ l.fn.out.front)
    × (l.out.items ++ encode_utf8_all (quoted_characters l.fn.mark (chars l.rest)) ≡ l.fn.out.items ++ encode_utf8_all (quoted_characters l.fn.mark (chars l.text)))

abbrev pub decreases-loop-character : goal.decreases-loop-character
decreases-loop-character g l = length (chars l.rest)
