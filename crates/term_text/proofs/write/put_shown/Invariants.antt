use Rattle.std.proofs.Common.{◌≡◌, ◌∷◌, ◌++◌, drop}
use Rattle.std.specs.Str.{encode_utf8_all}
use Rattle.term_text.specs.Character.{double_quote}
use Rattle.term_text.specs.Canonical.{quoted_characters}
use Rattle.term_text.proofs.write.put_shown.Given as goal

abbrev pub invariant-loop-byte : goal.invariant-loop-byte
invariant-loop-byte g l = (l.out.front ≡ l.fn.out.front) × (l.out.items ++ encode_utf8_all (quoted_characters double_quote (drop l.byte-index l.bytes)) ≡ l.fn.out.items ++ (double_quote ∷ encode_utf8_all (quoted_characters double_quote l.bytes)))
