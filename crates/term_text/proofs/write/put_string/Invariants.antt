use Rattle.std.proofs.Common.{◌≡◌, ◌∷◌, ◌++◌, true, drop}
use Rattle.std.specs.Str.{encode_utf8_all}
use Rattle.term_core.specs.Datum.{cells}
use Rattle.term_core.specs.Datum.Datum.{nil}
use Rattle.term_text.specs.Character.{double_quote}
use Rattle.term_text.specs.Canonical.{quoted_characters, codes_of, is_string}
use Rattle.term_text.proofs.write.put_string.Given as goal

abbrev pub invariant-loop-element : goal.invariant-loop-element
invariant-loop-element g l =
    (l.out.front ≡ l.fn.out.front)
    × (is_string (cells (drop l.element-index l.elements) nil) ≡ true)
    × (l.out.items ++ encode_utf8_all (quoted_characters double_quote (codes_of (cells (drop l.element-index l.elements) nil)))
    ≡ l.fn.out.items ++ (double_quote ∷ encode_utf8_all (quoted_characters double_quote (codes_of (cells l.elements nil)))))
