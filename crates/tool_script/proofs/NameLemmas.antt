-- A text is an ASCII name exactly if its characters are.
use Rattle.std.proofs.Common.{◌≡◌, ℕ, true, List, [], ◌∷◌, ap, ◌∙◌, arith}
use Rattle.std.specs.List.{list_all}
use Rattle.std.specs.Char.{is_ascii}
use Rattle.std.specs.Str.{chars, IsUtf8, IsAscii, bytes_eq}
use Rattle.std.proofs.lemmas.Bool.Decides.{nat_tests}
use Rattle.std.proofs.lemmas.Str.{chars-IsAscii, IsUtf8-from_ascii}
use Rattle.std.proofs.lemmas.Str.Ascii.{IsAscii-nil, IsAscii-cons}
use Rattle.term_core.proofs.TextEq.{text_eq}

IsAscii-from_test : (cs : List ℕ) → list_all is_ascii cs ≡ true → IsAscii cs
IsAscii-from_test [] h = IsAscii-nil
IsAscii-from_test (c ∷ cs) h = IsAscii-cons c cs (grind (arith, nat_tests)) (IsAscii-from_test cs (grind (arith, nat_tests)))

pub same_name : (name text : List ℕ) → IsUtf8 text → list_all is_ascii name ≡ true → bytes_eq name text ≡ bytes_eq name (chars text)
same_name name text utf8 ascii =
    let own = IsAscii-from_test name ascii in
    text_eq name text (IsUtf8-from_ascii name own) utf8 ∙ ap (λ cs. bytes_eq cs (chars text)) (chars-IsAscii name own)
