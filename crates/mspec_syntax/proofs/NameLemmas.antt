-- The texts of the names that have a meaning.
use Rattle.std.proofs.Common.{◌≡◌, ℕ, Bool, true, List, [], ◌∷◌, refl, arith}
use Rattle.std.specs.Prelude.{codes}
use Rattle.std.specs.List.{list_all}
use Rattle.std.specs.Char.{is_ascii}
use Rattle.std.specs.Str.{chars, IsUtf8, IsAscii, bytes_eq}
use Rattle.std.proofs.lemmas.Bool.Decides.{nat_tests}
use Rattle.std.proofs.lemmas.Str.{encodes-IsAscii}
use Rattle.std.proofs.lemmas.Str.Ascii.{IsAscii-nil, IsAscii-cons}
use Rattle.term_core.proofs.TextEq.{ascii_eq}

pub chars_exit : chars (codes "EXIT") ≡ codes "EXIT"
unfolding chars
chars_exit = refl

pub IsAscii-from_test : (cs : List ℕ) → list_all is_ascii cs ≡ true → IsAscii cs
IsAscii-from_test [] h = IsAscii-nil
IsAscii-from_test (c ∷ cs) h = IsAscii-cons c cs (grind (arith, nat_tests)) (IsAscii-from_test cs (grind (arith, nat_tests)))

-- a text is an ASCII name exactly if its characters are
pub same_name : (text name : List ℕ) → IsUtf8 text → list_all is_ascii name ≡ true → bytes_eq text name ≡ bytes_eq (chars text) name
same_name text name utf8 ascii = ascii_eq text name utf8 (encodes-IsAscii name (IsAscii-from_test name ascii))
