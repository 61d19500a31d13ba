-- An atom's text means what its characters mean.
use Rattle.std.proofs.Common.{◌≡◌, ℕ, zero, suc, ◌<◌, ◌≤◌, Bool, true, false, ◌&&◌, not, List, [], ◌∷◌, length, get_or, nat_eq, nat_lt, refl, sym, subst, ◌∙◌, ap, arith}
use Rattle.std.specs.List.{list_all}
use Rattle.std.specs.Char.{is_ascii, is_ascii_digit}
use Rattle.std.specs.Str.{chars, IsUtf8, IsAscii}
use Rattle.std.proofs.lemmas.Bool.{false≢true}
use Rattle.std.proofs.lemmas.Bool.Decides.{nat_tests}
use Rattle.std.proofs.lemmas.Str.{encodes-chars, encodes-IsAscii, chars-IsAscii}
use Rattle.mspec_syntax.proofs.NameLemmas.{IsAscii-from_test}
use Rattle.mspec_syntax.specs.Word.{dollar, underscore, are_digits, is_number, is_just, dollar_word, word_of}
use Rattle.mspec_syntax.specs.declared.word.Word.{Word}
use Rattle.mspec_syntax.specs.declared.word.Word.TheVariants.{Plain}

-- whether these are all ASCII
abbrev are_ascii : List ℕ → Bool
are_ascii = list_all is_ascii

-- digits are ASCII
digits-ascii : (cs : List ℕ) → list_all is_ascii_digit cs ≡ true → are_ascii cs ≡ true
digits-ascii [] h = refl
digits-ascii (c ∷ cs) h = by (is_ascii_digit c) refl (digits-ascii cs)
  where
    by : (d : Bool) → is_ascii_digit c ≡ d → (list_all is_ascii_digit cs ≡ true → are_ascii cs ≡ true) → are_ascii (c ∷ cs) ≡ true
    by true e others = let all : are_ascii cs ≡ true = others (rw e at h) in grind (arith, nat_tests)
    by false e others = absurd (false≢true (rw e at h))

no_digits : (cs : List ℕ) → are_ascii cs ≡ false → list_all is_ascii_digit cs ≡ false
no_digits cs other = by (list_all is_ascii_digit cs) refl
  where
    by : (d : Bool) → list_all is_ascii_digit cs ≡ d → list_all is_ascii_digit cs ≡ false
    by true e = absurd (false≢true (sym other ∙ digits-ascii cs e))
    by false e = e

not_just : (c : ℕ) (cs : List ℕ) → c < 128 → are_ascii cs ≡ false → is_just c cs ≡ false
not_just c [] low other = refl
not_just c (d ∷ []) low other = grind (arith, nat_tests)
not_just c (d ∷ e ∷ cs) low other = refl

and_no : (a : Bool) → (a && false) ≡ false
and_no true = refl
and_no false = refl

-- what isn't ASCII has no meaning
dollar_plain : (cs : List ℕ) → are_ascii cs ≡ false → dollar_word cs ≡ Plain
dollar_plain cs other =
    rw (no_digits cs other, and_no (not (nat_eq (length cs) 0)), not_just underscore cs (omega arith) other, not_just dollar cs (omega arith) other) refl

plain : (cs : List ℕ) → are_ascii cs ≡ false → word_of cs ≡ Plain
plain [] other = absurd (false≢true (sym other))
plain (c ∷ cs) other = by (nat_eq c dollar) refl
  where
    by : (d : Bool) → nat_eq c dollar ≡ d → word_of (c ∷ cs) ≡ Plain
    by true e =
        let others : are_ascii cs ≡ false = grind (arith, nat_tests) in
        rw (e, dollar_plain cs others) refl
    by false e = rw (e, not_just underscore (c ∷ cs) (omega arith) other) refl

-- a text is ASCII if its characters are
chars_ascii : (text : List ℕ) → IsUtf8 text → are_ascii (chars text) ≡ true → are_ascii text ≡ true
chars_ascii text utf8 h =
    let same : chars text ≡ text = sym (encodes-IsAscii (chars text) (IsAscii-from_test (chars text) h)) ∙ encodes-chars text utf8 in
    subst (λ cs. are_ascii cs ≡ true) same h

pub word_alike : (text : List ℕ) → IsUtf8 text → word_of text ≡ word_of (chars text)
word_alike text utf8 = by (are_ascii text) refl
  where
    by : (a : Bool) → are_ascii text ≡ a → word_of text ≡ word_of (chars text)
    by true e = ap word_of (sym (chars-IsAscii text (IsAscii-from_test text e)))
    by false e = other (are_ascii (chars text)) refl
      where
        other : (a : Bool) → are_ascii (chars text) ≡ a → word_of text ≡ word_of (chars text)
        other true k = absurd (false≢true (sym e ∙ chars_ascii text utf8 k))
        other false k = plain text e ∙ sym (plain (chars text) k)
