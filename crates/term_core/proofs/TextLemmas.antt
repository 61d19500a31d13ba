-- Texts and their characters.
use Rattle.std.proofs.Common.{◌≡◌, ℕ, ◌+◌, ◌<◌, ◌≤◌, Bool, true, false, List, [], ◌∷◌, ◌++◌, length, get_or, take, refl, ap, sym, ◌∙◌, arith, append-nil}
use Rattle.std.proofs.Math.Utf8.{scalar, scalars, encode}
use Rattle.std.proofs.lemmas.Bool.{false≢true}
use Rattle.std.proofs.lemmas.List.{take_more, nil_from_length}
use Rattle.std.proofs.lemmas.Str.{chars-nil, chars-append, chars-encodes, encodes-chars, scalars-chars, length-le-encodes}
use Rattle.std.specs.Char.{IsScalar}
use Rattle.std.specs.Prelude.{◌&&◌}
use Rattle.std.specs.Str.{IsUtf8, chars}
use Rattle.term_core.specs.Limits.{AreScalars, IsTerm}
use Rattle.term_core.specs.Datum.Datum.{atom}
use Rattle.term_core.specs.declared.TheConstants.{MAX_CHARACTERS}

both_left : (a b : Bool) → (a && b) ≡ true → a ≡ true
both_left true b h = refl
both_left false b h = h

both_right : (a b : Bool) → (a && b) ≡ true → b ≡ true
both_right true b h = h
both_right false b h = absurd (false≢true h)

AreScalars-scalars : (cs : List ℕ) → scalars cs ≡ true → AreScalars cs
AreScalars-scalars [] h = tt
AreScalars-scalars (c ∷ cs) h =
    (both_left (scalar c) (scalars cs) h, AreScalars-scalars cs (both_right (scalar c) (scalars cs) h))

-- a text has at most as many characters as bytes
pub length-chars : (bs : List ℕ) → IsUtf8 bs → length (chars bs) ≤ length bs
length-chars bs utf8 = rw (encodes-chars bs utf8) at (length-le-encodes (chars bs))

-- an empty text has no characters
pub chars_none : (bs : List ℕ) → length bs ≡ 0 → chars bs ≡ []
chars_none bs none = ap chars (nil_from_length bs none) ∙ chars-nil

-- the characters of a text that is short enough make an atom
pub chars-IsTerm : (bs : List ℕ) → IsUtf8 bs → length (chars bs) ≤ MAX_CHARACTERS → IsTerm (atom (chars bs))
chars-IsTerm bs utf8 short =
    record { sound = (short, AreScalars-scalars (chars bs) (scalars-chars bs utf8)); shallow = omega arith }

-- a character that is appended to a text
pub chars-push : (bs : List ℕ) (c : ℕ) → IsUtf8 bs → IsScalar c → chars (bs ++ encode c) ≡ chars bs ++ c ∷ []
chars-push bs c utf8 scalar =
    chars-append bs (encode c) utf8
    ∙ ap (λ xs. chars bs ++ xs) (ap chars (sym (append-nil (encode c))) ∙ chars-encodes (c ∷ []) (rw scalar refl))

-- one more character of a row, appended to the text of those before it
pub chars_more : (bs cs : List ℕ) (i c : ℕ) → IsUtf8 bs → IsScalar c → chars bs ≡ take i cs → i < length cs → c ≡ get_or cs i c → chars (bs ++ encode c) ≡ take (i + 1) cs
chars_more bs cs i c utf8 scalar so_far there is =
    chars-push bs c utf8 scalar
    ∙ ap (λ xs. xs ++ c ∷ []) so_far
    ∙ ap (λ x. take i cs ++ x ∷ []) is
    ∙ sym (take_more cs i c there)
