-- Two texts are equal exactly if their characters are.
use Rattle.std.proofs.Common.{◌≡◌, ℕ, zero, suc, ◌<◌, ◌⊎◌, inl, inr, List, [], ◌∷◌, Bool, true, false, sym, ap, ◌∙◌, arith}
use Rattle.std.specs.Str.{chars, encode_utf8_all, IsUtf8, IsAscii, bytes_eq}
use Rattle.std.proofs.lemmas.Bool.{cases_Bool}
use Rattle.std.proofs.lemmas.Bool.Decides.{same_from_decides, Decides-like}
use Rattle.std.proofs.lemmas.Slice.Eq.{bytes_eq-Decides}
use Rattle.std.proofs.lemmas.Str.{encodes-chars, encodes_same, chars-IsAscii, encodes-IsAscii}

pub text_eq : (t u : List ℕ) → IsUtf8 t → IsUtf8 u → bytes_eq t u ≡ bytes_eq (chars t) (chars u)
text_eq t u t_is u_is =
    same_from_decides (bytes_eq t u) (bytes_eq (chars t) (chars u)) (bytes_eq-Decides t u)
    (Decides-like (bytes_eq (chars t) (chars u)) (λ (e : chars t ≡ chars u). sym (encodes-chars t t_is) ∙ ap encode_utf8_all e ∙ encodes-chars u u_is) (λ (e : t ≡ u). ap chars e) (bytes_eq-Decides (chars t) (chars u)))

-- a text is equal to one whose characters have one byte each exactly if its characters are
pub ascii_eq : (t name : List ℕ) → IsUtf8 t → encode_utf8_all name ≡ name → bytes_eq t name ≡ bytes_eq (chars t) name
ascii_eq t name t_is own =
    let spelled : encode_utf8_all (chars t) ≡ t = encodes-chars t t_is in
    same_from_decides (bytes_eq t name) (bytes_eq (chars t) name) (bytes_eq-Decides t name)
    (Decides-like (bytes_eq (chars t) name) (λ (e : chars t ≡ name). sym spelled ∙ ap encode_utf8_all e ∙ own) (λ (e : t ≡ name). encodes_same (chars t) name (spelled ∙ e ∙ sym own)) (bytes_eq-Decides (chars t) name))

pub ascii-nil : IsAscii []
ascii-nil i = omega arith

pub ascii-cons : (b : ℕ) (bs : List ℕ) → b < 128 → IsAscii bs → IsAscii (b ∷ bs)
ascii-cons b bs small rest zero = small
ascii-cons b bs small rest (suc i) = rest i

-- what is the same of all texts but some ASCII ones is the same of a text's bytes and of its characters
pub alike_beyond : {X : Type 0} (f : List ℕ → X) (other : X) → ((bs : List ℕ) → (f bs ≡ other) ⊎ IsAscii bs) → (t : List ℕ) → IsUtf8 t → f t ≡ f (chars t)
alike_beyond f other known t t_is = elim (known t) [
  | inr ascii ↦ ap f (sym (chars-IsAscii t ascii))
  | inl is ↦ elim (known (chars t)) [
    | inr ascii ↦ ap f (sym (encodes-chars t t_is) ∙ encodes-IsAscii (chars t) ascii)
    | inl again ↦ is ∙ sym again
  ]
]

-- a test that only ASCII texts pass is the same of a text's bytes and of its characters
pub ascii_alike : (p : List ℕ → Bool) → ((bs : List ℕ) → p bs ≡ true → IsAscii bs) → (t : List ℕ) → IsUtf8 t → p t ≡ p (chars t)
ascii_alike p ascii t t_is =
    alike_beyond p false (λ bs. elim (cases_Bool (p bs)) [
      | inl passes ↦ inr (ascii bs passes)
      | inr fails ↦ inl fails
    ]) t t_is
