-- The number that is read from an option's text.
use Rattle.std.proofs.Common.{◌≡◌, ◌∙◌, ◌<◌, ◌≤◌, ◌^◌, ap, ℕ, Bool, true, false, List, [], ◌∷◌, Option, Some, None, Result, Ok, Err, refl, sym, subst, arith, ◌==◌, cond, drop}
use Rattle.std.specs.Prelude.{pos, unwrap_or}
use Rattle.std.specs.Str.Parse.{ParsesUnsigned, digits_value, starts_with_minus, without_leading_plus}
use Rattle.std.proofs.lemmas.Int.{ints}
use Rattle.clap.specs.Lexer.{without_minus}
use Rattle.clap.specs.Matches.{ReadsOne}
use Rattle.clap.specs.Matches.{one_text}
use Rattle.clap.specs.Values.{IsSignedIn}
use Rattle.clap.specs.Walk.{rows_of}
use Rattle.clap.specs.declared.builder.value_parser.ValueParser.TheVariants as vp
use Rattle.clap.specs.declared.parser.matches.Found.{Found}
use Rattle.clap.proofs.ValueTestLemmas.{accepts-Accepts}
use Rattle.clap.proofs.WalkLemmas.{one_text-rows}
use Rattle.tool_cli.specs.Words.{IsReadOf}

without_minus_is : (t : List ℕ) → without_minus t ≡ cond (starts_with_minus t) (drop 1 t) t
without_minus_is [] = refl
without_minus_is (x ∷ xs) = go (x == 45)
  where
    go : (b : Bool) → unwrap_or (cond b (Some xs) None) (x ∷ xs) ≡ cond b xs (x ∷ xs)
    go true = refl
    go false = refl

-- a text in a range that begins at 1 has no minus sign, and is read as its number
pub number_read : (E : Type 0) (G : List ℕ → Result ℕ E → Type 0) (k high : ℕ) (t : List ℕ) (r : Option ℕ)
    → ReadsOne G (without_minus t) r → ((u : List ℕ) (x : Result ℕ E) → G u x → ParsesUnsigned k 10 u x) → high < 2 ^ k
    → IsSignedIn (pos 1) (pos high) t
    → (n : ℕ) × (r ≡ Some n) × (n ≡ digits_value 10 (without_leading_plus t)) × (1 ≤ n) × (n ≤ high)
number_read E G k high t r read only fits passed =
    go (starts_with_minus t) refl r (subst (λ (u : List ℕ). ReadsOne G u r) (without_minus_is t) read)
  where
    go : (b : Bool) → starts_with_minus t ≡ b → (o : Option ℕ) → ReadsOne G (cond (starts_with_minus t) (drop 1 t) t) o
        → (n : ℕ) × (o ≡ Some n) × (n ≡ digits_value 10 (without_leading_plus t)) × (1 ≤ n) × (n ≤ high)
    go true minus o h =
        let low_ok = rw minus at passed.2 in
        absurd (omega (arith, ints))
    go false minus (Some v) h =
        let low_ok = rw minus at passed.2 in
        let high_ok = rw minus at passed.3 in
        let parsed = only t (Ok v) (rw minus at h) in
        (v, refl, parsed.1, rw parsed.1 (omega (arith, ints)), rw parsed.1 (omega (arith, ints)))
    go false minus None h =
        let low_ok = rw minus at passed.2 in
        let high_ok = rw minus at passed.3 in
        let numeral = rw minus at passed.0 in
        absurd (only t (Err h.0) (rw minus at h.1) (numeral, omega (arith, ints)))

-- the number that is read from the row of an option
pub option_read : (E : Type 0) (G : List ℕ → Result ℕ E → Type 0) (f : Found) (name : List ℕ) (most n : ℕ) (r : Option ℕ)
    → ((u : List ℕ) (x : Result ℕ E) → G u x → ParsesUnsigned 16 10 u x) → ((t : List ℕ) → one_text f name ≡ Some t → ReadsOne G t r)
    → most < 65536 → IsReadOf name most n (rows_of f) → (r ≡ Some n) × (n ≤ most)
option_read E G f name most n r only reads small is =
    let got = number_read E G 16 most is.text r (reads (without_minus is.text) (one_text-rows f name ∙ is.looked)) only small
    (accepts-Accepts false (vp.Signed (pos 1) (pos most)) is.text is.passes) in
    let same : got.0 ≡ n = got.2 ∙ sym is.number in
    (got.1 ∙ ap Some same, subst (λ m. m ≤ most) same got.4)

pub none_some : (n : ℕ) → None ≡ Some n → ⊥
none_some n e = cc

pub some_same : (m n : ℕ) → Some m ≡ Some n → m ≡ n
some_same m n e = cc
