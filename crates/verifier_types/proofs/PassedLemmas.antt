-- Kinds at the top, one for each argument of a routine.
use Rattle.std.specs.Prelude.{ℕ, zero, suc, ◌≡◌, ◌+◌, ◌-◌, ◌<◌, ◌≤◌, if◌then◌else◌, Bool, true, false, Option, List, [], ◌∷◌, length, drop, reverse, slice_get}
use Rattle.std.proofs.Common.{arith, refl, sym, ap, subst, ◌∙◌, get_or}
use Rattle.std.proofs.lemmas.List.{drop_more, get_or-reverse, length-reverse, drop_all}
use Rattle.mcode.specs.declared.kind.Kind.{Kind}
use Rattle.verifier_types.specs.Effect.{are_below, is_top_below}

-- comparing one more kind
heads : (ks ls : List Kind) (n : ℕ) (l : Kind) → are_below (drop n ks) (l ∷ ls) ≡ (if is_top_below (slice_get ks n) l then are_below (drop (suc n) ks) ls else false)
heads [] ls zero l = refl
heads [] ls (suc n) l = refl
heads (k ∷ ks) ls zero l = refl
heads (k ∷ ks) ls (suc n) l = heads ks ls n l

-- the kinds from the top from a place on are below those that they have to be below
abbrev pub left_below : List Kind → List Kind → ℕ → Bool
left_below ks arguments n = are_below (drop n ks) (drop n (reverse arguments))

module _ (ks arguments : List Kind) (n : ℕ) (d : Kind) (inside : n < length arguments) where
  abbrev pub argument : Kind
  argument = get_or arguments (length arguments - 1 - n) d

  left_step : left_below ks arguments n ≡ (if is_top_below (slice_get ks n) argument then left_below ks arguments (n + 1) else false)
  left_step =
      let within : n < length (reverse arguments) = omega (arith, inside, length-reverse arguments) in
      let next : suc n ≡ n + 1 = omega arith in
      let Step : ℕ → Type 0 = λ m. are_below (drop n ks) (argument ∷ drop m (reverse arguments)) ≡ (if is_top_below (slice_get ks n) argument then left_below ks arguments m else false) in
      ap (are_below (drop n ks)) (drop_more (reverse arguments) n d within ∙ ap (λ l. l ∷ drop (n + 1) (reverse arguments)) (get_or-reverse arguments n d inside))
      ∙ subst Step next (heads ks (drop (suc n) (reverse arguments)) n argument)

  pub left_more : (b : Bool) (top : Option Kind) → top ≡ slice_get ks n → b ≡ is_top_below top argument → b ≡ true → left_below ks arguments n ≡ left_below ks arguments (n + 1)
  left_more b top kind tells below =
      left_step ∙ ap (λ c. if c then left_below ks arguments (n + 1) else false) (ap (λ o. is_top_below o argument) (sym kind) ∙ sym tells ∙ below)

  pub left_fails : (b : Bool) (top : Option Kind) → top ≡ slice_get ks n → b ≡ is_top_below top argument → b ≡ false → left_below ks arguments n ≡ false
  left_fails b top kind tells above =
      left_step ∙ ap (λ c. if c then left_below ks arguments (n + 1) else false) (ap (λ o. is_top_below o argument) (sym kind) ∙ sym tells ∙ above)

pub left_none : (ks arguments : List Kind) (n : ℕ) → length arguments ≤ n → left_below ks arguments n ≡ true
left_none ks arguments n past = ap (are_below (drop n ks)) (drop_all n (reverse arguments) (omega (arith, past, length-reverse arguments)))
