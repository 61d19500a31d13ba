-- What is above the last element of an ascending row.
use Rattle.std.specs.Prelude.{IfSome}
use Rattle.std.proofs.Common.{◌≡◌, ℕ, zero, suc, ◌+◌, ◌<◌, List, [], ◌∷◌, ◌++◌, length, get_or, refl, sym, ap, subst, ◌∙◌, append_assoc, arith, Option, Some, None}
use Rattle.std.proofs.lemmas.List.{get_or_append_left, length-append}
use Rattle.mcode.specs.Program.{Rise}
use Rattle.mcode.proofs.RiseLemmas.{rise_more, rise_last}
use Rattle.code_file.specs.Due.{IsAbove}
use Rattle.code_file.specs.Rising.{LastIs}

pub rise_front : {X : Type 0} (number : X → ℕ) (xs : List X) (z : X) (zs : List X) → Rise number (xs ++ z ∷ zs) → Rise number (xs ++ z ∷ [])
rise_front {X} number xs z zs up k d within =
    let whole : (xs ++ z ∷ []) ++ zs ≡ xs ++ z ∷ zs = append_assoc xs (z ∷ []) zs in
    let shown : Rise number ((xs ++ z ∷ []) ++ zs) = subst (Rise number) (sym whole) up in
    let at : number (get_or ((xs ++ z ∷ []) ++ zs) k d) < number (get_or ((xs ++ z ∷ []) ++ zs) (k + 1) d) = shown k d (omega (arith, length-append (xs ++ z ∷ []) zs)) in
    let this : get_or ((xs ++ z ∷ []) ++ zs) k d ≡ get_or (xs ++ z ∷ []) k d = get_or_append_left (xs ++ z ∷ []) zs d k (omega arith) in
    let next : get_or ((xs ++ z ∷ []) ++ zs) (k + 1) d ≡ get_or (xs ++ z ∷ []) (k + 1) d = get_or_append_left (xs ++ z ∷ []) zs d (k + 1) within in
    omega (arith, at, ap number this, ap number next)

last_at : {X : Type 0} (front : List X) (x : X) (n : ℕ) (d : X) → length (front ++ x ∷ []) ≡ suc n → get_or (front ++ x ∷ []) n d ≡ x
last_at [] x zero d long = refl
last_at [] x (suc n) d long = absurd (omega (arith, long))
last_at (y ∷ front) x zero d long = absurd (omega (arith, long, length-append front (x ∷ [])))
last_at (y ∷ front) x (suc n) d long = last_at front x n d (omega (arith, long))

rise_one : {X : Type 0} (number : X → ℕ) (x : X) → Rise number (x ∷ [])
rise_one number x k d within = absurd (omega arith)

-- what is above the last element is above all
pub rise_above : {X : Type 0} (number : X → ℕ) (xs : List X) (last : Option ℕ) (y : X) → LastIs number xs last → Rise number xs → (IfSome last (λ l. l < number y) → Rise number (xs ++ y ∷ [])) × (Rise number (xs ++ y ∷ []) → IfSome last (λ l. l < number y))
rise_above {X} number xs None y is up = (λ _. subst (λ (zs : List X). Rise number (zs ++ y ∷ [])) (sym is) (rise_one number y), λ _. tt)
rise_above {X} number xs (Some n) y is up = (
  λ above. rise_more number xs y up (λ m d long.
      let same : get_or xs m d ≡ is.1 = ap (λ (zs : List X). get_or zs m d) is.2 ∙ last_at is.0 is.1 m d (ap length (sym is.2) ∙ long) in
      omega (arith, ap number same, is.3, above)),
  λ whole.
      let long : length xs ≡ suc (length is.0) = omega (arith, ap length is.2, length-append is.0 (is.1 ∷ [])) in
      let same : get_or xs (length is.0) is.1 ≡ is.1 = ap (λ (zs : List X). get_or zs (length is.0) is.1) is.2 ∙ last_at is.0 is.1 (length is.0) is.1 (ap length (sym is.2) ∙ long) in
      let below = rise_last number xs y (length is.0) is.1 whole long in
      omega (arith, below, ap number same, is.3),
)

-- ---- above the last

end_above : {X : Type 0} (number : X → ℕ) (front : List X) (x : X) (n : ℕ) → (number x < n → IsAbove number (front ++ x ∷ []) n) × (IsAbove number (front ++ x ∷ []) n → number x < n)
end_above number [] x n = (λ h. h, λ h. h)
end_above number (y ∷ []) x n = (λ h. h, λ h. h)
end_above number (y ∷ z ∷ front) x n = end_above number (z ∷ front) x n

pub above_last : {X : Type 0} (number : X → ℕ) (xs : List X) (last : Option ℕ) (n : ℕ) → LastIs number xs last → (IfSome last (λ l. l < n) → IsAbove number xs n) × (IsAbove number xs n → IfSome last (λ l. l < n))
above_last {X} number xs None n is = (λ _. subst (λ (zs : List X). IsAbove number zs n) (sym is) tt, λ _. tt)
above_last {X} number xs (Some m) n is = (
  λ above. subst (λ (zs : List X). IsAbove number zs n) (sym is.2) ((end_above number is.0 is.1 n).0 (omega (arith, above, is.3))),
  λ above. let below = (end_above number is.0 is.1 n).1 (subst (λ (zs : List X). IsAbove number zs n) is.2 above) in omega (arith, below, is.3),
)
