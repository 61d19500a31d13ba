-- The number of variables before one.
use Rattle.std.proofs.Common.{◌≡◌, ℕ, zero, suc, ◌<◌, ◌==◌, ◌||◌, Bool, true, false, inl, inr, Some, List, [], ◌∷◌, length, slice_get, refl, sym, ◌∙◌, ap, arith}
use Rattle.std.proofs.lemmas.Bool.{cases_eq, eq-eqb, ne_eqb}
use Rattle.mspec_syntax.specs.Grammar.{is_among}
use Rattle.mspec_syntax.specs.Rising.{rising, rank_of}
use Rattle.mspec_syntax.proofs.RisingLemmas.{Rises, Rises-tail, Rises-below, Rises-itself}

rank-place : (vs : List ℕ) (i n : ℕ) → Rises vs → slice_get vs i ≡ Some n → i ≡ rank_of vs n
rank-place [] i n h e = absurd (cc)
rank-place (v ∷ vs) zero n h e =
    let first : v ≡ n = cc in rw (eq-eqb v n first) refl
rank-place (v ∷ vs) (suc i) n h e =
    let below = Rises-below v vs i n h e in
    rw (ne_eqb v n (λ z. absurd (omega arith))) (ap suc (rank-place vs i n (Rises-tail v vs h) e))

-- the place where a variable was found is its rank
pub rank-found : (vs : List ℕ) (i n : ℕ) → vs ≡ rising vs → slice_get vs i ≡ Some n → i ≡ rank_of vs n
rank-found vs i n kept e = rank-place vs i n (Rises-itself vs kept) e

-- the rank of a variable that is missing is the number of all variables
pub rank-missing : (vs : List ℕ) (n : ℕ) → is_among vs n ≡ false → length vs ≡ rank_of vs n
rank-missing [] n h = refl
rank-missing (v ∷ vs) n h =
    elim (cases_eq v n) [
      | inl e ↦ absurd (let q = sym (ap (λ b. b || is_among vs n) (eq-eqb v n e)) ∙ h in cc)
      | inr differ ↦
          let other = ne_eqb v n differ in
          let rest : is_among vs n ≡ false = sym (ap (λ b. b || is_among vs n) other) ∙ h in
          rw other (ap suc (rank-missing vs n rest))
    ]

-- the rank of a variable that is among these is below their number
pub rank-below : (vs : List ℕ) (n : ℕ) → is_among vs n ≡ true → rank_of vs n < length vs
rank-below [] n h = absurd (cc)
rank-below (v ∷ vs) n h =
    elim (cases_eq v n) [
      | inl e ↦ rw (eq-eqb v n e) (omega arith)
      | inr differ ↦
          let other = ne_eqb v n differ in
          let rest : is_among vs n ≡ true = sym (ap (λ b. b || is_among vs n) other) ∙ h in
          rw other (omega (arith, rank-below vs n rest))
    ]

pub among-first : (v : ℕ) (vs : List ℕ) → is_among (v ∷ vs) v ≡ true
among-first v vs = rw (eq-eqb v v refl) refl

pub among-rest : (v : ℕ) (vs : List ℕ) (n : ℕ) → is_among vs n ≡ true → is_among (v ∷ vs) n ≡ true
among-rest v vs n h = or-true (v == n) (is_among vs n) h
  where
    or-true : (a b : Bool) → b ≡ true → (a || b) ≡ true
    or-true true b h = refl
    or-true false b h = h
