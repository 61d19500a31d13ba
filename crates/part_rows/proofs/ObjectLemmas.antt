-- The objects of a key, one after the other.
use Rattle.std.proofs.Common.{◌≡◌, ℕ, ◌<◌, ◌≤◌, ◌+◌, List, [], ◌∷◌, ◌++◌, refl, ap, sym, ◌∙◌, length, length-append, take, get_or, append_assoc, arith}
use Rattle.std.specs.Prelude.{Bool, true, false, ◌^◌, ◌-◌, min, if◌then◌else◌, Option, filter, filter_map}
use Rattle.std.proofs.lemmas.List.{length-take-le, take_more}
use Rattle.std.proofs.lemmas.List.Elements.{filter-append, filter_map-append}
use Rattle.std.proofs.lemmas.List.Sums.{length-filter, count_by-le-length}
use Rattle.term_core.specs.Datum.{Datum}
use Rattle.mcode.specs.Program.{Program}
use Rattle.part_core.specs.Visits.{is_true}

one_more : (os : List Datum) (i : ℕ) (t : Datum) → i < length os → t ≡ get_or os i t → take (i + 1) os ≡ take i os ++ t ∷ []
one_more os i t within is = take_more os i t within ∙ ap (λ u. take i os ++ u ∷ []) (sym is)

-- what one more object adds to the answers
pub given_next : (f : Datum → Option Datum) (os : List Datum) (i : ℕ) (t : Datum) (initial before after : List Datum) → i < length os → t ≡ get_or os i t → before ≡ initial ++ filter_map f (take i os) → after ≡ before ++ filter_map f (t ∷ []) → after ≡ initial ++ filter_map f (take (i + 1) os)
given_next f os i t initial before after within is so_far more =
    more ∙ ap (λ xs. xs ++ filter_map f (t ∷ [])) so_far
    ∙ append_assoc initial (filter_map f (take i os)) (filter_map f (t ∷ []))
    ∙ ap (λ xs. initial ++ xs) (sym (ap (filter_map f) (one_more os i t within is) ∙ filter_map-append f (take i os) (t ∷ [])))

-- what one more object adds to those that pass a test
pub passed_next : (q : Datum → Bool) (os : List Datum) (i : ℕ) (t : Datum) → i < length os → t ≡ get_or os i t → filter q (take (i + 1) os) ≡ filter q (take i os) ++ filter q (t ∷ [])
passed_next q os i t within is =
    ap (filter q) (one_more os i t within is) ∙ filter-append q (take i os) (t ∷ [])

-- at most as many objects pass as were looked at
pub count_within : (q : Datum → Bool) (os : List Datum) (i : ℕ) → i < length os → length (filter q (take i os)) ≤ i
count_within q os i within =
    omega (arith, length-filter q (take i os), count_by-le-length q (take i os), length-take-le i os (omega (arith, within)))

-- what one more object adds to the count
pub count_next : (p : Program) (os : List Datum) (i : ℕ) (t : Datum) (b : Bool) (before after : ℕ) → i < length os → t ≡ get_or os i t → b ≡ is_true p t → before ≡ length (filter (is_true p) (take i os)) → after ≡ before + (if b then 1 else 0) → after ≡ length (filter (is_true p) (take (i + 1) os))
count_next p os i t b before after within is holds so_far more =
    let one : length (filter (is_true p) (t ∷ [])) ≡ (if b then 1 else 0) = of b holds in
    let sum : length (filter (is_true p) (take (i + 1) os)) ≡ length (filter (is_true p) (take i os)) + (if b then 1 else 0) = ap length (passed_next (is_true p) os i t within is) ∙ length-append (filter (is_true p) (take i os)) (filter (is_true p) (t ∷ [])) ∙ ap (λ n. length (filter (is_true p) (take i os)) + n) one in
    more ∙ ap (λ n. n + (if b then 1 else 0)) so_far ∙ sym sum
  where
    of : (x : Bool) → x ≡ is_true p t → length (filter (is_true p) (t ∷ [])) ≡ (if x then 1 else 0)
    of true e = rw (← e) refl
    of false e = rw (← e) refl

-- a count that grows by one, or doesn't grow, without overflow
pub counted : (n more : ℕ) (b : Bool) → b ≡ true → more ≡ min (n + 1) (2 ^ 64 - 1) → n < 2 ^ 64 - 1 → more ≡ n + (if b then 1 else 0)
counted n more true holds is few = omega (arith, is, few)
counted n more false holds is few = cc

pub uncounted : (n more : ℕ) (b : Bool) → b ≡ false → more ≡ n → more ≡ n + (if b then 1 else 0)
uncounted n more true holds is = cc
uncounted n more false holds is = omega (arith, is)
