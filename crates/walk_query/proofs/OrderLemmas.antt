-- There is only one list of given keys in ascending order.
use Rattle.std.proofs.Common.{◌≡◌, ℕ, suc, ◌+◌, ◌<◌, Bool, true, false, cond, List, [], ◌∷◌, length, get_or, refl, sym, ap, ◌∙◌, arith}
use Rattle.std.specs.List.{count_by}
use Rattle.std.specs.List.Sorted.{IsPermutation, IsSorted}
use Rattle.std.specs.Ordering.{MatchOrdering, is_lt}
use Rattle.std.specs.declared.cmp.Ordering.{Ordering}
use Rattle.std.specs.declared.cmp.Ordering.TheVariants.{Less, Equal, Greater}
use Rattle.std.proofs.lemmas.Bool.{true≢false}
use Rattle.std.proofs.lemmas.List.Sorted.{ranks_by, sorted_far, sum_by-IsPermutation}
use Rattle.std.proofs.lemmas.List.Sums.{sum_by_from}
use Rattle.term_core.specs.Datum.{Datum}
use Rattle.term_core.specs.Order.{datum_cmp}
use Rattle.term_core.specs.OrderLaws.{datum_cmp_total, datum_cmp-says, IsBelow-less}

-- a key is before another in the order of terms
abbrev is_before : Datum → Datum → Bool
is_before j k = is_lt (datum_cmp j k)

before_says : (o : Ordering) (P Q R : Type 0) → MatchOrdering o P Q R → is_lt o ≡ false → (R → ⊥) → Q
before_says Less P Q R says less other = absurd (true≢false less)
before_says Equal P Q R says less other = says
before_says Greater P Q R says less other = absurd (other says)

-- if neither of two keys is before the other, they are equal
neither_before : (j k : Datum) → is_before j k ≡ false → is_before k j ≡ false → j ≡ k
neither_before j k left right =
    before_says (datum_cmp j k) _ _ _ (datum_cmp-says j k) left (λ below. true≢false (sym (ap is_lt (IsBelow-less k j below)) ∙ right))

-- 1 if a test passes, else 0
abbrev one_if : Bool → ℕ
one_if b = cond b 1 0

count_more : (p : Datum → Bool) (k : Datum) (ks : List Datum) → count_by p (k ∷ ks) ≡ one_if (p k) + count_by p ks
count_more p k ks = sum_by_from (λ x. one_if (p x)) (0 + one_if (p k)) ks ∙ omega arith

-- an element after the first
behind_first : (k : Datum) (ks : List Datum) (i : ℕ) (d : Datum) → get_or (k ∷ ks) (i + 1) d ≡ get_or ks i d
behind_first k ks i d = let next : i + 1 ≡ suc i = omega arith in ap (λ (n : ℕ). get_or (k ∷ ks) n d) next

count_none : (p : Datum → Bool) (ks : List Datum) → ((i : ℕ) (d : Datum) → i < length ks → p (get_or ks i d) ≡ false) → count_by p ks ≡ 0
count_none p [] each = refl
count_none p (k ∷ ks) each =
    let first : one_if (p k) ≡ 0 = ap one_if (each 0 k (omega arith)) in
    let rest : count_by p ks ≡ 0 = count_none p ks (λ i d inside. ap p (sym (behind_first k ks i d)) ∙ each (i + 1) d (omega (arith, inside))) in
    omega (arith, count_more p k ks, first, rest)

-- no key of an ascending list is before its first
none_before : (k : Datum) (ks : List Datum) → IsSorted datum_cmp (k ∷ ks) → count_by (λ j. is_before j k) (k ∷ ks) ≡ 0
none_before k ks up =
    count_none (λ j. is_before j k) (k ∷ ks)
    (λ i d inside. sorted_far is_before (ranks_by datum_cmp_total (λ (x : Datum). x)) (k ∷ ks) up 0 i d (omega arith) inside)

-- so if two lists have as many keys that pass each test, and the second is ascending, the first one's first key isn't
-- before the second one's first
first_not_before : (j k : Datum) (js ks : List Datum) → ((p : Datum → Bool) → count_by p (j ∷ js) ≡ count_by p (k ∷ ks)) → IsSorted datum_cmp (k ∷ ks) → is_before j k ≡ false
first_not_before j k js ks alike up = of (is_before j k) refl
  where
    of : (b : Bool) → is_before j k ≡ b → is_before j k ≡ false
    of false is = is
    of true is =
        let one : one_if (is_before j k) ≡ 1 = ap one_if is in
        absurd (omega (arith, count_more (λ x. is_before x k) j js, one, alike (λ x. is_before x k), none_before k ks up))

rises_behind : (k : Datum) (ks : List Datum) → IsSorted datum_cmp (k ∷ ks) → IsSorted datum_cmp ks
rises_behind k ks up i d from inside =
    sym (ap (λ (x : Datum). is_before x (get_or (k ∷ ks) (i + 1) d)) (behind_first k ks (i + 1) d) ∙ ap (is_before (get_or ks (i + 1) d)) (behind_first k ks i d))
    ∙ up (i + 1) d (omega arith) (omega (arith, inside))

-- two ascending lists with as many keys that pass each test are equal
rising_once : (js ks : List Datum) → ((p : Datum → Bool) → count_by p js ≡ count_by p ks) → IsSorted datum_cmp js → IsSorted datum_cmp ks → js ≡ ks
rising_once [] [] alike up also = refl
rising_once [] (k ∷ ks) alike up also =
    absurd (omega (arith, alike (λ x. true), count_more (λ x. true) k ks))
rising_once (j ∷ js) [] alike up also =
    absurd (omega (arith, alike (λ x. true), count_more (λ x. true) j js))
rising_once (j ∷ js) (k ∷ ks) alike up also =
    let same : j ≡ k = neither_before j k (first_not_before j k js ks alike also) (first_not_before k j ks js (λ p. sym (alike p)) up) in
    let rest : js ≡ ks = rising_once js ks (λ p. omega (arith, count_more p j js, count_more p k ks, alike p, ap (λ (x : Datum). one_if (p x)) same)) (rises_behind j js up) (rises_behind k ks also) in
    ap (λ x. x ∷ js) same ∙ ap (λ xs. k ∷ xs) rest

-- two ascending permutations of a list are equal
pub rising_alike : (named js ks : List Datum) → IsPermutation named js → IsSorted datum_cmp js → IsPermutation named ks → IsSorted datum_cmp ks → js ≡ ks
rising_alike named js ks moved up moves also =
    rising_once js ks (λ p. sum_by-IsPermutation (λ x. one_if (p x)) named js moved ∙ sym (sum_by-IsPermutation (λ x. one_if (p x)) named ks moves)) up also
