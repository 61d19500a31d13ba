-- Terms that differ, as a test, and pairs sorted by key.
use Rattle.std.proofs.Common.{◌≡◌, ◌&&◌, ◌||◌, not, Bool, true, false, cond, List, [], ◌∷◌, refl, sym, ap, ◌∙◌, subst}
use Rattle.std.specs.declared.cmp.Ordering.{Ordering}
use Rattle.std.specs.declared.cmp.Ordering.TheVariants.{Less, Equal, Greater}
use Rattle.std.specs.List.{AllByRecursion, IsDistinct, list_any}
use Rattle.std.specs.List.Sorted.{IsPermutation}
use Rattle.std.specs.Ordering.{eq_by_cmp, is_eq, is_lt, ordering_reverse}
use Rattle.std.proofs.lemmas.List.Sorted.{IsPermutation-cons, IsPermutation-middle, IsPermutation-refl, IsPermutation-sym, IsPermutation-trans}
use Rattle.term_core.specs.Datum.{Datum, entries_of}
use Rattle.term_core.specs.Datum.Datum.{map}
use Rattle.term_core.specs.Order.{IsBelow, IsBelowFirst, datum_cmp}
use Rattle.term_core.specs.OrderLaws.{datum_cmp_total, IsBelow-less}
use Rattle.term_core.specs.MapPairs.{AreRising, HasTwice, IsMapOf, keys_of, are_apart, placed, by_key}
use Rattle.term_core.proofs.MapLemmas.{Pair, Key, AreApart, seen, apart-seen, below, apart-no_twin, apart_from_no_twin, apart_permutation}

-- ---- terms that differ

neither : (a b : Bool) → (a || b) ≡ false → (a ≡ false) × (b ≡ false)
neither true b h = absurd (cc)
neither false b h = (refl, h)

none_passes : (test : Datum → Bool) (ds : List Datum) → list_any test ds ≡ false → AllByRecursion (λ d. test d ≡ false) ds
none_passes test [] h = tt
none_passes test (d ∷ ds) h =
    let k = neither (test d) (list_any test ds) h in (k.0, none_passes test ds k.1)

passes_none : (test : Datum → Bool) (ds : List Datum) → AllByRecursion (λ d. test d ≡ false) ds → list_any test ds ≡ false
passes_none test [] h = refl
passes_none test (d ∷ ds) h = ap (λ b. b || list_any test ds) h.0 ∙ passes_none test ds h.1

both : (a b : Bool) → (not a && b) ≡ true → (a ≡ false) × (b ≡ true)
both true b h = absurd (cc)
both false b h = (refl, h)

-- terms that pass the test all differ
pub AreApart-from_are_apart : (ds : List Datum) → are_apart ds ≡ true → AreApart ds
unfolding IsDistinct
AreApart-from_are_apart [] h = tt
AreApart-from_are_apart (d ∷ ds) h =
    let test = list_any (eq_by_cmp datum_cmp d) ds in
    let k = both test (are_apart ds) h in
    (none_passes (eq_by_cmp datum_cmp d) ds k.0, AreApart-from_are_apart ds k.1)

pub are_apart-from_AreApart : (ds : List Datum) → AreApart ds → are_apart ds ≡ true
unfolding IsDistinct
are_apart-from_AreApart [] h = refl
are_apart-from_AreApart (d ∷ ds) h =
    ap (λ b. not b && are_apart ds) (passes_none (eq_by_cmp datum_cmp d) ds h.0) ∙ are_apart-from_AreApart ds h.1

-- no key occurs twice among pairs whose keys differ
pub apart_from_are_apart : (pairs : List Pair) → are_apart (keys_of pairs) ≡ true → ¬ HasTwice pairs
apart_from_are_apart pairs h = apart-no_twin pairs (AreApart-from_are_apart (keys_of pairs) h)

same_tests : (a b : Bool) → (a ≡ true → b ≡ true) → (b ≡ true → a ≡ true) → a ≡ b
same_tests true true to from = refl
same_tests true false to from = sym (to refl)
same_tests false true to from = from refl
same_tests false false to from = refl

-- terms differ if no neighbours are equal among the sorted references to them
pub apart-sorted : (test : Bool) (ds : List Datum) (xs ys : List Key) → seen xs ≡ ds → IsPermutation xs ys → (test ≡ true → AreApart (seen ys)) × (AreApart (seen ys) → test ≡ true) → test ≡ are_apart ds
apart-sorted test ds xs ys same moved says =
    same_tests test (are_apart ds)
    (λ e. are_apart-from_AreApart ds (subst AreApart same (apart-seen ys xs (IsPermutation-sym xs ys moved) (says.0 e))))
    (λ e. says.1 (apart-seen xs ys moved (subst AreApart (sym same) (AreApart-from_are_apart ds e))))

-- ---- pairs in ascending key order

placed_before : (p q : Pair) (qs : List Pair) → is_lt (datum_cmp p.0 q.0) ≡ true → placed p (q ∷ qs) ≡ p ∷ q ∷ qs
placed_before p q qs e = ap (λ b. cond b (p ∷ q ∷ qs) (q ∷ placed p qs)) e

-- placing a pair is a permutation of that pair and the others
pub placed-IsPermutation : (p : Pair) (qs : List Pair) → IsPermutation (p ∷ qs) (placed p qs)
placed-IsPermutation p [] = IsPermutation-refl (p ∷ [])
placed-IsPermutation p (q ∷ qs) = by (is_lt (datum_cmp p.0 q.0)) (placed-IsPermutation p qs)
  where
    turned : IsPermutation (p ∷ q ∷ qs) (q ∷ p ∷ qs)
    turned = IsPermutation-middle (p ∷ []) q qs

    by : (b : Bool) → IsPermutation (p ∷ qs) (placed p qs) → IsPermutation (p ∷ q ∷ qs) (cond b (p ∷ q ∷ qs) (q ∷ placed p qs))
    by true rest = IsPermutation-refl (p ∷ q ∷ qs)
    by false rest =
        IsPermutation-trans (p ∷ q ∷ qs) (q ∷ p ∷ qs) (q ∷ placed p qs) turned (IsPermutation-cons q (p ∷ qs) (placed p qs) rest)

pub by_key-IsPermutation : (ps : List Pair) → IsPermutation ps (by_key ps)
by_key-IsPermutation [] = IsPermutation-refl []
by_key-IsPermutation (p ∷ ps) =
    IsPermutation-trans (p ∷ ps) (p ∷ by_key ps) (placed p (by_key ps)) (IsPermutation-cons p ps (by_key ps) (by_key-IsPermutation ps))
    (placed-IsPermutation p (by_key ps))

-- a key below the pair that is placed and below the first of the others is below the first of all
below_placed : (k : Datum) (p : Pair) (qs : List Pair) → IsBelow k p.0 → IsBelowFirst k (entries_of qs) → IsBelowFirst k (entries_of (placed p qs))
below_placed k p [] first rest = first
below_placed k p (q ∷ qs) first rest = by (is_lt (datum_cmp p.0 q.0))
  where
    by : (b : Bool) → IsBelowFirst k (entries_of (cond b (p ∷ q ∷ qs) (q ∷ placed p qs)))
    by true = first
    by false = rest

less_from_test : (o : Ordering) → is_lt o ≡ true → o ≡ Less
less_from_test Less e = refl
less_from_test Equal e = cc
less_from_test Greater e = cc

less_turned : (o p : Ordering) → o ≡ ordering_reverse p → is_lt p ≡ false → is_eq p ≡ false → o ≡ Less
less_turned o Less e s n = cc
less_turned o Equal e s n = cc
less_turned o Greater e s n = e

placed-rises : (p : Pair) (qs : List Pair) → AllByRecursion (λ k. eq_by_cmp datum_cmp p.0 k ≡ false) (keys_of qs) → AreRising (entries_of qs) → AreRising (entries_of (placed p qs))
placed-rises p [] apart up = (tt, tt)
placed-rises p (q ∷ qs) apart up = by (is_lt (datum_cmp p.0 q.0)) refl (placed-rises p qs apart.1 up.1)
  where
    by : (b : Bool) → is_lt (datum_cmp p.0 q.0) ≡ b → AreRising (entries_of (placed p qs)) → AreRising (entries_of (cond b (p ∷ q ∷ qs) (q ∷ placed p qs)))
    by true e rest = (below p.0 q.0 (less_from_test (datum_cmp p.0 q.0) e), up)
    by false e rest =
        let less = less_turned (datum_cmp q.0 p.0) (datum_cmp p.0 q.0) (datum_cmp_total.antisymm q.0 p.0) e apart.0 in
        (below_placed q.0 p qs (below q.0 p.0 less) up.0, rest)

by_key-rises : (ps : List Pair) → AreApart (keys_of ps) → AreRising (entries_of (by_key ps))
unfolding IsDistinct
by_key-rises [] h = tt
by_key-rises (p ∷ ps) h =
    let moved = IsPermutation-cons p ps (by_key ps) (by_key-IsPermutation ps) in
    let apart = apart_permutation (p ∷ ps) (p ∷ by_key ps) moved h in
    placed-rises p (by_key ps) apart.0 (by_key-rises ps h.1)

-- pairs sorted by key are the entries of their map
pub IsMapOf-by_key : (pairs : List Pair) → ¬ HasTwice pairs → IsMapOf pairs (map (entries_of (by_key pairs)))
IsMapOf-by_key pairs apart = record {
  entries = by_key pairs;
  permutation = by_key-IsPermutation pairs;
  rising = by_key-rises pairs (apart_from_no_twin pairs apart);
  is = refl;
}

placed_first : (p : Pair) (qs : List Pair) → IsBelowFirst p.0 (entries_of qs) → placed p qs ≡ p ∷ qs
placed_first p [] h = refl
placed_first p (q ∷ qs) h = placed_before p q qs (ap is_lt (IsBelow-less p.0 q.0 h))

-- pairs in ascending key order stay as they are
pub by_key-rising : (pairs : List Pair) → AreRising (entries_of pairs) → by_key pairs ≡ pairs
by_key-rising [] up = refl
by_key-rising (p ∷ ps) up = ap (placed p) (by_key-rising ps up.1) ∙ placed_first p ps up.0
