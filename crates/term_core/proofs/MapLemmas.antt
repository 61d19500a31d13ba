-- Pairs in any order, and the map made of them.
use Rattle.std.proofs.Common.{◌≡◌, ◌≢◌, ℕ, suc, zero, ◌+◌, ◌-◌, ◌<◌, ◌≤◌, max, true, false, List, [], ◌∷◌, length, get_or, drop, map as map_list, refl, sym, ap, ◌∙◌, subst, arith, inl, inr, ◌⊎◌, ⊎_elim, add-one, true≢false}
use Rattle.std.specs.declared.cmp.Ordering.{Ordering}
use Rattle.std.specs.declared.cmp.Ordering.TheVariants.{Less, Equal, Greater}
use Rattle.std.specs.Borrow.{Bor}
use Rattle.std.specs.List.{All, AllAdjacentBelow, AllByRecursion, Contains, IsDistinct}
use Rattle.std.specs.List.Sorted.{IsPermutation, IsSorted, IsStrictlySortedBy}
use Rattle.std.proofs.lemmas.Bool.Decides.{nat_tests}
use Rattle.std.specs.Ordering.{ord_max, nat_cmp, MatchOrdering, ordering_then, ordering_reverse, eq_by_cmp, is_eq, is_lt, is_ge}
use Rattle.std.proofs.lemmas.Bool.{cases_Bool}
use Rattle.std.proofs.lemmas.Cmp.{eq_by_cmp_equiv}
use Rattle.std.proofs.lemmas.List.{drop_more, get_or-map, get_or_default, length-map}
use Rattle.std.proofs.lemmas.List.Elements.{All-cons, All-contains_itself, All-head, All-tail, All-nil, pair_read, recursion_from_All}
use Rattle.std.proofs.lemmas.List.Sorted.{All-permutation, IsPermutation-map, IsPermutation-refl, IsPermutation-sym, IsPermutation-trans, all_adjacent_more, length_permutation}
use Rattle.std.proofs.lemmas.Map.Keys.{IsDistinct-from_sorted, IsDistinct-IsPermutation, Less-from_sorted, apart_from_distinct, sorted_from_all_adjacent}
use Rattle.term_core.specs.Datum.{Datum, entries_of}
use Rattle.term_core.specs.Datum.Datum.{map, nil}
use Rattle.term_core.specs.Limits.{depth, entries_depth, IsTerm, ArePairsSound}
use Rattle.term_core.specs.Order.{IsBelow, datum_cmp}
use Rattle.term_core.specs.OrderLaws.{datum_cmp_total, datum_cmp-says, datum_cmp-same, IsBelow-less}
use Rattle.term_core.specs.Fault.{IsTooLong}
use Rattle.term_core.specs.MapPairs.{AreRising, HasTwice, IsMapDepth, IsMapFault, IsMapOf, IsPairSound, keys_of}
use Rattle.term_core.specs.declared.fault.Fault.{Fault}
use Rattle.term_core.specs.declared.fault.Fault.TheVariants.{Memory}
use Rattle.term_core.specs.declared.TheConstants.{MAX_DEPTH}
use Rattle.term_core.proofs.LimitLemmas.{entry_count-entries_of}

abbrev pub Pair : Type 0
Pair = Datum × Datum

-- no two of these keys are equal
abbrev pub AreApart : List Datum → Type 0
AreApart = IsDistinct (eq_by_cmp datum_cmp)

-- terms that compare as Less are below each other
pub below : (a b : Datum) → datum_cmp a b ≡ Less → IsBelow a b
below a b e = subst (λ o. MatchOrdering o (IsBelow a b) (a ≡ b) (IsBelow b a)) e (datum_cmp-says a b)

pub same_terms : (a b : Datum) → is_eq (datum_cmp a b) ≡ true → a ≡ b
same_terms a b e = from_says (datum_cmp a b) e (datum_cmp-says a b) where
  from_says : (o : Ordering) → is_eq o ≡ true → MatchOrdering o (IsBelow a b) (a ≡ b) (IsBelow b a) → a ≡ b
  from_says Less t m = cc
  from_says Equal t m = m
  from_says Greater t m = cc

-- ---- ascending keys

-- the key at each place is below the key at the next place
abbrev pub RiseByPlaces : List Pair → Type 0
RiseByPlaces es = (k : ℕ) (d : Pair) → suc k < length es → datum_cmp (get_or es k d).0 (get_or es (suc k) d).0 ≡ Less

pub places_rise : (es : List Pair) → AreRising (entries_of es) → RiseByPlaces es
places_rise [] h k d l = absurd (omega arith)
places_rise (e ∷ []) h k d l = absurd (omega arith)
places_rise (e ∷ f ∷ es) h zero d l = IsBelow-less e.0 f.0 h.0
places_rise (e ∷ f ∷ es) h (suc k) d l = places_rise (f ∷ es) h.1 k d (omega arith)

pub rising_from_places : (es : List Pair) → RiseByPlaces es → AreRising (entries_of es)
rising_from_places [] h = tt
rising_from_places (e ∷ []) h = (tt, tt)
rising_from_places (e ∷ f ∷ es) h =
    (below e.0 f.0 (h 0 e (omega arith)), rising_from_places (f ∷ es) (λ k d l. h (suc k) d (omega arith)))

-- a pair's key is below the next pair's, as a loop compares them
abbrev pub Rises : Pair → Pair → Type 0
Rises p q = datum_cmp p.0 q.0 ≡ Less

rises : (a b : Datum) → is_ge (datum_cmp a b) ≡ false → datum_cmp a b ≡ Less
rises a b e = from_test (datum_cmp a b) e where
  from_test : (o : Ordering) → is_ge o ≡ false → o ≡ Less
  from_test Less t = refl
  from_test Equal t = cc
  from_test Greater t = cc

pub rising_more : (es : List Pair) (i : ℕ) (p q : Pair) → 0 < i → i < length es → p ≡ get_or es (i - 1) p → q ≡ get_or es i q → AllAdjacentBelow Rises es i → is_ge (datum_cmp p.0 q.0) ≡ false → AllAdjacentBelow Rises es (i + 1)
rising_more es i p q some l x y h e =
    all_adjacent_more es Rises i some h (pair_read es Rises (i - 1) i p q (omega arith) l x y (rises p.0 q.0 e))

pub falls-not_rising : (es : List Pair) (i : ℕ) (p q : Pair) → 0 < i → i < length es → p ≡ get_or es (i - 1) p → q ≡ get_or es i q → is_ge (datum_cmp p.0 q.0) ≡ true → ¬ AreRising (entries_of es)
falls-not_rising es i p q some l x y e h =
    let next : suc (i - 1) ≡ i = omega arith in
    let up = rw next at (places_rise es h (i - 1) p (omega arith)) in
    let here = get_or_default es i p q l in
    let less : datum_cmp p.0 q.0 ≡ Less = ap (λ r. datum_cmp r.0 q.0) x ∙ ap (λ r. datum_cmp (get_or es (i - 1) p).0 r.0) (y ∙ sym here) ∙ up in
    true≢false (sym e ∙ ap is_ge less)

pub rising_from_adjacent : (es : List Pair) → AllAdjacentBelow Rises es (length es) → AreRising (entries_of es)
rising_from_adjacent es h = rising_from_places es (λ k d l. rw add-one at (h k d (omega arith)))

pub key_at : (es : List Pair) (k : ℕ) (d : Pair) (e : Datum) → k < length es → get_or (keys_of es) k e ≡ (get_or es k d).0
key_at es k d e l = get_or-map (λ p. p.0) es k d e l

keys_sorted : (es : List Pair) → AreRising (entries_of es) → IsStrictlySortedBy datum_cmp (keys_of es)
keys_sorted es h = sorted_from_all_adjacent datum_cmp_total (keys_of es) nil (λ k l.
    let long = length-map es (λ (p : Pair). p.0) in
    let there : k < length es = omega arith in
    let next : suc k < length es = omega arith in
    rw (add-one, key_at es k (nil, nil) nil there, key_at es (suc k) (nil, nil) nil next) (places_rise es h k (nil, nil) next))

pub apart_from_rising : (es : List Pair) → AreRising (entries_of es) → AreApart (keys_of es)
apart_from_rising es h = IsDistinct-from_sorted datum_cmp (keys_of es) (keys_sorted es h)

-- ---- keys that occur twice

flips : (x y : Datum) → eq_by_cmp datum_cmp x y ≡ eq_by_cmp datum_cmp y x
flips x y = (eq_by_cmp_equiv datum_cmp_total).symm x y

pub apart_permutation : (xs ys : List Pair) → IsPermutation xs ys → AreApart (keys_of xs) → AreApart (keys_of ys)
apart_permutation xs ys moved h =
    IsDistinct-IsPermutation (eq_by_cmp datum_cmp) flips (keys_of xs) (keys_of ys) (IsPermutation-map (λ p. p.0) xs ys moved) h

pub apart-no_twin : (es : List Pair) → AreApart (keys_of es) → ¬ HasTwice es
apart-no_twin es h t =
    let long = length-map es (λ (p : Pair). p.0) in
    let there : t.second < length es = t.within in
    let first : t.first < length es = omega arith in
    let differ = apart_from_distinct (eq_by_cmp datum_cmp) (keys_of es) t.first t.second nil h t.order (omega arith) in
    let same = key_at es t.first (nil, nil) nil first ∙ t.same (nil, nil) ∙ sym (key_at es t.second (nil, nil) nil there) in
    true≢false (sym (ap is_eq (datum_cmp-same same)) ∙ differ)

-- a pair with this key is among these pairs
record StandsIn (k : Datum) (es : List Pair) : Type 0 where
  pub place : ℕ
  pub within : place < length es
  pub same : (d : Pair) → k ≡ (get_or es place d).0

stands_first : (k : Datum) (p : Pair) (es : List Pair) → is_eq (datum_cmp k p.0) ≡ true → StandsIn k (p ∷ es)
stands_first k p es e = record { place = 0; within = omega arith; same = λ d. same_terms k p.0 e }

stands_later : (k : Datum) (p : Pair) (es : List Pair) → StandsIn k es → StandsIn k (p ∷ es)
stands_later k p es s = let l = s.within in record { place = suc s.place; within = omega arith; same = λ d. s.same d }

stands_or_not : (k : Datum) (es : List Pair) → StandsIn k es ⊎ AllByRecursion (λ l. eq_by_cmp datum_cmp k l ≡ false) (keys_of es)
stands_or_not k [] = inr tt
stands_or_not k (p ∷ es) =
    ⊎_elim (λ e. inl (stands_first k p es e)) (λ e. ⊎_elim (λ s. inl (stands_later k p es s)) (λ h. inr (e, h)) (stands_or_not k es))
    (cases_Bool (eq_by_cmp datum_cmp k p.0))

twice_first : (p : Pair) (es : List Pair) → StandsIn p.0 es → HasTwice (p ∷ es)
twice_first p es s =
    let l = s.within in record { first = 0; second = suc s.place; order = omega arith; within = omega arith; same = λ d. s.same d }

twice_later : (p : Pair) (es : List Pair) → HasTwice es → HasTwice (p ∷ es)
twice_later p es t = record {
  first = suc t.first;
  second = suc t.second;
  order = let o = t.order in omega arith;
  within = let l = t.within in omega arith;
  same = λ d. t.same d;
}

pub twice_or_apart : (es : List Pair) → HasTwice es ⊎ AreApart (keys_of es)
unfolding IsDistinct
twice_or_apart [] = inr tt
twice_or_apart (p ∷ es) =
    ⊎_elim (λ s. inl (twice_first p es s)) (λ h. ⊎_elim (λ t. inl (twice_later p es t)) (λ k. inr (h, k)) (twice_or_apart es))
    (stands_or_not p.0 es)

pub apart_from_no_twin : (es : List Pair) → ¬ HasTwice es → AreApart (keys_of es)
apart_from_no_twin es h = ⊎_elim (λ t. absurd (h t)) (λ k. k) (twice_or_apart es)

pub twice_from_not_apart : (es : List Pair) → ¬ AreApart (keys_of es) → HasTwice es
twice_from_not_apart es h = ⊎_elim (λ t. t) (λ k. absurd (h k)) (twice_or_apart es)

-- ---- after a sort

only_less : (o p q : Ordering) → o ≡ ordering_reverse p → is_lt (ordering_then p q) ≡ false → is_eq o ≡ false → o ≡ Less
only_less o Less q e s n = cc
only_less o Equal q e s n = let tie = ap is_eq (sym e) ∙ n in cc
only_less o Greater q e s n = e

abbrev pub pair_cmp : Pair → Pair → Ordering
pair_cmp p q = ordering_then (datum_cmp p.0 q.0) (datum_cmp p.1 q.1)

pub rising_from_sort : (es : List Pair) → IsSorted pair_cmp es → AreApart (keys_of es) → AreRising (entries_of es)
rising_from_sort es up apart = rising_from_places es (λ k d l.
    let a = (get_or es k d).0 in
    let b = (get_or es (suc k) d).0 in
    let long = length-map es (λ (p : Pair). p.0) in
    let here : k < length es = omega arith in
    let differ : is_eq (datum_cmp a b) ≡ false = rw (key_at es k d nil here, key_at es (suc k) d nil l) at (apart_from_distinct (eq_by_cmp datum_cmp) (keys_of es) k (suc k) nil apart (omega arith) (omega arith)) in
    only_less (datum_cmp a b) (datum_cmp b a) _ (datum_cmp_total.antisymm a b) (rw add-one at (up k d (omega arith) (omega arith))) differ)

-- ---- keys through references

abbrev pub Key : Type 0
Key = Bor Datum

abbrev pub key_cmp : Key → Key → Ordering
key_cmp a b = datum_cmp a.now b.now

abbrev pub seen : List Key → List Datum
seen ks = map_list (λ k. k.now) ks

seen_at : (ks : List Key) (k : ℕ) (d : Key) (e : Datum) → k < length ks → get_or (seen ks) k e ≡ (get_or ks k d).now
seen_at ks k d e l = get_or-map (λ x. x.now) ks k d e l

reversed : (o p : Ordering) → o ≡ ordering_reverse p → is_lt p ≡ false → is_eq o ≡ false → o ≡ Less
reversed o Less e s n = cc
reversed o Equal e s n = let tie = ap is_eq (sym e) ∙ n in cc
reversed o Greater e s n = e

abbrev pub Differ : Key → Key → Type 0
Differ a b = is_eq (key_cmp a b) ≡ false

pub differ_more : (ks : List Key) (i : ℕ) (a b : Key) → 0 < i → i < length ks → a ≡ get_or ks (i - 1) a → b ≡ get_or ks i b → AllAdjacentBelow Differ ks i → Differ a b → AllAdjacentBelow Differ ks (i + 1)
differ_more ks i a b some l x y h e = all_adjacent_more ks Differ i some h (pair_read ks Differ (i - 1) i a b (omega arith) l x y e)

pub apart_from_neighbours : (ks : List Key) → IsSorted key_cmp ks → AllAdjacentBelow Differ ks (length ks) → AreApart (seen ks)
apart_from_neighbours [] up differ = unfold IsDistinct in tt
apart_from_neighbours (x ∷ xs) up differ =
    let ks = x ∷ xs in
    IsDistinct-from_sorted datum_cmp (seen ks) (sorted_from_all_adjacent datum_cmp_total (seen ks) nil (λ k l.
    let long = length-map ks (λ (y : Key). y.now) in
    let there : k < length ks = omega arith in
    let next : suc k < length ks = omega arith in
    let a = get_or ks k x in
    let b = get_or ks (suc k) x in
    rw (add-one, seen_at ks k x nil there, seen_at ks (suc k) x nil next) (reversed (key_cmp a b) (key_cmp b a) (datum_cmp_total.antisymm a.now b.now) (rw add-one at (up k x (omega arith) (omega arith))) (rw add-one at (differ k x (omega arith))))))

pub tied-not_apart : (ks : List Key) (i : ℕ) (a b : Key) → 0 < i → i < length ks → a ≡ get_or ks (i - 1) a → b ≡ get_or ks i b → is_eq (key_cmp a b) ≡ true → ¬ AreApart (seen ks)
tied-not_apart ks i a b some l x y tie h =
    let long = length-map ks (λ (k : Key). k.now) in
    let before : i - 1 < length ks = omega arith in
    let differ = rw (seen_at ks (i - 1) a nil before, seen_at ks i b nil l, ← x, ← y) at (apart_from_distinct (eq_by_cmp datum_cmp) (seen ks) (i - 1) i nil h (omega arith) (omega arith)) in
    true≢false (sym tie ∙ differ)

pub apart-seen : (xs ys : List Key) → IsPermutation xs ys → AreApart (seen xs) → AreApart (seen ys)
apart-seen xs ys moved h =
    IsDistinct-IsPermutation (eq_by_cmp datum_cmp) flips (seen xs) (seen ys) (IsPermutation-map (λ k. k.now) xs ys moved) h

-- two equal neighbours among the sorted keys are a key that occurs twice among the pairs
pub twice_from_keys : (es : List Pair) (xs ys : List Key) → seen xs ≡ keys_of es → IsPermutation xs ys → ¬ AreApart (seen ys) → HasTwice es
twice_from_keys es xs ys same moved h =
    twice_from_not_apart es (λ k. h (apart-seen xs ys moved (subst AreApart (sym same) k)))

pub no_twin_from_keys : (es : List Pair) (xs ys : List Key) → seen xs ≡ keys_of es → IsPermutation xs ys → AreApart (seen ys) → ¬ HasTwice es
no_twin_from_keys es xs ys same moved h =
    apart-no_twin es (subst AreApart same (apart-seen ys xs (IsPermutation-sym xs ys moved) h))

-- ---- depth and limits do not depend on the order of pairs

abbrev IsPairWithin : ℕ → Pair → Type 0
IsPairWithin n p = max (depth p.0) (depth p.1) ≤ n

pairs_within : (n : ℕ) (es : List Pair) → entries_depth (entries_of es) ≤ n → All (IsPairWithin n) es
pairs_within n [] h = All-nil (IsPairWithin n)
pairs_within n (e ∷ es) h = All-cons (IsPairWithin n) e es (omega arith) (pairs_within n es (omega arith))

depth_from_pairs : (n : ℕ) (es : List Pair) → All (IsPairWithin n) es → entries_depth (entries_of es) ≤ n
depth_from_pairs n [] h = omega arith
depth_from_pairs n (e ∷ es) h =
    let here : IsPairWithin n e = All-head (IsPairWithin n) e es h in
    let rest = depth_from_pairs n es (All-tail (IsPairWithin n) e es h) in
    omega arith

no_deeper : (xs ys : List Pair) → IsPermutation xs ys → entries_depth (entries_of ys) ≤ entries_depth (entries_of xs)
no_deeper xs ys moved =
    let n = entries_depth (entries_of xs) in
    depth_from_pairs n ys (All-permutation (IsPairWithin n) xs ys moved (pairs_within n xs (omega arith)))

pub entries_depth-permutation : (xs ys : List Pair) → IsPermutation xs ys → entries_depth (entries_of ys) ≡ entries_depth (entries_of xs)
entries_depth-permutation xs ys moved =
    omega (arith, no_deeper xs ys moved, no_deeper ys xs (IsPermutation-sym xs ys moved))

pub ord_max-nat : (m n : ℕ) → ord_max nat_cmp m n ≡ max m n
ord_max-nat m n = grind (arith, nat_tests)

-- the greatest depth so far, after one more pair
pub deepest_more : (es : List Pair) (i n k v : ℕ) (p : Pair) → i < length es → p ≡ get_or es i p → k ≡ depth p.0 → v ≡ depth p.1 → max n (entries_depth (entries_of (drop i es))) ≡ entries_depth (entries_of es) → max (max (max n k) v) (entries_depth (entries_of (drop (i + 1) es))) ≡ entries_depth (entries_of es)
deepest_more es i n k v p l x deep_key deep_value h =
    let here = ap (λ fs. entries_depth (entries_of fs)) (drop_more es i p l) in
    let key = ap (λ q. depth q.0) x in
    let value = ap (λ q. depth q.1) x in
    omega arith

pub sound_more : (es : List Pair) (i : ℕ) (p : Pair) → i < length es → p ≡ get_or es i p → IsPairSound p → (AllByRecursion IsPairSound (drop i es) → AllByRecursion IsPairSound es) → AllByRecursion IsPairSound (drop (i + 1) es) → AllByRecursion IsPairSound es
sound_more es i p l x sound h rest = h (rw (drop_more es i p l, ← x) (sound, rest))

pairs_sound : (es : List Pair) → AllByRecursion IsPairSound es → AreRising (entries_of es) → ArePairsSound (entries_of es)
pairs_sound [] sound up = tt
pairs_sound (e ∷ es) sound up = (sound.0.0, sound.0.1, up.0, pairs_sound es sound.1 up.1)

-- pairs with a depth and ascending keys make a map
pub map-IsTerm : (level : ℕ) (ps : List Pair) → IsMapDepth level ps → AreRising (entries_of ps) → IsTerm (map (entries_of ps)) × (level ≡ depth (map (entries_of ps)))
map-IsTerm level ps h up =
    let short = h.short in
    let shallow = h.shallow in
    let is = h.depth in
    let sound = recursion_from_All IsPairSound ps h.sound in (
      record {
        sound = (omega (arith, entry_count-entries_of ps), pairs_sound ps sound up);
        shallow = omega arith;
      },
      is,
    )

-- the depth of a map does not depend on the order of its pairs
pub map_depth-permutation : (level : ℕ) (xs ys : List Pair) → IsMapDepth level xs → IsPermutation xs ys → IsMapDepth level ys
map_depth-permutation level xs ys h moved =
    let deep = entries_depth-permutation xs ys moved in
    let long = length_permutation xs ys moved in
    let short = h.short in
    let is = h.depth in
    record {
      depth = omega arith;
      shallow = h.shallow;
      short = omega arith;
      sound = All-permutation IsPairSound xs ys moved h.sound;
    }

-- pairs with a depth are within the limits
pub within_limits : (level : ℕ) (es : List Pair) → IsMapDepth level es → (depth (map (entries_of es)) ≤ MAX_DEPTH) × ¬ IsTooLong (map (entries_of es))
within_limits level es h =
    let short = h.short in
    let shallow = h.shallow in
    let is = h.depth in
    let count = entry_count-entries_of es in
    (omega arith, λ long. omega arith)

-- a failure after the depth was found is out of memory
pub memory_fault : (level : ℕ) (es given : List Pair) (fault : Fault) → IsMapDepth level es → (given ≡ es) × (fault ≡ Memory) → (given ≡ es) × IsMapFault fault es
memory_fault level es given fault h r = (r.0, rw r.1 (within_limits level es h))

-- sorting pairs whose keys differ makes their map
pub map_from_sort : (es fs : List Pair) → ¬ HasTwice es → IsPermutation es fs → IsSorted pair_cmp fs → AreRising (entries_of fs)
map_from_sort es fs apart moved up =
    rising_from_sort fs up (apart_permutation es fs moved (apart_from_no_twin es apart))

pub map_from_rising : (es : List Pair) (d : Datum) → AreRising (entries_of es) → d ≡ map (entries_of es) → IsMapOf es d
map_from_rising es d up is =
    record { entries = es; permutation = IsPermutation-refl es; rising = up; is = is }

-- ---- pairs have only one map

later_less : (p : Pair) (es : List Pair) → AreRising (entries_of (p ∷ es)) → (q : Pair) → Contains es q → datum_cmp p.0 q.0 ≡ Less
later_less p es h q c =
    let all = p ∷ es in
    let long = length-map all (λ (r : Pair). r.0) in
    let there : suc c.0 < length all = omega (arith, c.1) in
    let less = Less-from_sorted datum_cmp (keys_of all) 0 (suc c.0) nil (keys_sorted all h) (omega arith) (omega arith) in
    ap (λ r. datum_cmp p.0 r.0) (sym c.2) ∙ ap (datum_cmp p.0) (sym (key_at all (suc c.0) q nil there)) ∙ less

not_itself : (p q : Pair) → datum_cmp p.0 q.0 ≡ Less → p ≢ q
not_itself p q less same =
    let tie = datum_cmp-same (ap (λ r. r.0) same) in
    let no : Less ≡ Equal = sym less ∙ tie in
    cc

not_both : (p q : Pair) → datum_cmp p.0 q.0 ≡ Less → datum_cmp q.0 p.0 ≡ Less → ⊥
not_both p q less more =
    let no : Less ≡ Greater = sym less ∙ datum_cmp_total.antisymm p.0 q.0 ∙ ap ordering_reverse more in
    cc

-- an element of a list is the first or among the later ones
first_or_later : (p q : Pair) (es : List Pair) (k : ℕ) → k < length (p ∷ es) → get_or (p ∷ es) k q ≡ q → (p ≡ q) ⊎ Contains es q
first_or_later p q es zero l e = inl e
first_or_later p q es (suc k) l e = inr (k, omega arith, e)

same_first : (p q : Pair) (es fs : List Pair) → AreRising (entries_of (p ∷ es)) → AreRising (entries_of (q ∷ fs)) → (q ≡ p) ⊎ Contains fs p → (p ≡ q) ⊎ Contains es q → p ≡ q
same_first p q es fs up over (inl e) y = sym e
same_first p q es fs up over (inr c) (inl e) = e
same_first p q es fs up over (inr c) (inr d) = absurd (not_both p q (later_less p es up q d) (later_less q fs over p c))

rest_within : (p : Pair) (es fs : List Pair) → AreRising (entries_of (p ∷ es)) → All (Contains (p ∷ fs)) (p ∷ es) → All (Contains fs) es
rest_within p es fs up h k d l =
    let q = get_or es k d in
    let later = later_less p es up q (All-contains_itself es k d l) in
    let c = All-tail (Contains (p ∷ fs)) p es h k d l in
    ⊎_elim (λ same. absurd (not_itself p q later same)) (λ there. there) (first_or_later p q fs c.0 c.1 c.2)

same_pairs : (es fs : List Pair) → AreRising (entries_of es) → AreRising (entries_of fs) → All (Contains fs) es → All (Contains es) fs → es ≡ fs
same_pairs [] [] up over h i = refl
same_pairs [] (q ∷ fs) up over h i = let c = All-head (Contains []) q fs i in absurd (omega (arith, c.1))
same_pairs (p ∷ es) [] up over h i = let c = All-head (Contains []) p es h in absurd (omega (arith, c.1))
same_pairs (p ∷ es) (q ∷ fs) up over h i =
    let c = All-head (Contains (q ∷ fs)) p es h in
    let d = All-head (Contains (p ∷ es)) q fs i in
    let first : p ≡ q = same_first p q es fs up over (first_or_later q p fs c.0 c.1 c.2) (first_or_later p q es d.0 d.1 d.2) in
    let rest : es ≡ fs = same_pairs es fs up.1 over.1 (rest_within p es fs up (rw (← first) at h)) (rest_within q fs es over (rw first at i)) in
    cc

-- two maps of the same pairs are the same map
pub IsMapOf-one : (pairs : List Pair) (d e : Datum) → IsMapOf pairs d → IsMapOf pairs e → d ≡ e
IsMapOf-one pairs d e m n =
    let moved = IsPermutation-trans m.entries pairs n.entries (IsPermutation-sym pairs m.entries m.permutation) n.permutation in
    let back = IsPermutation-sym m.entries n.entries moved in
    let here = All-permutation (Contains m.entries) m.entries n.entries moved (All-contains_itself m.entries) in
    let there = All-permutation (Contains n.entries) n.entries m.entries back (All-contains_itself n.entries) in
    m.is ∙ ap (λ es. map (entries_of es)) (same_pairs m.entries n.entries m.rising n.rising there here) ∙ sym n.is
