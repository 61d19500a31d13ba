-- The pairs of a map: inserted by key, each key once.
use Rattle.std.proofs.Common.{◌≡◌, ◌&&◌, cond, ℕ, ◌+◌, ◌≤◌, ◌<◌, inl, inr, Bool, true, false, List, [], ◌∷◌, ◌++◌, refl, sym, ap, ◌∙◌, arith}
use Rattle.std.proofs.lemmas.Bool.{or_parts, or_from, and_parts, cases_Bool}
use Rattle.std.proofs.lemmas.List.{append-nil}
use Rattle.std.proofs.lemmas.List.Sums.{sum_by_from}
use Rattle.std.proofs.lemmas.List.Sorted.{IsPermutation-refl, IsPermutation-sym, IsPermutation-cons, IsPermutation-trans, IsPermutation-middle, sum_by-IsPermutation, IsPermutation-append_right}
use Rattle.std.specs.List.{sum_by}
use Rattle.std.specs.List.Sorted.{IsPermutation}
use Rattle.std.specs.declared.cmp.Ordering.{Ordering}
use Rattle.std.specs.declared.cmp.Ordering.TheVariants.{Less, Equal, Greater}
use Rattle.std.specs.Ordering.{is_eq, match_ordering, MatchOrdering}
use Rattle.std.specs.BTreeMap.{insert_entry}
use Rattle.term_core.specs.Datum.{Datum, entries_of}
use Rattle.term_core.specs.Order.{IsBelow, IsBelowFirst, datum_cmp}
use Rattle.term_core.specs.OrderLaws.{datum_cmp_total, datum_cmp-says, datum_cmp-equal, datum_cmp-same, IsBelow-less}
use Rattle.std.specs.Map.{keys_of}
use Rattle.std.specs.List.Sorted.{IsStrictlySortedBy}
use Rattle.std.proofs.lemmas.Map.Keys.{sorted_head, sorted_tail}
use Rattle.term_core.specs.Datum.Datum.{map}
use Rattle.term_core.specs.MapPairs as map_pairs
use Rattle.term_core.specs.MapPairs.{IsMapOf}
use Rattle.term_text.specs.Reading.{has_key}

-- each key is below the next
abbrev pub AreRising : List (Datum × Datum) → Type 0
AreRising es = map_pairs.AreRising (entries_of es)

below_at : (a b : Datum) (o : Ordering) → datum_cmp a b ≡ o → MatchOrdering o (IsBelow a b) (a ≡ b) (IsBelow b a)
below_at a b o e = rw e at (datum_cmp-says a b)

pub below_from : (a b : Datum) → datum_cmp a b ≡ Less → IsBelow a b
below_from a b e = below_at a b Less e

pub above_from : (a b : Datum) → datum_cmp a b ≡ Greater → IsBelow b a
above_from a b e = below_at a b Greater e

pub below_trans : (a b c : Datum) → IsBelow a b → IsBelow b c → IsBelow a c
below_trans a b c h k = below_from a c (datum_cmp_total.trans a b c (IsBelow-less a b h) (IsBelow-less b c k))

-- ---- inserting one pair

abbrev put : List (Datum × Datum) → Datum → Datum → List (Datum × Datum)
put es k v = insert_entry datum_cmp es k v

put_case : (k v : Datum) (e : Datum × Datum) (es : List (Datum × Datum)) (o : Ordering) → datum_cmp k e.0 ≡ o → has_key k (e ∷ es) ≡ false → (has_key k es ≡ false → IsPermutation ((k, v) ∷ es) (put es k v))
    → IsPermutation ((k, v) ∷ e ∷ es) (match_ordering o ((k, v) ∷ e ∷ es) ((e.0, v) ∷ es) (e ∷ put es k v))
put_case k v e es Less c h again = IsPermutation-refl ((k, v) ∷ e ∷ es)
put_case k v e es Equal c h again = absurd (let both = or_parts (is_eq (datum_cmp k e.0)) (has_key k es) h in let no : is_eq Equal ≡ false = rw c at both.0 in cc)
put_case k v e es Greater c h again =
    let both = or_parts (is_eq (datum_cmp k e.0)) (has_key k es) h in
    IsPermutation-trans ((k, v) ∷ e ∷ es) (e ∷ (k, v) ∷ es) (e ∷ put es k v) (IsPermutation-middle ((k, v) ∷ []) e es) (IsPermutation-cons e ((k, v) ∷ es) (put es k v) (again both.1))

pub put_permutes : (k v : Datum) (es : List (Datum × Datum)) → has_key k es ≡ false → IsPermutation ((k, v) ∷ es) (put es k v)
put_permutes k v [] h = IsPermutation-refl ((k, v) ∷ [])
put_permutes k v (e ∷ es) h = put_case k v e es (datum_cmp k e.0) refl h (put_permutes k v es)

first_case : (x k v : Datum) (e : Datum × Datum) (es others : List (Datum × Datum)) (o : Ordering) → IsBelow x k → IsBelow x e.0 → IsBelowFirst x (entries_of (match_ordering o ((k, v) ∷ e ∷ es) ((e.0, v) ∷ es) (e ∷ others)))
first_case x k v e es others Less h b = h
first_case x k v e es others Equal h b = b
first_case x k v e es others Greater h b = b

first_put : (x k v : Datum) (es : List (Datum × Datum)) → IsBelow x k → IsBelowFirst x (entries_of es) → IsBelowFirst x (entries_of (put es k v))
first_put x k v [] h b = h
first_put x k v (e ∷ es) h b = first_case x k v e es (put es k v) (datum_cmp k e.0) h b

rise_case : (k v : Datum) (e : Datum × Datum) (es : List (Datum × Datum)) (o : Ordering) → datum_cmp k e.0 ≡ o → AreRising (e ∷ es) → AreRising (put es k v) → AreRising (match_ordering o ((k, v) ∷ e ∷ es) ((e.0, v) ∷ es) (e ∷ put es k v))
rise_case k v e es Less c h again = (below_from k e.0 c, h)
rise_case k v e es Equal c h again = (h.0, h.1)
rise_case k v e es Greater c h again = (first_put e.0 k v es (above_from k e.0 c) h.0, again)

pub put_rises : (k v : Datum) (es : List (Datum × Datum)) → AreRising es → AreRising (put es k v)
put_rises k v [] h = (tt, tt)
put_rises k v (e ∷ es) h = rise_case k v e es (datum_cmp k e.0) refl h (put_rises k v es h.1)

-- ---- how often a key, or a pair, occurs in a list

abbrev one_if : Bool → ℕ
one_if b = cond b 1 0

abbrev key_is : Datum → Datum × Datum → ℕ
key_is k e = one_if (is_eq (datum_cmp k e.0))

abbrev pair_is : Datum → Datum → Datum × Datum → ℕ
pair_is k v e = one_if (is_eq (datum_cmp k e.0) && is_eq (datum_cmp v e.1))

pub key_count : Datum → List (Datum × Datum) → ℕ
key_count k es = sum_by (key_is k) es

pair_count : Datum → Datum → List (Datum × Datum) → ℕ
pair_count k v es = sum_by (pair_is k v) es

pub key_count-none : (k : Datum) → key_count k [] ≡ 0
unfolding key_count
key_count-none k = refl

pair_count-none : (k v : Datum) → pair_count k v [] ≡ 0
unfolding pair_count
pair_count-none k v = refl

pub key_count-more : (k : Datum) (e : Datum × Datum) (es : List (Datum × Datum)) → key_count k (e ∷ es) ≡ key_is k e + key_count k es
unfolding key_count
key_count-more k e es = sum_by_from (key_is k) (0 + key_is k e) es ∙ omega arith

pair_count-more : (k v : Datum) (e : Datum × Datum) (es : List (Datum × Datum)) → pair_count k v (e ∷ es) ≡ pair_is k v e + pair_count k v es
unfolding pair_count
pair_count-more k v e es = sum_by_from (pair_is k v) (0 + pair_is k v e) es ∙ omega arith

pub key_count-permuted : (k : Datum) (xs ys : List (Datum × Datum)) → IsPermutation xs ys → key_count k ys ≡ key_count k xs
unfolding key_count
key_count-permuted k xs ys h = sum_by-IsPermutation (key_is k) xs ys h

pair_count-permuted : (k v : Datum) (xs ys : List (Datum × Datum)) → IsPermutation xs ys → pair_count k v ys ≡ pair_count k v xs
unfolding pair_count
pair_count-permuted k v xs ys h = sum_by-IsPermutation (pair_is k v) xs ys h

pair_below_key : (a b : Bool) → one_if (a && b) ≤ one_if a
pair_below_key true true = omega arith
pair_below_key true false = omega arith
pair_below_key false b = omega arith

pair_count-le : (k v : Datum) (es : List (Datum × Datum)) → pair_count k v es ≤ key_count k es
pair_count-le k v [] = let a = pair_count-none k v in omega arith
pair_count-le k v (e ∷ es) =
    let a = pair_count-more k v e es in let b = key_count-more k e es in let c = pair_count-le k v es in
    let d = pair_below_key (is_eq (datum_cmp k e.0)) (is_eq (datum_cmp v e.1)) in omega arith

one_if-false : (b : Bool) → one_if b ≡ 0 → b ≡ false
one_if-false true h = absurd (omega arith)
one_if-false false h = refl

one_if-true : (b : Bool) → 0 < one_if b → b ≡ true
one_if-true true h = refl
one_if-true false h = absurd (omega arith)

one_if-le : (b : Bool) → one_if b ≤ 1
one_if-le true = omega arith
one_if-le false = omega arith

pub has_no_key : (k : Datum) (es : List (Datum × Datum)) → key_count k es ≡ 0 → has_key k es ≡ false
has_no_key k [] h = refl
has_no_key k (e ∷ es) h =
    let a = key_count-more k e es in
    or_from (is_eq (datum_cmp k e.0)) (has_key k es) (one_if-false (is_eq (datum_cmp k e.0)) (omega arith)) (has_no_key k es (omega arith))

pub is_eq-equal : (o : Ordering) → is_eq o ≡ true → o ≡ Equal
is_eq-equal Less h = absurd cc
is_eq-equal Equal h = refl
is_eq-equal Greater h = absurd cc

is_eq-same : (k : Datum) → is_eq (datum_cmp k k) ≡ true
is_eq-same k = rw (datum_cmp-same {a = k} {b = k} refl) refl

key_itself : (k v : Datum) → key_is k (k, v) ≡ 1
key_itself k v = rw (is_eq-same k) refl

pair_itself : (k v : Datum) → pair_is k v (k, v) ≡ 1
pair_itself k v = rw (is_eq-same k, is_eq-same v) refl

-- a key below the first of ascending keys is none of them
pub above_none : (k : Datum) (es : List (Datum × Datum)) → AreRising es → IsBelowFirst k (entries_of es) → key_count k es ≡ 0
above_none k [] h b = key_count-none k
above_none k (e ∷ []) h b =
    let a = key_count-more k e [] in let n = key_count-none k in
    let less : key_is k e ≡ 0 = rw (IsBelow-less k e.0 b) refl in omega arith
above_none k (e ∷ f ∷ es) h b =
    let a = key_count-more k e (f ∷ es) in
    let less : key_is k e ≡ 0 = rw (IsBelow-less k e.0 b) refl in
    let rest = above_none k (f ∷ es) h.1 (below_trans k e.0 f.0 b h.0) in omega arith

-- a key occurs at most once in an ascending list
pub key_once : (k : Datum) (es : List (Datum × Datum)) → AreRising es → key_count k es ≤ 1
key_once k [] h = let n = key_count-none k in omega arith
key_once k (e ∷ es) h =
    let a = key_count-more k e es in
    elim (cases_Bool (is_eq (datum_cmp k e.0))) [
      | inl hit ↦
          let same : k ≡ e.0 = datum_cmp-equal k e.0 (is_eq-equal (datum_cmp k e.0) hit) in
          let none : key_count k es ≡ 0 = above_none k es h.1 (rw same h.0) in
          let one = one_if-le (is_eq (datum_cmp k e.0)) in omega arith
      | inr miss ↦ let zero_here : key_is k e ≡ 0 = rw miss refl in let rest = key_once k es h.1 in omega arith
    ]

pair_same : (x y : Datum × Datum) → x.0 ≡ y.0 → x.1 ≡ y.1 → x ≡ y
pair_same (a, b) (c, d) h k = rw (h, k) refl

none_left : (k v : Datum) (es : List (Datum × Datum)) → key_count k es ≡ 0 → pair_count k v es ≡ 0
none_left k v es h = let l = pair_count-le k v es in omega arith

head_counts : (x : Datum × Datum) (xs : List (Datum × Datum)) → 0 < pair_count x.0 x.1 (x ∷ xs)
head_counts x xs = let a = pair_count-more x.0 x.1 x xs in let b = pair_itself x.0 x.1 in omega arith

same_head : (x y : Datum × Datum) (xs ys : List (Datum × Datum)) (o : Ordering) → datum_cmp x.0 y.0 ≡ o → AreRising (x ∷ xs) → AreRising (y ∷ ys) → ((k v : Datum) → pair_count k v (x ∷ xs) ≡ pair_count k v (y ∷ ys)) → x ≡ y
same_head x y xs ys Less c h k same =
    absurd (let a = head_counts x xs in let b = same x.0 x.1 in let none = none_left x.0 x.1 (y ∷ ys) (above_none x.0 (y ∷ ys) k (below_from x.0 y.0 c)) in omega arith)
same_head x y xs ys Greater c h k same =
    absurd (let a = head_counts y ys in let b = same y.0 y.1 in let none = none_left y.0 y.1 (x ∷ xs) (above_none y.0 (x ∷ xs) h (above_from x.0 y.0 c)) in omega arith)
same_head x y xs ys Equal c h k same =
    let keys : x.0 ≡ y.0 = datum_cmp-equal x.0 y.0 c in
    let none = none_left x.0 x.1 ys (above_none x.0 ys k.1 (rw keys k.0)) in
    let a = head_counts x xs in
    let b = same x.0 x.1 in
    let d = pair_count-more x.0 x.1 y ys in
    let counted : 0 < pair_is x.0 x.1 y = omega arith in
    let both = and_parts (is_eq (datum_cmp x.0 y.0)) (is_eq (datum_cmp x.1 y.1)) (one_if-true (is_eq (datum_cmp x.0 y.0) && is_eq (datum_cmp x.1 y.1)) counted) in
    pair_same x y keys (datum_cmp-equal x.1 y.1 (is_eq-equal (datum_cmp x.1 y.1) both.1))

-- two ascending lists of the same pairs are equal
rising_same : (xs ys : List (Datum × Datum)) → AreRising xs → AreRising ys → ((k v : Datum) → pair_count k v xs ≡ pair_count k v ys) → xs ≡ ys
rising_same [] [] h k same = refl
rising_same [] (y ∷ ys) h k same = absurd (let a = head_counts y ys in let b = same y.0 y.1 in let n = pair_count-none y.0 y.1 in omega arith)
rising_same (x ∷ xs) [] h k same = absurd (let a = head_counts x xs in let b = same x.0 x.1 in let n = pair_count-none x.0 x.1 in omega arith)
rising_same (x ∷ xs) (y ∷ ys) h k same =
    let head : x ≡ y = same_head x y xs ys (datum_cmp x.0 y.0) refl h k same in
    let tails : xs ≡ ys = rising_same xs ys h.1 k.1 (λ q w. let a = pair_count-more q w x xs in let b = pair_count-more q w y ys in let c = same q w in let d : pair_is q w x ≡ pair_is q w y = ap (pair_is q w) head in omega arith) in
    rw (head, tails) refl

pub rising_unique : (xs ys : List (Datum × Datum)) → AreRising xs → AreRising ys → IsPermutation xs ys → xs ≡ ys
rising_unique xs ys h k p = rising_same xs ys h k (λ q w. sym (pair_count-permuted q w xs ys p))

-- ---- inserting one pair after the other

pub put_all : List (Datum × Datum) → List (Datum × Datum) → List (Datum × Datum)
put_all front [] = front
put_all front (e ∷ es) = put_all (put front e.0 e.1) es

pub put_all-none : (front : List (Datum × Datum)) → put_all front [] ≡ front
unfolding put_all
put_all-none front = refl

pub put_all-more : (front : List (Datum × Datum)) (k v : Datum) (es : List (Datum × Datum)) → put_all front ((k, v) ∷ es) ≡ put_all (put front k v) es
unfolding put_all
put_all-more front k v es = refl

-- no key occurs twice
pub record AreApart (front es : List (Datum × Datum)) : Type 0 where
  pub once : (k : Datum) → key_count k front + key_count k es ≤ 1

pub apart_fresh : (front : List (Datum × Datum)) (k v : Datum) (es : List (Datum × Datum)) → AreApart front ((k, v) ∷ es) → has_key k front ≡ false
apart_fresh front k v es h = has_no_key k front (let a = h.once k in let b = key_count-more k (k, v) es in let c = key_itself k v in omega arith)

pub apart_next : (front : List (Datum × Datum)) (k v : Datum) (es : List (Datum × Datum)) → AreApart front ((k, v) ∷ es) → AreApart (put front k v) es
apart_next front k v es h = record {
  once = λ q.
      let a = h.once q in let b = key_count-more q (k, v) es in let c = key_count-more q (k, v) front in
      let d = key_count-permuted q ((k, v) ∷ front) (put front k v) (put_permutes k v front (apart_fresh front k v es h)) in
      omega arith;
}

put_all_permutes : (front es : List (Datum × Datum)) → AreApart front es → IsPermutation (es ++ front) (put_all front es)
unfolding put_all
put_all_permutes front [] h = IsPermutation-refl front
put_all_permutes front (e ∷ es) h =
    let fresh = apart_fresh front e.0 e.1 es h in
    let next = put_all_permutes (put front e.0 e.1) es (apart_next front e.0 e.1 es h) in
    let moved : IsPermutation (e ∷ (es ++ front)) (es ++ e ∷ front) = IsPermutation-sym (es ++ e ∷ front) (e ∷ (es ++ front)) (IsPermutation-middle es e front) in
    let one : IsPermutation (es ++ e ∷ front) (es ++ put front e.0 e.1) = IsPermutation-append_right es (e ∷ front) (put front e.0 e.1) (put_permutes e.0 e.1 front fresh) in
    IsPermutation-trans (e ∷ (es ++ front)) (es ++ e ∷ front) _ moved (IsPermutation-trans (es ++ e ∷ front) (es ++ put front e.0 e.1) _ one next)

put_all_rises : (front es : List (Datum × Datum)) → AreRising front → AreRising (put_all front es)
unfolding put_all
put_all_rises front [] h = h
put_all_rises front (e ∷ es) h = put_all_rises (put front e.0 e.1) es (put_rises e.0 e.1 front h)

pub apart_at_first : (es ordered : List (Datum × Datum)) → IsPermutation es ordered → AreRising ordered → AreApart [] es
apart_at_first es ordered p h = record { once = λ k. let a = key_once k ordered h in let b = key_count-permuted k es ordered p in let n = key_count-none k in omega arith }

-- inserting pairs in any order gives the one list in ascending key order
pub put_all_ordered : (es ordered : List (Datum × Datum)) → IsPermutation es ordered → AreRising ordered → put_all [] es ≡ ordered
put_all_ordered es ordered p h =
    let apart = apart_at_first es ordered p h in
    let made : IsPermutation es (put_all [] es) = rw append-nil at (put_all_permutes [] es apart) in
    rising_unique (put_all [] es) ordered (put_all_rises [] es tt) h (IsPermutation-trans (put_all [] es) es ordered (IsPermutation-sym es (put_all [] es) made) p)

-- ---- the map of pairs in ascending key order

pub sorted_rises : (es : List (Datum × Datum)) → IsStrictlySortedBy datum_cmp (keys_of es) → map_pairs.AreRising (entries_of es)
sorted_rises [] h = tt
sorted_rises (e ∷ []) h = (tt, tt)
sorted_rises (e ∷ f ∷ es) h = (below_from e.0 f.0 (sorted_head datum_cmp e.0 (keys_of (f ∷ es)) h).0, sorted_rises (f ∷ es) (sorted_tail datum_cmp e.0 (keys_of (f ∷ es)) h))

pub map_of_sorted : (es : List (Datum × Datum)) → IsStrictlySortedBy datum_cmp (keys_of es) → IsMapOf es (map (entries_of es))
map_of_sorted es h = record { entries = es; permutation = IsPermutation-refl es; rising = sorted_rises es h; is = refl }
