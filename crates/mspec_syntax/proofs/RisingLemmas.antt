-- The ascending list of some numbers is the only one that is ascending and has these numbers.
use Rattle.std.proofs.Common.{◌≡◌, ℕ, zero, suc, ◌+◌, ◌<◌, ◌≤◌, ◌==◌, Bool, true, false, ◌||◌, inl, inr, List, [], ◌∷◌, length, get_or, Err, Option, Some, None, IfSome, IfNone, is_some, slice_get, refl, sym, ◌∙◌, ap, subst, arith, eqb}
use Rattle.std.specs.List.{dedup, dedup_from}
use Rattle.std.specs.List.Sorted.{IsSorted, IsStrictlyIncreasing, IsPermutation, IsBinarySearchResult}
use Rattle.std.specs.Ordering.{nat_cmp}
use Rattle.std.proofs.lemmas.Bool.{cases_order, cases_eq, lt-ltb, le-ltb, eq-eqb, ne_eqb}
use Rattle.std.proofs.lemmas.List.Sorted.{list_any-IsPermutation, searched}
use Rattle.std.proofs.lemmas.Map.Keys.{IsStrictlyIncreasing-dedup, any_passes_from_place}
use Rattle.mspec_syntax.specs.Rising.{insert_rising, rising}
use Rattle.mspec_syntax.specs.Grammar.{is_among}

-- each number is below the next
abbrev pub Rises : List ℕ → Type 0
Rises [] = Unit {0}
Rises (x ∷ []) = Unit {0}
Rises (x ∷ y ∷ ys) = (x < y) × Rises (y ∷ ys)

pub Rises-tail : (x : ℕ) (xs : List ℕ) → Rises (x ∷ xs) → Rises xs
Rises-tail x [] h = tt
Rises-tail x (y ∷ ys) h = h.1

-- a number below the first of an ascending list is not in it
not_among : (n x : ℕ) (xs : List ℕ) → n < x → Rises (x ∷ xs) → is_among (x ∷ xs) n ≡ false
not_among n x [] below h = rw (ne_eqb x n (λ e. absurd (omega arith))) refl
not_among n x (y ∷ ys) below h = rw (ne_eqb x n (λ e. absurd (omega arith))) (not_among n y ys (omega arith) h.1)

pub behind : (n x : ℕ) (xs : List ℕ) → n ≡ x → Rises (x ∷ xs) → is_among xs n ≡ false
behind n x [] e h = refl
behind n x (y ∷ ys) e h = not_among n y ys (omega arith) h.1

among_first : (x : ℕ) (xs : List ℕ) → is_among (x ∷ xs) x ≡ true
among_first x xs = rw (eq-eqb x x refl) refl

-- two ascending lists with the same numbers are equal
pub Rises-one : (xs ys : List ℕ) → Rises xs → Rises ys → ((n : ℕ) → is_among xs n ≡ is_among ys n) → xs ≡ ys
Rises-one [] [] h k same = refl
Rises-one [] (y ∷ ys) h k same = absurd (let e = same y ∙ among_first y ys in cc)
Rises-one (x ∷ xs) [] h k same = absurd (let e = sym (same x) ∙ among_first x xs in cc)
Rises-one (x ∷ xs) (y ∷ ys) h k same =
    let first : x ≡ y =
    elim (cases_order x y) [
      | inl e ↦ e
      | inr (inl below) ↦ absurd (let e = sym (among_first x xs) ∙ same x ∙ not_among x y ys below k in cc)
      | inr (inr above) ↦ absurd (let e = sym (among_first y ys) ∙ sym (same y) ∙ not_among y x xs above h in cc)
    ] in
    let rest : xs ≡ ys =
    Rises-one xs ys (Rises-tail x xs h) (Rises-tail y ys k)
    (λ n. elim (cases_eq n x) [
      | inl e ↦ behind n x xs e h ∙ sym (behind n y ys (e ∙ first) k)
      | inr differ ↦
          let left : (x == n) ≡ false = ne_eqb x n (λ e. differ (sym e)) in
          let right : (y == n) ≡ false = ne_eqb y n (λ e. differ (sym (first ∙ e))) in
          sym (ap (λ b. b || is_among xs n) left) ∙ same n ∙ ap (λ b. b || is_among ys n) right
    ]) in
    cc

insert_rising-less : (n m : ℕ) (ms : List ℕ) → n < m → insert_rising n (m ∷ ms) ≡ n ∷ m ∷ ms
insert_rising-less n m ms h = rw (lt-ltb n m h) refl

insert_rising-same : (n m : ℕ) (ms : List ℕ) → n ≡ m → insert_rising n (m ∷ ms) ≡ m ∷ ms
insert_rising-same n m ms h = rw (le-ltb n m (omega arith), eq-eqb n m h) refl

insert_rising-more : (n m : ℕ) (ms : List ℕ) → m < n → insert_rising n (m ∷ ms) ≡ m ∷ insert_rising n ms
insert_rising-more n m ms h = rw (le-ltb n m (omega arith), ne_eqb n m (λ e. absurd (omega arith))) refl

-- the first number stays first if a greater one is inserted after it
Rises-insert_behind : (n m : ℕ) (ms : List ℕ) → m < n → Rises (m ∷ ms) → Rises (insert_rising n ms) → Rises (m ∷ insert_rising n ms)
Rises-insert_behind n m [] h k done = (h, tt)
Rises-insert_behind n m (l ∷ ls) h k done =
    elim (cases_order n l) [
      | inl e ↦ rw (insert_rising-same n l ls e) k
      | inr (inl below) ↦ rw (insert_rising-less n l ls below) (h, (below, k.1))
      | inr (inr above) ↦
          let known = rw (insert_rising-more n l ls above) at done in
          rw (insert_rising-more n l ls above) (k.0, known)
    ]

pub Rises-insert : (n : ℕ) (ms : List ℕ) → Rises ms → Rises (insert_rising n ms)
Rises-insert n [] h = tt
Rises-insert n (m ∷ ms) h =
    elim (cases_order n m) [
      | inl e ↦ rw (insert_rising-same n m ms e) h
      | inr (inl below) ↦ rw (insert_rising-less n m ms below) (below, h)
      | inr (inr above) ↦
          rw (insert_rising-more n m ms above) (Rises-insert_behind n m ms above h (Rises-insert n ms (Rises-tail m ms h)))
    ]

pub Rises-rising : (ns : List ℕ) → Rises (rising ns)
Rises-rising [] = tt
Rises-rising (n ∷ ns) = Rises-insert n (rising ns) (Rises-rising ns)

or_swap : (a b c : Bool) → (a || (b || c)) ≡ (b || (a || c))
or_swap true true c = refl
or_swap true false c = refl
or_swap false b c = refl

or_twice : (a c : Bool) → (a || c) ≡ (a || (a || c))
or_twice true c = refl
or_twice false c = refl

among-insert : (n : ℕ) (ms : List ℕ) (q : ℕ) → is_among (insert_rising n ms) q ≡ ((n == q) || is_among ms q)
among-insert n [] q = refl
among-insert n (m ∷ ms) q =
    elim (cases_order n m) [
      | inl e ↦ rw (insert_rising-same n m ms e, e) (or_twice (m == q) (is_among ms q))
      | inr (inl below) ↦ rw (insert_rising-less n m ms below) refl
      | inr (inr above) ↦
          rw (insert_rising-more n m ms above) (ap (λ b. (m == q) || b) (among-insert n ms q) ∙ or_swap (m == q) (n == q) (is_among ms q))
    ]

-- the ascending list has the numbers of the original list
pub among-rising : (ns : List ℕ) (q : ℕ) → is_among (rising ns) q ≡ is_among ns q
among-rising [] q = refl
among-rising (n ∷ ns) q = among-insert n (rising ns) q ∙ ap (λ b. (n == q) || b) (among-rising ns q)

among-dedup_from : (k : ℕ) (xs : List ℕ) (q : ℕ) → is_among (dedup_from eqb k xs) q ≡ ((k == q) || is_among xs q)
among-dedup_from k [] q = refl
among-dedup_from k (x ∷ xs) q =
    elim (cases_eq x k) [
      | inl e ↦ rw (eq-eqb x k e) (among-dedup_from k xs q ∙ or_twice (k == q) (is_among xs q) ∙ ap (λ n. (k == q) || ((n == q) || is_among xs q)) (sym e))
      | inr differ ↦ rw (ne_eqb x k differ) (ap (λ b. (k == q) || b) (among-dedup_from x xs q))
    ]

among-dedup : (xs : List ℕ) (q : ℕ) → is_among (dedup eqb xs) q ≡ is_among xs q
among-dedup [] q = refl
among-dedup (x ∷ xs) q = among-dedup_from x xs q

Rises-from_increasing : (xs : List ℕ) → IsStrictlyIncreasing xs → Rises xs
Rises-from_increasing [] h = tt
Rises-from_increasing (x ∷ []) h = tt
Rises-from_increasing (x ∷ y ∷ ys) h = (
  h 0 (omega arith),
  Rises-from_increasing (y ∷ ys) (λ k below.
      let next : suc k + 1 ≡ suc (k + 1) = omega arith in
      let place = h (suc k) (omega arith) in
      rw next at place),
)

-- sorting and removing duplicates gives the ascending list
pub rising-sorted : (ns sorted left : List ℕ) → IsPermutation ns sorted → IsSorted nat_cmp sorted → left ≡ dedup eqb sorted → left ≡ rising ns
rising-sorted ns sorted left moved order e =
    Rises-one left (rising ns) (subst Rises (sym e) (Rises-from_increasing (dedup eqb sorted) (IsStrictlyIncreasing-dedup sorted order))) (Rises-rising ns)
    (λ q. ap (λ l. is_among l q) e ∙ among-dedup sorted q ∙ sym (list_any-IsPermutation (λ m. m == q) ns sorted moved) ∙ sym (among-rising ns q))

-- numbers at later places of an ascending list are not smaller
pub Rises-places : (xs : List ℕ) → Rises xs → (i j : ℕ) → i ≤ j → j < length xs → get_or xs i 0 ≤ get_or xs j 0
Rises-places [] h i j le below = absurd (omega arith)
Rises-places (x ∷ xs) h zero zero le below = omega arith
Rises-places (x ∷ []) h zero (suc j) le below = absurd (omega arith)
Rises-places (x ∷ y ∷ ys) h zero (suc j) le below =
    omega (arith, h.0, Rises-places (y ∷ ys) h.1 0 j (omega arith) (omega arith))
Rises-places (x ∷ xs) h (suc i) zero le below = absurd (omega arith)
Rises-places (x ∷ xs) h (suc i) (suc j) le below = Rises-places xs (Rises-tail x xs h) i j (omega arith) (omega arith)

or_true : (b : Bool) → (b || true) ≡ true
or_true true = refl
or_true false = refl

-- what a search in a list finds is in it
pub among-place : (xs : List ℕ) (i n : ℕ) → i < length xs → get_or xs i 0 ≡ n → is_among xs n ≡ true
among-place [] i n below e = absurd (omega arith)
among-place (x ∷ xs) zero n below e = rw (eq-eqb x n e) refl
among-place (x ∷ xs) (suc i) n below e =
    ap (λ b. (x == n) || b) (among-place xs i n (omega arith) e) ∙ or_true (x == n)

-- a number above all before a place and below all from there on is not in the list
pub among-gap : (xs : List ℕ) (i n : ℕ) → ((k : ℕ) → k < i → get_or xs k 0 < n) → ((k : ℕ) → i ≤ k → k < length xs → n < get_or xs k 0) → is_among xs n ≡ false
among-gap [] i n before after = refl
among-gap (x ∷ xs) zero n before after =
    rw (ne_eqb x n (λ e. absurd (omega (arith, after 0 (omega arith) (omega arith)))))
    (among-gap xs zero n (λ k h. absurd (omega arith)) (λ k le h. after (suc k) (omega arith) (omega arith)))
among-gap (x ∷ xs) (suc i) n before after =
    rw (ne_eqb x n (λ e. absurd (omega (arith, before 0 (omega arith)))))
    (among-gap xs i n (λ k h. before (suc k) (omega arith)) (λ k le h. after (suc k) (omega arith) (omega arith)))

-- the ascending list of an ascending list is itself
pub rising-itself : (ns left : List ℕ) → left ≡ rising ns → left ≡ rising left
rising-itself ns left e =
    Rises-one left (rising left) (subst Rises (sym e) (Rises-rising ns)) (Rises-rising left) (λ q. sym (among-rising left q))

pub Rises-itself : (ns : List ℕ) → ns ≡ rising ns → Rises ns
Rises-itself ns e = subst Rises (sym e) (Rises-rising ns)

-- a number that a search does not find is not in the list
pub among-missed : (xs : List ℕ) (n i : ℕ) → xs ≡ rising xs → IsBinarySearchResult (λ y. nat_cmp y n) xs (Err i) → is_among xs n ≡ false
among-missed xs n i kept h =
    let s = searched xs n (Err i) h (Rises-places xs (Rises-itself xs kept)) in
    among-gap xs i n s.1 s.2

-- a number is in the list exactly if the search returned a place
pub among-rank : (xs : List ℕ) (n : ℕ) (r : Option ℕ) → IfSome r (λ i. slice_get xs i ≡ Some n) → IfNone r (is_among xs n ≡ false) → is_some r ≡ is_among xs n
among-rank xs n None found missed = sym missed
among-rank xs n (Some i) found missed = sym (any_passes_from_place (λ m. m == n) xs i n found (eq-eqb n n refl))

-- the first number of an ascending list is below those after it
pub Rises-below : (x : ℕ) (xs : List ℕ) (i n : ℕ) → Rises (x ∷ xs) → slice_get xs i ≡ Some n → x < n
Rises-below x [] i n h e = absurd (cc)
Rises-below x (y ∷ ys) zero n h e = let same : y ≡ n = cc in omega (arith, h.0)
Rises-below x (y ∷ ys) (suc i) n h e = omega (arith, h.0, Rises-below y ys i n h.1 e)
