-- The place of a key among pairs in ascending key order.
use Rattle.std.proofs.Common.{◌≡◌, ◌+◌, ◌-◌, ◌≤◌, ◌<◌, ℕ, zero, suc, Bool, true, false, List, [], ◌∷◌, length, drop, get_or, refl, sym, ap, ◌∙◌, arith}
use Rattle.std.specs.Prelude.{◌||◌}
use Rattle.std.proofs.lemmas.Bool.{or_from}
use Rattle.std.specs.List.{AllByRecursion}
use Rattle.std.specs.List.Sorted.{IsStrictlySortedBy}
use Rattle.std.proofs.lemmas.List.Sorted.{IsPermutation-refl}
use Rattle.std.specs.Map.{keys_of}
use Rattle.std.specs.Ordering.{is_eq}
use Rattle.std.specs.declared.cmp.Ordering.TheVariants.{Less, Equal, Greater}
use Rattle.std.specs.BTreeMap.{insert_entry}
use Rattle.term_core.specs.Datum.{Datum, entries_of}
use Rattle.term_core.specs.Order.{IsBelow, IsBelowFirst, datum_cmp}
use Rattle.term_core.specs.OrderLaws.{datum_cmp_total, IsBelow-less}
use Rattle.term_text.specs.Reading.{IsPlace, has_key}
use Rattle.term_text.proofs.Keys.{AreRising, below_from, above_from, below_trans, put_all, put_all-none, put_all-more, put_all_ordered, above_none, has_no_key}

abbrev Pair : Type 0
Pair = Datum × Datum

IsBelow-greater : (a b : Datum) → IsBelow a b → datum_cmp b a ≡ Greater
IsBelow-greater a b h = datum_cmp_total.antisymm b a ∙ rw (IsBelow-less a b h) refl

all_below : (k : Datum) (es : List Pair) → IsBelowFirst k (entries_of es) → AreRising es → AllByRecursion (λ y. datum_cmp k y ≡ Less) (keys_of es)
all_below k [] b h = tt
all_below k (e ∷ []) b h = (IsBelow-less k e.0 b, tt)
all_below k (e ∷ f ∷ es) b h = (IsBelow-less k e.0 b, all_below k (f ∷ es) (below_trans k e.0 f.0 b h.0) h.1)

pub rising_sorted : (es : List Pair) → AreRising es → IsStrictlySortedBy datum_cmp (keys_of es)
unfolding IsStrictlySortedBy
rising_sorted [] h = tt
rising_sorted (e ∷ es) h = (all_below e.0 es h.0 h.1, rising_sorted es h.1)

-- pairs in ascending key order, inserted one after the other
pub put_all_itself : (es : List Pair) → AreRising es → put_all [] es ≡ es
put_all_itself es h = put_all_ordered es es (IsPermutation-refl es) h

-- ---- where a key is below the pairs from a place on

fresh_first : (k : Datum) (es : List Pair) → AreRising es → IsBelowFirst k (entries_of es) → has_key k es ≡ false
fresh_first k es h b = has_no_key k es (above_none k es h b)

put_first : (k v : Datum) (es : List Pair) → IsBelowFirst k (entries_of es) → (k, v) ∷ es ≡ insert_entry datum_cmp es k v
put_first k v [] b = refl
put_first k v (e ∷ es) b = rw (IsBelow-less k e.0 b) refl

pub place_first : (k : Datum) (es : List Pair) → AreRising es → IsBelowFirst k (entries_of es) → IsPlace 0 k es
place_first k es h b = record { within = omega arith; fresh = fresh_first k es h b; put = λ v. put_first k v es b }

-- the key of the pair before the place is below the key, and so are those before it
first_above : (k : Datum) (e : Pair) (es : List Pair) (i : ℕ) (p : Pair) → AreRising (e ∷ es) → i < length (e ∷ es) → p ≡ get_or (e ∷ es) i p → IsBelow p.0 k → IsBelow e.0 k
first_above k e es zero p h l is b = rw is at b
first_above k e [] (suc i) p h l is b = absurd (omega arith)
first_above k e (f ∷ es) (suc i) p h l is b = below_trans e.0 f.0 k h.0 (first_above k f es i p h.1 (omega arith) is b)

place_more : (k : Datum) (e : Pair) (es : List Pair) (i : ℕ) → IsBelow e.0 k → IsPlace i k es → IsPlace (suc i) k (e ∷ es)
place_more k e es i b h = record {
  within = let w = h.within in omega arith;
  fresh = or_from (is_eq (datum_cmp k e.0)) (has_key k es) (rw (IsBelow-greater e.0 k b) refl) h.fresh;
  put = λ v. rw (IsBelow-greater e.0 k b) (ap (λ (l : List Pair). e ∷ l) (h.put v));
}

placed : (k : Datum) (es : List Pair) (i : ℕ) (p : Pair) → AreRising es → i < length es → p ≡ get_or es i p → IsBelow p.0 k → IsBelowFirst k (entries_of (drop (suc i) es)) → IsPlace (suc i) k es
placed k [] i p h l is b after = absurd (omega arith)
placed k (e ∷ es) zero p h l is b after = place_more k e es 0 (rw is at b) (place_first k es h.1 after)
placed k (e ∷ es) (suc i) p h l is b after = place_more k e es (suc i) (first_above k e es (suc i) p h l is b) (placed k es i p h.1 (omega arith) is b after)

pub place_behind : (k : Datum) (es : List Pair) (i : ℕ) (p : Pair) → AreRising es → 0 < i → i ≤ length es → p ≡ get_or es (i - 1) p → datum_cmp k p.0 ≡ Greater → IsBelowFirst k (entries_of (drop i es)) → IsPlace (i - 1 + 1) k es
place_behind k es i p h some l is above after =
    let next : suc (i - 1) ≡ i = omega arith in
    let also : i - 1 + 1 ≡ suc (i - 1) = omega arith in
    rw also (placed k es (i - 1) p h (omega arith) is (above_from k p.0 above) (rw next after))

or_true : (a b : Bool) → b ≡ true → (a || b) ≡ true
or_true true b h = refl
or_true false b h = h

pub found_there : (k : Datum) (es : List Pair) (i : ℕ) (p : Pair) → i < length es → p ≡ get_or es i p → datum_cmp k p.0 ≡ Equal → has_key k es ≡ true
found_there k [] i p l is same = absurd (omega arith)
found_there k (e ∷ es) zero p l is same = let at_first : datum_cmp k e.0 ≡ Equal = rw is at same in rw at_first refl
found_there k (e ∷ es) (suc i) p l is same = or_true (is_eq (datum_cmp k e.0)) (has_key k es) (found_there k es i p (omega arith) is same)

first_of : (k : Datum) (es : List Pair) (i : ℕ) (p : Pair) → i < length es → p ≡ get_or es i p → IsBelow k p.0 → IsBelowFirst k (entries_of (drop i es))
first_of k [] i p l is b = absurd (omega arith)
first_of k (e ∷ es) zero p l is b = rw is at b
first_of k (e ∷ es) (suc i) p l is b = first_of k es i p (omega arith) is b

pub below_more : (k : Datum) (es : List Pair) (i : ℕ) (p : Pair) → 0 < i → i ≤ length es → p ≡ get_or es (i - 1) p → datum_cmp k p.0 ≡ Less → IsBelowFirst k (entries_of (drop (i - 1) es))
below_more k es i p some l is below = first_of k es (i - 1) p (omega arith) is (below_from k p.0 below)

pub nothing_below : (k : Datum) (es : List Pair) → IsBelowFirst k (entries_of (drop (length es) es))
nothing_below k [] = tt
nothing_below k (e ∷ es) = nothing_below k es

pub place_zero : (k : Datum) (es : List Pair) (i : ℕ) → i ≡ 0 → IsBelowFirst k (entries_of (drop i es)) → IsBelowFirst k (entries_of es)
place_zero k es i e h = rw e at h

-- ---- pairs that are inserted in order

pub one_put : (front rest more all : List Pair) (p : Pair) → rest ≡ p ∷ more → put_all front rest ≡ all → put_all (insert_entry datum_cmp front p.0 p.1) more ≡ all
one_put front rest more all (k, v) e h = sym (put_all-more front k v more) ∙ (rw e at h)

pub all_put : (front rest all : List Pair) → rest ≡ [] → put_all front rest ≡ all → front ≡ all
all_put front rest all e h = sym (put_all-none front) ∙ (rw e at h)
