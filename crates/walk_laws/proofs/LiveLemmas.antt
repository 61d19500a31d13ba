-- Live rows: the first of them, and the first after a key.
use Rattle.std.proofs.Common.{◌≡◌, ◌≢◌, ℕ, zero, suc, ◌+◌, ◌<◌, ◌≤◌, ◌/◌, ◌==◌, ◌⊎◌, inl, inr, List, [], ◌∷◌, ◌++◌, refl, ap, sym, subst, ◌∙◌, arith, flat_map}
use Rattle.std.specs.Prelude.{Bool, true, false, not, IsTrue, Some, None, filter, unwrap_or}
use Rattle.std.specs.List.{AllByRecursion, range_with_len}
use Rattle.std.specs.List.Sorted.{IsStrictlySortedBy}
use Rattle.std.specs.Map.{keys_of}
use Rattle.std.specs.declared.cmp.Ordering.{Ordering}
use Rattle.std.specs.declared.cmp.Ordering.TheVariants.{Less, Equal, Greater}
use Rattle.std.specs.Ordering.{is_lt}
use Rattle.std.proofs.lemmas.Bool.{true≢false, false≢true, eqb-false}
use Rattle.std.proofs.lemmas.Nat.{mod_below}
use Rattle.term_core.specs.Datum.{Datum}
use Rattle.term_core.specs.KeyHash.{key_hash}
use Rattle.term_core.specs.Order.{datum_cmp}
use Rattle.term_operand.specs.Order.{is_same}
use Rattle.part_core.specs.declared.settings.Settings.{Settings}
use Rattle.part_core.specs.Settings.{is_ordered, class_at}
use Rattle.part_core.specs.Rows.{Row, is_empty, is_live, objects_at}
use Rattle.part_core.specs.Replies.{first_live, rows_past}
use Rattle.part_core.specs.Visits.{in_class, is_beyond, following_rows, walk_order}
use Rattle.part_core.proofs.KeyLemmas.{by_test, same_from, same_is}
use Rattle.walk_laws.proofs.OrderLemmas.{Has, Before, Once, before_last}

-- there is a live row of the key
abbrev pub HasLive : List Row → Datum → Type 0
HasLive [] k = ⊥
HasLive (r ∷ rows) k = ((r.0 ≡ k) × IsTrue (is_live r)) ⊎ HasLive rows k

live_has : (rows : List Row) (k : Datum) → HasLive rows k → Has (keys_of rows) k
live_has [] k h = h
live_has (r ∷ rows) k (inl h) = inl h.0
live_has (r ∷ rows) k (inr h) = inr (live_has rows k h)

-- ---- a key that has objects has a live row

full : (os : List Datum) → os ≢ [] → not (is_empty os) ≡ true
full [] some = absurd (some refl)
full (t ∷ os) some = refl

filled : (os : List Datum) → not (is_empty os) ≡ true → os ≢ []
filled [] some = λ none. false≢true some
filled (t ∷ os) some = λ none. cc

pub live_there : (rows : List Row) (k : Datum) → objects_at rows k ≢ [] → HasLive rows k
live_there [] k some = some refl
live_there (r ∷ rows) k some =
    by_test (is_same k r.0) _
    (λ here. inl (sym (same_is k r.0 here), full r.1 (λ none. some (rw here none))))
    (λ other. inr (live_there rows k (λ none. some (rw other none))))

pub there_live : (rows : List Row) (k : Datum) → Once (keys_of rows) → HasLive rows k → objects_at rows k ≢ []
there_live [] k once h = absurd h
there_live (r ∷ rows) k once (inl h) =
    let here : is_same k r.0 ≡ true = same_from k r.0 (sym h.0) in
    λ none. filled r.1 h.1 (rw here at none)
there_live (r ∷ rows) k once (inr h) =
    by_test (is_same k r.0) _
    (λ here. absurd (once.0 (subst (Has (keys_of rows)) (same_is k r.0 here) (live_has rows k h))))
    (λ other. λ none. there_live rows k once.1 h (rw other at none))

-- ---- joined rows, and rows that pass a test

live_left : (xs ys : List Row) (k : Datum) → HasLive xs k → HasLive (xs ++ ys) k
live_left [] ys k h = absurd h
live_left (r ∷ xs) ys k (inl h) = inl h
live_left (r ∷ xs) ys k (inr h) = inr (live_left xs ys k h)

live_right : (xs ys : List Row) (k : Datum) → HasLive ys k → HasLive (xs ++ ys) k
live_right [] ys k h = h
live_right (r ∷ xs) ys k h = inr (live_right xs ys k h)

live_cases : (xs ys : List Row) (k : Datum) → HasLive (xs ++ ys) k → HasLive xs k ⊎ HasLive ys k
live_cases [] ys k h = inr h
live_cases (r ∷ xs) ys k (inl h) = inl (inl h)
live_cases (r ∷ xs) ys k (inr h) = of (live_cases xs ys k h)
  where
    of : HasLive xs k ⊎ HasLive ys k → HasLive (r ∷ xs) k ⊎ HasLive ys k
    of (inl here) = inl (inr here)
    of (inr there) = inr there

live_passing : (p : Datum → Bool) (rows : List Row) (k : Datum) → p k ≡ true → HasLive rows k → HasLive (filter (λ r. p r.0) rows) k
live_passing p [] k pass h = h
live_passing p (r ∷ rows) k pass (inl h) =
    let here : p r.0 ≡ true = ap p h.0 ∙ pass in rw here (inl h)
live_passing p (r ∷ rows) k pass (inr h) =
    by_test (p r.0) _ (λ holds. rw holds (inr (live_passing p rows k pass h))) (λ fails. rw fails (live_passing p rows k pass h))

passing_live : (p : Datum → Bool) (rows : List Row) (k : Datum) → HasLive (filter (λ r. p r.0) rows) k → HasLive rows k × (p k ≡ true)
passing_live p [] k h = absurd h
passing_live p (r ∷ rows) k h =
    by_test (p r.0) _ (λ holds. of holds (λ there. passing_live p rows k there) (rw holds at h)) (λ fails. let more = passing_live p rows k (rw fails at h) in (inr more.0, more.1))
  where
    of : p r.0 ≡ true → (HasLive (filter (λ v. p v.0) rows) k → HasLive rows k × (p k ≡ true)) → ((r.0 ≡ k) × IsTrue (is_live r)) ⊎ HasLive (filter (λ v. p v.0) rows) k → HasLive (r ∷ rows) k × (p k ≡ true)
    of holds further (inl here) = (inl here, ap p (sym here.0) ∙ holds)
    of holds further (inr there) = (inr (further there).0, (further there).1)

has_passing : (p : Datum → Bool) (rows : List Row) (k : Datum) → Has (keys_of (filter (λ r. p r.0) rows)) k → Has (keys_of rows) k
has_passing p [] k h = h
has_passing p (r ∷ rows) k h =
    by_test (p r.0) _ (λ holds. of (λ there. has_passing p rows k there) (rw holds at h)) (λ fails. inr (has_passing p rows k (rw fails at h)))
  where
    of : (Has (keys_of (filter (λ v. p v.0) rows)) k → Has (keys_of rows) k) → (r.0 ≡ k) ⊎ Has (keys_of (filter (λ v. p v.0) rows)) k → Has (keys_of (r ∷ rows)) k
    of further (inl here) = inl here
    of further (inr there) = inr (further there)

before_passing : (p : Datum → Bool) (rows : List Row) (j k : Datum) → Before (keys_of (filter (λ r. p r.0) rows)) j k → Before (keys_of rows) j k
before_passing p [] j k b = b
before_passing p (r ∷ rows) j k b =
    by_test (p r.0) _ (λ holds. of (λ there. before_passing p rows j k there) (rw holds at b)) (λ fails. inr (before_passing p rows j k (rw fails at b)))
  where
    of : (Before (keys_of (filter (λ v. p v.0) rows)) j k → Before (keys_of rows) j k) → ((r.0 ≡ j) × Has (keys_of (filter (λ v. p v.0) rows)) k) ⊎ Before (keys_of (filter (λ v. p v.0) rows)) j k → Before (keys_of (r ∷ rows)) j k
    of further (inl here) = inl (here.0, has_passing p rows k here.1)
    of further (inr there) = inr (further there)

-- ---- in walk order

abbrev rows_walked : Settings → ℕ → List Row → ℕ → ℕ → List Row
rows_walked o base rows class n = flat_map (λ c. in_class o base c rows) (range_with_len class n)

live_in_classes : (o : Settings) (base : ℕ) (rows : List Row) (n class : ℕ) (k : Datum) → class ≤ class_at o base k → class_at o base k < class + n → HasLive rows k → HasLive (rows_walked o base rows class n) k
live_in_classes o base rows zero class k low high h = absurd (omega (arith, low, high))
live_in_classes o base rows (suc n) class k low high h =
    by_test (class_at o base k == class) _
    (λ here. live_left (in_class o base class rows) (rows_walked o base rows (class + 1) n) k (live_passing (λ j. class_at o base j == class) rows k here h))
    (λ later. let apart = eqb-false (class_at o base k) class later in
    live_right (in_class o base class rows) (rows_walked o base rows (class + 1) n) k (live_in_classes o base rows n (class + 1) k (omega (arith, low, apart)) (omega (arith, high)) h))

classes_live : (o : Settings) (base : ℕ) (rows : List Row) (n class : ℕ) (k : Datum) → HasLive (rows_walked o base rows class n) k → HasLive rows k
classes_live o base rows zero class k h = absurd h
classes_live o base rows (suc n) class k h =
    of (λ later. classes_live o base rows n (class + 1) k later) (live_cases (in_class o base class rows) (rows_walked o base rows (class + 1) n) k h)
  where
    of : (HasLive (rows_walked o base rows (class + 1) n) k → HasLive rows k) → HasLive (in_class o base class rows) k ⊎ HasLive (rows_walked o base rows (class + 1) n) k → HasLive rows k
    of further (inl here) = (passing_live (λ j. class_at o base j == class) rows k here).0
    of further (inr later) = further later

pub live_walked : (o : Settings) (base : ℕ) (rows : List Row) (k : Datum) → 0 < base → HasLive rows k → HasLive (walk_order o base rows) k
unfolding walk_order
live_walked o base rows k some h =
    by_test (is_ordered o.kind) _ (λ ordered. rw ordered h)
    (λ plain. rw plain (live_in_classes o base rows base 0 k (omega arith) (class_below o base k some) h))
  where
    class_below : (o : Settings) (base : ℕ) (k : Datum) → 0 < base → class_at o base k < 0 + base
    class_below o base k some = let below = mod_below (key_hash k / o.parts) base some in omega (arith, below)

pub walked_live : (o : Settings) (base : ℕ) (rows : List Row) (k : Datum) → HasLive (walk_order o base rows) k → HasLive rows k
unfolding walk_order
walked_live o base rows k h =
    by_test (is_ordered o.kind) _ (λ ordered. rw ordered at h) (λ plain. classes_live o base rows base 0 k (rw plain at h))

-- ---- the first live row

some_same : (j k : Datum) → Some j ≡ Some k → j ≡ k
some_same j k e = ap (λ x. unwrap_or x j) e

pub first_is : (rows : List Row) (j : Datum) → first_live rows ≡ Some j → HasLive rows j
first_is [] j h = cc
first_is (r ∷ rows) j h =
    by_test (is_live r) _ (λ live. inl (some_same r.0 j (rw live at h), live)) (λ dead. inr (first_is rows j (rw dead at h)))

pub first_none : (rows : List Row) (k : Datum) → first_live rows ≡ None → HasLive rows k → ⊥
first_none [] k none h = h
first_none (r ∷ rows) k none h =
    by_test (is_live r) _ (λ live. some_none (rw live at none)) (λ dead. of dead (first_none rows k (rw dead at none)) h)
  where
    some_none : Some r.0 ≡ None → ⊥
    some_none e = cc

    of : is_live r ≡ false → (HasLive rows k → ⊥) → ((r.0 ≡ k) × IsTrue (is_live r)) ⊎ HasLive rows k → ⊥
    of dead later (inl here) = true≢false (sym here.1 ∙ dead)
    of dead later (inr there) = later there

pub first_least : (rows : List Row) (j k : Datum) → first_live rows ≡ Some j → HasLive rows k → (k ≡ j) ⊎ Before (keys_of rows) j k
first_least [] j k is h = absurd h
first_least (r ∷ rows) j k is h =
    by_test (is_live r) _ (λ live. here (some_same r.0 j (rw live at is)) h) (λ dead. later dead (first_least rows j k (rw dead at is)) h)
  where
    here : r.0 ≡ j → ((r.0 ≡ k) × IsTrue (is_live r)) ⊎ HasLive rows k → (k ≡ j) ⊎ Before (keys_of (r ∷ rows)) j k
    here same (inl first) = inl (sym first.0 ∙ same)
    here same (inr there) = inr (inl (same, live_has rows k there))

    further : (k ≡ j) ⊎ Before (keys_of rows) j k → (k ≡ j) ⊎ Before (keys_of (r ∷ rows)) j k
    further (inl same) = inl same
    further (inr b) = inr (inr b)

    later : is_live r ≡ false → (HasLive rows k → (k ≡ j) ⊎ Before (keys_of rows) j k) → ((r.0 ≡ k) × IsTrue (is_live r)) ⊎ HasLive rows k → (k ≡ j) ⊎ Before (keys_of (r ∷ rows)) j k
    later dead more (inl first) = absurd (true≢false (sym first.1 ∙ dead))
    later dead more (inr there) = further (more there)

-- ---- the rows after that of a key

past_live : (k : Datum) (rows : List Row) (l : Datum) → HasLive (rows_past k rows) l → HasLive rows l × Before (keys_of rows) k l
past_live k [] l h = absurd h
past_live k (r ∷ rows) l h =
    by_test (is_same k r.0) _
    (λ here. let there : HasLive rows l = rw here at h in (inr there, inl (sym (same_is k r.0 here), live_has rows l there)))
    (λ other. let more = past_live k rows l (rw other at h) in (inr more.0, inr more.1))

live_past : (k : Datum) (rows : List Row) (l : Datum) → Once (keys_of rows) → Before (keys_of rows) k l → HasLive rows l → HasLive (rows_past k rows) l
live_past k [] l once b h = h
live_past k (r ∷ rows) l once b h = of (λ later g. live_past k rows l once.1 later g) b h
  where
    behind : Has (keys_of rows) l → ((r.0 ≡ l) × IsTrue (is_live r)) ⊎ HasLive rows l → HasLive rows l
    behind there (inl first) = absurd (once.0 (subst (Has (keys_of rows)) (sym first.0) there))
    behind there (inr later) = later

    of : (Before (keys_of rows) k l → HasLive rows l → HasLive (rows_past k rows) l) → ((r.0 ≡ k) × Has (keys_of rows) l) ⊎ Before (keys_of rows) k l → ((r.0 ≡ l) × IsTrue (is_live r)) ⊎ HasLive rows l → HasLive (rows_past k (r ∷ rows)) l
    of further (inl first) g =
        let here : is_same k r.0 ≡ true = same_from k r.0 (sym first.0) in rw here (behind first.1 g)
    of further (inr later) g =
        by_test (is_same k r.0) _
        (λ here. rw here (behind (before_last (keys_of rows) k l later) g))
        (λ other. rw other (further later (behind (before_last (keys_of rows) k l later) g)))

past_before : (k : Datum) (rows : List Row) (i j : Datum) → Before (keys_of (rows_past k rows)) i j → Before (keys_of rows) i j
past_before k [] i j b = b
past_before k (r ∷ rows) i j b =
    by_test (is_same k r.0) _ (λ here. inr (rw here at b)) (λ other. inr (past_before k rows i j (rw other at b)))

pub past_is : (k : Datum) (rows : List Row) (j : Datum) → first_live (rows_past k rows) ≡ Some j → HasLive rows j × Before (keys_of rows) k j
past_is k rows j is = past_live k rows j (first_is (rows_past k rows) j is)

pub past_none : (k : Datum) (rows : List Row) (l : Datum) → Once (keys_of rows) → first_live (rows_past k rows) ≡ None → Before (keys_of rows) k l → HasLive rows l → ⊥
past_none k rows l once none b h = first_none (rows_past k rows) l none (live_past k rows l once b h)

pub past_least : (k : Datum) (rows : List Row) (j l : Datum) → Once (keys_of rows) → first_live (rows_past k rows) ≡ Some j → Before (keys_of rows) k l → HasLive rows l → (l ≡ j) ⊎ Before (keys_of rows) j l
past_least k rows j l once is b h = of (first_least (rows_past k rows) j l is (live_past k rows l once b h))
  where
    of : (l ≡ j) ⊎ Before (keys_of (rows_past k rows)) j l → (l ≡ j) ⊎ Before (keys_of rows) j l
    of (inl same) = inl same
    of (inr later) = inr (past_before k rows j l later)

-- ---- rows in ascending key order

risen : (j : Datum) (ks : List Datum) (l : Datum) → AllByRecursion (λ k. datum_cmp j k ≡ Less) ks → Has ks l → datum_cmp j l ≡ Less
risen j [] l all h = absurd h
risen j (k ∷ ks) l all (inl same) = subst (λ (i : Datum). datum_cmp j i ≡ Less) same all.0
risen j (k ∷ ks) l all (inr there) = risen j ks l all.1 there

pub before_less : (ks : List Datum) (j l : Datum) → IsStrictlySortedBy datum_cmp ks → Before ks j l → datum_cmp j l ≡ Less
unfolding IsStrictlySortedBy
before_less [] j l s b = absurd b
before_less (i ∷ ks) j l s (inl here) = subst (λ (k : Datum). datum_cmp k l ≡ Less) here.0 (risen i ks l s.0 here.1)
before_less (i ∷ ks) j l s (inr later) = before_less ks j l s.1 later

less_behind : (j k : Datum) → datum_cmp j k ≡ Less → is_beyond j k ≡ true
less_behind j k h = ap is_lt h

behind_less : (j k : Datum) → is_beyond j k ≡ true → datum_cmp j k ≡ Less
behind_less j k h = of (datum_cmp j k) h
  where
    of : (way : Ordering) → is_lt way ≡ true → way ≡ Less
    of Less h = refl
    of Equal h = absurd (false≢true h)
    of Greater h = absurd (false≢true h)

pub behind_is : (k : Datum) (rows : List Row) (j : Datum) → first_live (following_rows k rows) ≡ Some j → HasLive rows j × (datum_cmp k j ≡ Less)
behind_is k rows j is =
    let there = passing_live (is_beyond k) rows j (first_is (following_rows k rows) j is) in (there.0, behind_less k j there.1)

pub behind_none : (k : Datum) (rows : List Row) (l : Datum) → first_live (following_rows k rows) ≡ None → datum_cmp k l ≡ Less → HasLive rows l → ⊥
behind_none k rows l none less h = first_none (following_rows k rows) l none (live_passing (is_beyond k) rows l (less_behind k l less) h)

pub behind_least : (k : Datum) (rows : List Row) (j l : Datum) → IsStrictlySortedBy datum_cmp (keys_of rows) → first_live (following_rows k rows) ≡ Some j → datum_cmp k l ≡ Less → HasLive rows l → (l ≡ j) ⊎ (datum_cmp j l ≡ Less)
behind_least k rows j l s is less h = of (first_least (following_rows k rows) j l is (live_passing (is_beyond k) rows l (less_behind k l less) h))
  where
    of : (l ≡ j) ⊎ Before (keys_of (following_rows k rows)) j l → (l ≡ j) ⊎ (datum_cmp j l ≡ Less)
    of (inl same) = inl same
    of (inr later) = inr (before_less (keys_of rows) j l s (before_passing (is_beyond k) rows j l later))
