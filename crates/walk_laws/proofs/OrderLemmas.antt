-- Keys in walk order: which come before which, and that appending rows doesn't change this.
use Rattle.std.proofs.Common.{◌≡◌, ℕ, zero, suc, ◌+◌, ◌≤◌, ◌==◌, ◌⊎◌, inl, inr, List, [], ◌∷◌, ◌++◌, refl, ap, sym, subst, ◌∙◌, arith, flat_map}
use Rattle.std.specs.Prelude.{Bool, true, false, filter}
use Rattle.std.specs.List.{IsDistinct, AllByRecursion, range_with_len}
use Rattle.std.specs.Map.{keys_of}
use Rattle.std.proofs.lemmas.Bool.{true≢false, eqb-true}
use Rattle.std.proofs.lemmas.List.{map-append}
use Rattle.std.proofs.lemmas.List.Elements.{filter-append}
use Rattle.term_core.specs.Datum.{Datum}
use Rattle.term_operand.specs.Order.{is_same}
use Rattle.part_core.specs.declared.settings.Settings.{Settings}
use Rattle.part_core.specs.Settings.{is_ordered, class_at}
use Rattle.part_core.specs.Rows.{Row}
use Rattle.part_core.specs.Visits.{in_class, walk_order}
use Rattle.part_core.proofs.KeyLemmas.{by_test, same_from}

-- the key is one of these
abbrev pub Has : List Datum → Datum → Type 0
Has [] k = ⊥
Has (j ∷ js) k = (j ≡ k) ⊎ Has js k

-- the first key comes before the second
abbrev pub Before : List Datum → Datum → Datum → Type 0
Before [] j k = ⊥
Before (i ∷ rest) j k = ((i ≡ j) × Has rest k) ⊎ Before rest j k

-- no key occurs twice
abbrev pub Once : List Datum → Type 0
Once [] = Unit {0}
Once (j ∷ js) = (Has js j → ⊥) × Once js

-- ---- one before the other

pub before_first : (ks : List Datum) (j k : Datum) → Before ks j k → Has ks j
before_first [] j k b = b
before_first (i ∷ rest) j k (inl b) = inl b.0
before_first (i ∷ rest) j k (inr b) = inr (before_first rest j k b)

pub before_last : (ks : List Datum) (j k : Datum) → Before ks j k → Has ks k
before_last [] j k b = b
before_last (i ∷ rest) j k (inl b) = inr b.1
before_last (i ∷ rest) j k (inr b) = inr (before_last rest j k b)

pub before_apart : (ks : List Datum) (k : Datum) → Once ks → Before ks k k → ⊥
before_apart [] k once b = b
before_apart (i ∷ rest) k once (inl b) = once.0 (subst (Has rest) (sym b.0) b.1)
before_apart (i ∷ rest) k once (inr b) = before_apart rest k once.1 b

pub before_then : (ks : List Datum) (i j k : Datum) → Once ks → Before ks i j → Before ks j k → Before ks i k
before_then [] i j k once a b = a
before_then (x ∷ xs) i j k once (inl a) (inl b) = absurd (once.0 (subst (Has xs) (sym b.0) a.1))
before_then (x ∷ xs) i j k once (inl a) (inr b) = inl (a.0, before_last xs j k b)
before_then (x ∷ xs) i j k once (inr a) (inl b) = absurd (once.0 (subst (Has xs) (sym b.0) (before_last xs i j a)))
before_then (x ∷ xs) i j k once (inr a) (inr b) = inr (before_then xs i j k once.1 a b)

pub once_from_distinct : (ks : List Datum) → IsDistinct is_same ks → Once ks
unfolding IsDistinct
once_from_distinct [] d = tt
once_from_distinct (k ∷ ks) d = ((λ there. apart k ks d.0 there), once_from_distinct ks d.1)
  where
    apart : (k : Datum) (ks : List Datum) → AllByRecursion (λ j. is_same k j ≡ false) ks → Has ks k → ⊥
    apart k [] all there = there
    apart k (j ∷ js) all (inl there) = true≢false (sym (same_from k j (sym there)) ∙ all.0)
    apart k (j ∷ js) all (inr there) = apart k js all.1 there

-- ---- joined lists

pub has_left : (xs ys : List Datum) (k : Datum) → Has xs k → Has (xs ++ ys) k
has_left [] ys k h = absurd h
has_left (x ∷ xs) ys k (inl h) = inl h
has_left (x ∷ xs) ys k (inr h) = inr (has_left xs ys k h)

pub has_right : (xs ys : List Datum) (k : Datum) → Has ys k → Has (xs ++ ys) k
has_right [] ys k h = h
has_right (x ∷ xs) ys k h = inr (has_right xs ys k h)

pub has_cases : (xs ys : List Datum) (k : Datum) → Has (xs ++ ys) k → Has xs k ⊎ Has ys k
has_cases [] ys k h = inr h
has_cases (x ∷ xs) ys k (inl h) = inl (inl h)
has_cases (x ∷ xs) ys k (inr h) = of (has_cases xs ys k h)
  where
    of : Has xs k ⊎ Has ys k → Has (x ∷ xs) k ⊎ Has ys k
    of (inl there) = inl (inr there)
    of (inr there) = inr there

before_left : (xs ys : List Datum) (j k : Datum) → Before xs j k → Before (xs ++ ys) j k
before_left [] ys j k b = absurd b
before_left (x ∷ xs) ys j k (inl b) = inl (b.0, has_left xs ys k b.1)
before_left (x ∷ xs) ys j k (inr b) = inr (before_left xs ys j k b)

before_right : (xs ys : List Datum) (j k : Datum) → Before ys j k → Before (xs ++ ys) j k
before_right [] ys j k b = b
before_right (x ∷ xs) ys j k b = inr (before_right xs ys j k b)

before_both : (xs ys : List Datum) (j k : Datum) → Has xs j → Has ys k → Before (xs ++ ys) j k
before_both [] ys j k h there = absurd h
before_both (x ∷ xs) ys j k (inl h) there = inl (h, has_right xs ys k there)
before_both (x ∷ xs) ys j k (inr h) there = inr (before_both xs ys j k h there)

before_cases : (xs ys : List Datum) (j k : Datum) → Before (xs ++ ys) j k → Before xs j k ⊎ ((Has xs j × Has ys k) ⊎ Before ys j k)
before_cases [] ys j k b = inr (inr b)
before_cases (x ∷ xs) ys j k (inl b) = of (has_cases xs ys k b.1)
  where
    of : Has xs k ⊎ Has ys k → Before (x ∷ xs) j k ⊎ ((Has (x ∷ xs) j × Has ys k) ⊎ Before ys j k)
    of (inl there) = inl (inl (b.0, there))
    of (inr there) = inr (inl (inl b.0, there))
before_cases (x ∷ xs) ys j k (inr b) = of (before_cases xs ys j k b)
  where
    of : Before xs j k ⊎ ((Has xs j × Has ys k) ⊎ Before ys j k) → Before (x ∷ xs) j k ⊎ ((Has (x ∷ xs) j × Has ys k) ⊎ Before ys j k)
    of (inl here) = inl (inr here)
    of (inr (inl both)) = inr (inl (inr both.0, both.1))
    of (inr (inr there)) = inr (inr there)

pub once_append : (xs ys : List Datum) → Once xs → Once ys → ((k : Datum) → Has xs k → Has ys k → ⊥) → Once (xs ++ ys)
once_append [] ys once more apart = more
once_append (x ∷ xs) ys once more apart = (
  (λ there. of (has_cases xs ys x there)),
  once_append xs ys once.1 more (λ k here there. apart k (inr here) there),
)
  where
    of : Has xs x ⊎ Has ys x → ⊥
    of (inl here) = once.0 here
    of (inr there) = apart x (inl refl) there

-- ---- a list in which the keys of another are in the same order

pub record Keeps (old new : List Datum) : Type 0 where
  pub has : (k : Datum) → Has old k → Has new k
  pub before : (j k : Datum) → Before old j k → Before new j k

keeps_none : Keeps [] []
keeps_none = record { has = λ k h. h; before = λ j k b. b }

keeps_more : (xs ys : List Datum) → Keeps xs (xs ++ ys)
keeps_more xs ys = record { has = λ k h. has_left xs ys k h; before = λ j k b. before_left xs ys j k b }

keeps_append : (xs ys us vs : List Datum) → Keeps xs us → Keeps ys vs → Keeps (xs ++ ys) (us ++ vs)
keeps_append xs ys us vs left right = record {
  has = λ k h. has_of k (has_cases xs ys k h);
  before = λ j k b. before_of j k (before_cases xs ys j k b);
}
  where
    has_of : (k : Datum) → Has xs k ⊎ Has ys k → Has (us ++ vs) k
    has_of k (inl h) = has_left us vs k (left.has k h)
    has_of k (inr h) = has_right us vs k (right.has k h)

    before_of : (j k : Datum) → Before xs j k ⊎ ((Has xs j × Has ys k) ⊎ Before ys j k) → Before (us ++ vs) j k
    before_of j k (inl b) = before_left us vs j k (left.before j k b)
    before_of j k (inr (inl both)) = before_both us vs j k (left.has j both.0) (right.has k both.1)
    before_of j k (inr (inr b)) = before_right us vs j k (right.before j k b)

-- ---- keys that pass a test

has_passing : (p : Datum → Bool) (ks : List Datum) (k : Datum) → Has (filter p ks) k → Has ks k × (p k ≡ true)
has_passing p [] k h = absurd h
has_passing p (j ∷ js) k h =
    by_test (p j) _ (λ holds. of holds (λ there. has_passing p js k there) (rw holds at h)) (λ fails. let more = has_passing p js k (rw fails at h) in (inr more.0, more.1))
  where
    of : p j ≡ true → (Has (filter p js) k → Has js k × (p k ≡ true)) → (j ≡ k) ⊎ Has (filter p js) k → Has (j ∷ js) k × (p k ≡ true)
    of holds further (inl same) = (inl same, ap p (sym same) ∙ holds)
    of holds further (inr there) = (inr (further there).0, (further there).1)

once_passing : (p : Datum → Bool) (ks : List Datum) → Once ks → Once (filter p ks)
once_passing p [] once = tt
once_passing p (k ∷ ks) once =
    by_test (p k) _ (λ holds. rw holds ((λ there. once.0 (has_passing p ks k there).0), once_passing p ks once.1)) (λ fails. rw fails (once_passing p ks once.1))

-- ---- class by class

abbrev class_keys : Settings → ℕ → List Datum → ℕ → List Datum
class_keys o base ks class = filter (λ k. class_at o base k == class) ks

-- the keys of n classes from one on
abbrev keys_walked : Settings → ℕ → List Datum → ℕ → ℕ → List Datum
keys_walked o base ks class n = flat_map (class_keys o base ks) (range_with_len class n)

keeps_walked : (o : Settings) (base : ℕ) (ks more : List Datum) (n class : ℕ) → Keeps (keys_walked o base ks class n) (keys_walked o base (ks ++ more) class n)
keeps_walked o base ks more zero class = keeps_none
keeps_walked o base ks more (suc n) class =
    keeps_append (class_keys o base ks class) (keys_walked o base ks (class + 1) n) (class_keys o base (ks ++ more) class) (keys_walked o base (ks ++ more) (class + 1) n)
    (subst (Keeps (class_keys o base ks class)) (sym (filter-append (λ (k : Datum). class_at o base k == class) ks more)) (keeps_more (class_keys o base ks class) (class_keys o base more class)))
    (keeps_walked o base ks more n (class + 1))

walked_above : (o : Settings) (base : ℕ) (ks : List Datum) (n class : ℕ) (k : Datum) → Has (keys_walked o base ks class n) k → class ≤ class_at o base k
walked_above o base ks zero class k h = absurd h
walked_above o base ks (suc n) class k h =
    of (λ later. walked_above o base ks n (class + 1) k later) (has_cases (class_keys o base ks class) (keys_walked o base ks (class + 1) n) k h)
  where
    of : (Has (keys_walked o base ks (class + 1) n) k → class + 1 ≤ class_at o base k) → Has (class_keys o base ks class) k ⊎ Has (keys_walked o base ks (class + 1) n) k → class ≤ class_at o base k
    of above (inl here) = let is = eqb-true (class_at o base k) class (has_passing (λ j. class_at o base j == class) ks k here).1 in omega (arith, is)
    of above (inr later) = let up = above later in omega (arith, up)

once_walked : (o : Settings) (base : ℕ) (ks : List Datum) (n class : ℕ) → Once ks → Once (keys_walked o base ks class n)
once_walked o base ks zero class once = tt
once_walked o base ks (suc n) class once =
    once_append (class_keys o base ks class) (keys_walked o base ks (class + 1) n) (once_passing (λ k. class_at o base k == class) ks once) (once_walked o base ks n (class + 1) once)
    (λ k here later. let is = eqb-true (class_at o base k) class (has_passing (λ j. class_at o base j == class) ks k here).1 in let above = walked_above o base ks n (class + 1) k later in absurd (omega (arith, is, above)))

-- ---- the keys of rows in walk order

keys_passing : (p : Datum → Bool) (rows : List Row) → keys_of (filter (λ r. p r.0) rows) ≡ filter p (keys_of rows)
keys_passing p [] = refl
keys_passing p (r ∷ rows) =
    by_test (p r.0) _ (λ holds. rw holds (ap (λ ks. r.0 ∷ ks) (keys_passing p rows))) (λ fails. rw fails (keys_passing p rows))

keys_of_classes : (o : Settings) (base : ℕ) (rows : List Row) (classes : List ℕ) → keys_of (flat_map (λ class. in_class o base class rows) classes) ≡ flat_map (class_keys o base (keys_of rows)) classes
keys_of_classes o base rows [] = refl
keys_of_classes o base rows (class ∷ classes) =
    map-append (λ (r : Row). r.0) (in_class o base class rows) (flat_map (λ c. in_class o base c rows) classes)
    ∙ ap (λ ks. ks ++ keys_of (flat_map (λ c. in_class o base c rows) classes)) (keys_passing (λ k. class_at o base k == class) rows)
    ∙ ap (λ ks. class_keys o base (keys_of rows) class ++ ks) (keys_of_classes o base rows classes)

-- the keys of a part in walk order
abbrev pub walk_keys : Settings → ℕ → List Row → List Datum
walk_keys o base rows = keys_of (walk_order o base rows)

walked : (o : Settings) (base : ℕ) (rows : List Row) → is_ordered o.kind ≡ false → walk_keys o base rows ≡ keys_walked o base (keys_of rows) 0 base
unfolding walk_order
walked o base rows plain = rw plain (keys_of_classes o base rows (range_with_len 0 base))

pub walk_once : (o : Settings) (base : ℕ) (rows : List Row) → is_ordered o.kind ≡ false → IsDistinct is_same (keys_of rows) → Once (walk_keys o base rows)
walk_once o base rows plain distinct =
    subst Once (sym (walked o base rows plain)) (once_walked o base (keys_of rows) base 0 (once_from_distinct (keys_of rows) distinct))

-- appended rows don't change the order of the others
pub walk_keeps : (o : Settings) (base : ℕ) (rows later : List Row) (more : List Datum) → is_ordered o.kind ≡ false → keys_of later ≡ keys_of rows ++ more → Keeps (walk_keys o base rows) (walk_keys o base later)
walk_keeps o base rows later more plain grown =
    subst (Keeps (walk_keys o base rows)) (sym (walked o base later plain))
    (subst (λ (ks : List Datum). Keeps ks (keys_walked o base (keys_of later) 0 base)) (sym (walked o base rows plain))
    (subst (λ (ks : List Datum). Keeps (keys_walked o base (keys_of rows) 0 base) (keys_walked o base ks 0 base)) (sym grown) (keeps_walked o base (keys_of rows) more base 0)))
