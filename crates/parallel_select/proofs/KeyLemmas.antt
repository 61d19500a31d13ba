-- The named keys of one part.
use Rattle.std.proofs.Common.{zero, suc, ◌≡◌, ℕ, ◌+◌, ◌<◌, ◌≤◌, refl, ap, sym, subst, ◌∙◌, arith, List, [], ◌∷◌, length}
use Rattle.std.specs.Prelude.{Bool, true, false, ◌||◌, filter, if◌then◌else◌, get_or, take}
use Rattle.std.specs.List.{AllByRecursion, IsDistinct, list_any}
use Rattle.std.proofs.lemmas.Bool.{true≢false}
use Rattle.std.proofs.lemmas.Map.Keys.{IsDistinct-head, IsDistinct-tail, IsDistinct-cons}
use Rattle.term_core.specs.Datum.{Datum}
use Rattle.term_core.specs.Datum.Datum.{nil}
use Rattle.term_operand.specs.Order.{is_same}
use Rattle.part_core.proofs.KeyLemmas.{by_test, same_is}

kept : (p : Datum → Bool) (k : Datum) (ks : List Datum) → p k ≡ true → filter p (k ∷ ks) ≡ k ∷ filter p ks
kept p k ks is = ap (λ (b : Bool). if b then k ∷ filter p ks else filter p ks) is

left_out : (p : Datum → Bool) (k : Datum) (ks : List Datum) → p k ≡ false → filter p (k ∷ ks) ≡ filter p ks
left_out p k ks is = ap (λ (b : Bool). if b then k ∷ filter p ks else filter p ks) is

all_filter : (P : Datum → Type 0) (p : Datum → Bool) (ks : List Datum) → AllByRecursion P ks → AllByRecursion P (filter p ks)
all_filter P p [] h = h
all_filter P p (k ∷ ks) h =
    by_test (p k) _
    (λ is. subst (AllByRecursion P) (sym (kept p k ks is)) (h.0, all_filter P p ks h.1))
    (λ is. subst (AllByRecursion P) (sym (left_out p k ks is)) (all_filter P p ks h.1))

-- distinct keys that pass a test are distinct
pub distinct_filter : (p : Datum → Bool) (ks : List Datum) → IsDistinct is_same ks → IsDistinct is_same (filter p ks)
distinct_filter p [] h = h
distinct_filter p (k ∷ ks) h =
    let rest = distinct_filter p ks (IsDistinct-tail is_same k ks h) in
    by_test (p k) _
    (λ is. subst (IsDistinct is_same) (sym (kept p k ks is)) (IsDistinct-cons is_same k (filter p ks) (all_filter (λ j. is_same k j ≡ false) p ks (IsDistinct-head is_same k ks h)) rest))
    (λ is. subst (IsDistinct is_same) (sym (left_out p k ks is)) rest)

none_of_two : (a b : Bool) → (a || b) ≡ false → (a ≡ false) × (b ≡ false)
none_of_two true b h = absurd (true≢false h)
none_of_two false b h = (refl, h)

or_false : (a b : Bool) → a ≡ false → b ≡ false → (a || b) ≡ false
or_false a b first second = rw first second

-- a key that isn't among those of its part isn't named
pub unnamed : (p : Datum → Bool) (k : Datum) (ks : List Datum) → p k ≡ true → list_any (is_same k) (filter p ks) ≡ false → list_any (is_same k) ks ≡ false
unnamed p k [] here none = refl
unnamed p k (j ∷ ks) here none =
    by_test (p j) _
    (λ is.
    let two = none_of_two (is_same k j) (list_any (is_same k) (filter p ks)) (sym (ap (list_any (is_same k)) (kept p j ks is)) ∙ none) in
    or_false (is_same k j) (list_any (is_same k) ks) two.0 (unnamed p k ks here two.1))
    (λ is.
    or_false (is_same k j) (list_any (is_same k) ks)
    (by_test (is_same k j) _ (λ same. absurd (true≢false (sym here ∙ ap p (same_is k j same) ∙ is))) (λ other. other))
    (unnamed p k ks here (sym (ap (list_any (is_same k)) (left_out p j ks is)) ∙ none)))

-- a key among those of its part is in that part
pub named_there : (p : Datum → Bool) (k : Datum) (ks : List Datum) → list_any (is_same k) (filter p ks) ≡ true → p k ≡ true
named_there p k [] among = absurd (true≢false (sym among))
named_there p k (j ∷ ks) among =
    by_test (p j) _
    (λ is.
    by_test (is_same k j) _
    (λ same. ap p (same_is k j same) ∙ is)
    (λ other. named_there p k ks (sym (ap (λ (b : Bool). b || list_any (is_same k) (filter p ks)) other) ∙ sym (ap (list_any (is_same k)) (kept p j ks is)) ∙ among)))
    (λ is. named_there p k ks (sym (ap (list_any (is_same k)) (left_out p j ks is)) ∙ among))

-- how many of the first n keys are in the part
abbrev pub count_first : (Datum → Bool) → ℕ → List Datum → ℕ
count_first p n ks = length (filter p (take n ks))

none_first : (p : Datum → Bool) (ks : List Datum) → count_first p 0 ks ≡ 0
none_first p [] = refl
none_first p (k ∷ ks) = refl

pub none_yet : (p : Datum → Bool) (ks : List Datum) → count_first p 0 ks ≡ 0
none_yet p ks = none_first p ks

next_is : (n : ℕ) → n + 1 ≡ suc n
next_is n = omega arith

skipped : (p : Datum → Bool) (n : ℕ) (ks : List Datum) → n < length ks → p (get_or ks n nil) ≡ false → count_first p (suc n) ks ≡ count_first p n ks
skipped p n [] inside is = absurd (omega (arith, inside))
skipped p zero (k ∷ ks) inside is = ap length (left_out p k (take 0 ks) is) ∙ none_first p ks
skipped p (suc n) (k ∷ ks) inside is =
    let rest = skipped p n ks (omega (arith, inside)) is in
    by_test (p k) _
    (λ here. ap length (kept p k (take (suc n) ks) here) ∙ ap suc rest ∙ sym (ap length (kept p k (take n ks) here)))
    (λ there. ap length (left_out p k (take (suc n) ks) there) ∙ rest ∙ sym (ap length (left_out p k (take n ks) there)))

-- a key of another part doesn't change this number
pub key_skipped : (p : Datum → Bool) (n : ℕ) (ks : List Datum) → n < length ks → p (get_or ks n nil) ≡ false → count_first p (n + 1) ks ≡ count_first p n ks
key_skipped p n ks inside is = rw (next_is n) (skipped p n ks inside is)

taken : (p : Datum → Bool) (n : ℕ) (ks : List Datum) → n < length ks → p (get_or ks n nil) ≡ true
    → (count_first p (suc n) ks ≡ suc (count_first p n ks)) × (get_or (filter p ks) (count_first p n ks) nil ≡ get_or ks n nil) × (count_first p n ks < length (filter p ks))
taken p n [] inside is = absurd (omega (arith, inside))
taken p zero (k ∷ ks) inside is =
    rw (kept p k ks is, kept p k (take 0 ks) is) (refl, refl, omega arith)
taken p (suc n) (k ∷ ks) inside is =
    let rest = taken p n ks (omega (arith, inside)) is in
    by_test (p k) _
    (λ here. rw (kept p k ks here, kept p k (take (suc n) ks) here, kept p k (take n ks) here) (ap suc rest.0, rest.1, omega (arith, rest.2)))
    (λ there. rw (left_out p k ks there, left_out p k (take (suc n) ks) there, left_out p k (take n ks) there) rest)

-- a key of the part is the next of the part's keys
pub key_taken : (p : Datum → Bool) (n : ℕ) (ks : List Datum) → n < length ks → p (get_or ks n nil) ≡ true
    → (count_first p (n + 1) ks ≡ count_first p n ks + 1) × (get_or (filter p ks) (count_first p n ks) nil ≡ get_or ks n nil) × (count_first p n ks < length (filter p ks))
key_taken p n ks inside is =
    let t = taken p n ks inside is in (rw (next_is n) (t.0 ∙ sym (next_is (count_first p n ks))), t.1, t.2)

all_first : (p : Datum → Bool) (n : ℕ) (ks : List Datum) → take n ks ≡ ks → count_first p n ks ≡ length (filter p ks)
all_first p n ks is = ap (λ (js : List Datum). length (filter p js)) is

take_whole : (ks : List Datum) (n : ℕ) → length ks ≤ n → take n ks ≡ ks
take_whole [] zero all = refl
take_whole [] (suc n) all = refl
take_whole (k ∷ ks) zero all = absurd (omega (arith, all))
take_whole (k ∷ ks) (suc n) all = ap (λ (js : List Datum). k ∷ js) (take_whole ks n (omega (arith, all)))

-- all keys of the part are among all keys
pub all_there : (p : Datum → Bool) (n : ℕ) (ks : List Datum) → length ks ≤ n → count_first p n ks ≡ length (filter p ks)
all_there p n ks all = all_first p n ks (take_whole ks n all)

-- an element within a list doesn't depend on the default
pub there : (ks : List Datum) (n : ℕ) (j k : Datum) → n < length ks → k ≡ get_or ks n j → get_or ks n nil ≡ k
there [] n j k inside is = absurd (omega (arith, inside))
there (i ∷ ks) zero j k inside is = sym is
there (i ∷ ks) (suc n) j k inside is = there ks n j k (omega (arith, inside)) is
