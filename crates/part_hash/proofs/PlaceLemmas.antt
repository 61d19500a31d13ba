-- Places at which rows stand, and the order of places.
use Rattle.std.proofs.Common.{◌≡◌, ℕ, ◌<◌, zero, suc, List, [], ◌∷◌, refl, ap, sym, ◌∙◌, length, get_or, arith, eq-eqb, drop, subst, ◌++◌, ◌-◌}
use Rattle.std.specs.Prelude.{Bool, true, false, ◌==◌, ◌&&◌, Option, Some, None, filter, find, is_some, nat_le, nat_lt, All}
use Rattle.std.specs.List.{AllWithin}
use Rattle.std.specs.List.Sorted.{IsPartitionedBy}
use Rattle.std.specs.Option.{option_map_or}
use Rattle.std.proofs.lemmas.Bool.{true≢false, eqb-true, leb-true, lt-ltb, ltb-true}
use Rattle.std.proofs.lemmas.List.{get_or_default}
use Rattle.std.proofs.lemmas.List.Elements.{All-filter, All-head, All-nil, All-push, All-tail}
use Rattle.slab.specs.Slab.{Slab}
use Rattle.part_core.specs.Rows.{Row}
use Rattle.part_core.proofs.KeyLemmas.{by_test}
use Rattle.part_rows.specs.declared.place.Place.{Place}
use Rattle.part_hash.specs.Places.{Kept, is_standing, row_of, rows_of, standing}
use Rattle.part_hash.specs.Slots.{AreRising, FindsSame}

-- ---- where no row stands, none is found

-- no row is there
pub none_is : (found : Option Row) → is_some found ≡ false → found ≡ None
none_is None h = refl
none_is (Some r) h = cc

passed : (s t : Place → Bool) → ((p : Place) → s p ≡ false → t p ≡ false) → (places : List Place) → filter t places ≡ filter t (filter s places)
passed s t none [] = refl
passed s t none (p ∷ places) =
    by_test (s p) _
    (λ here. by_test (t p) _ (λ yes. rw (here, yes) (ap (λ ps. p ∷ ps) (passed s t none places))) (λ fails. rw (here, fails) (passed s t none places)))
    (λ gone. rw (gone, none p gone) (passed s t none places))

first_passed : (s t : Place → Bool) → ((p : Place) → s p ≡ false → t p ≡ false) → (places : List Place) → find t places ≡ find t (filter s places)
first_passed s t none [] = refl
first_passed s t none (p ∷ places) =
    by_test (s p) _
    (λ here. by_test (t p) _ (λ holds. rw (here, holds) refl) (λ fails. rw (here, fails) (first_passed s t none places)))
    (λ gone. rw (gone, none p gone) (first_passed s t none places))

pub rows_there : (slab : Slab Kept) (places : List Place) → rows_of slab places ≡ rows_of slab (standing slab places)
rows_there slab [] = refl
rows_there slab (p ∷ places) = of (row_of slab p) refl (rows_there slab places)
  where
    of : (found : Option Row) → row_of slab p ≡ found → rows_of slab places ≡ rows_of slab (standing slab places) → rows_of slab (p ∷ places) ≡ rows_of slab (standing slab (p ∷ places))
    of None is rest = rw is rest
    of (Some r) is rest = rw (is, is) (ap (λ rs. r ∷ rs) rest)

pub passed_there : (slab : Slab Kept) (test : Row → Bool) (places : List Place) → filter (λ (p : Place). option_map_or test (row_of slab p) false) places ≡ filter (λ (p : Place). option_map_or test (row_of slab p) false) (standing slab places)
passed_there slab test places =
    passed (is_standing slab) (λ (p : Place). option_map_or test (row_of slab p) false) (λ p gone. ap (λ (r : Option Row). option_map_or test r false) (none_is (row_of slab p) gone)) places

never : (b : Bool) → (b && false) ≡ false
never true = refl
never false = refl

-- a place at which no row is has no row that was created after the first `from` rows and passes the test
none_next : (slab : Slab Kept) (test : Row → Bool) (from : ℕ) (p : Place) → is_standing slab p ≡ false → (nat_le from p.made && option_map_or test (row_of slab p) false) ≡ false
none_next slab test from p gone =
    ap (λ (r : Option Row). nat_le from p.made && option_map_or test r false) (none_is (row_of slab p) gone) ∙ never (nat_le from p.made)

pub next_there : (slab : Slab Kept) (test : Row → Bool) (from : ℕ) (places : List Place) → find (λ (p : Place). nat_le from p.made && option_map_or test (row_of slab p) false) places ≡ find (λ (p : Place). nat_le from p.made && option_map_or test (row_of slab p) false) (standing slab places)
next_there slab test from places =
    first_passed (is_standing slab) (λ (p : Place). nat_le from p.made && option_map_or test (row_of slab p) false) (none_next slab test from) places

-- places passed at the front have no row that is found
past : (t : Place → Bool) (number : ℕ) (places : List Place) → AllWithin (λ (p : Place). t p ≡ false) places 0 number → find t (drop number places) ≡ find t places
past t zero places fails = refl
past t (suc number) [] fails = refl
past t (suc number) (p ∷ places) fails =
    rw (fails 0 p (omega arith) (omega arith)) (past t number places (λ k d low high. fails (suc k) d (omega arith) (omega (arith, high))))

pub next_past : (slab : Slab Kept) (test : Row → Bool) (from number : ℕ) (places : List Place) → AllWithin (λ (p : Place). is_standing slab p ≡ false) places 0 number → find (λ (p : Place). nat_le from p.made && option_map_or test (row_of slab p) false) (drop number places) ≡ find (λ (p : Place). nat_le from p.made && option_map_or test (row_of slab p) false) places
next_past slab test from number places gone =
    past (λ (p : Place). nat_le from p.made && option_map_or test (row_of slab p) false) number places (λ k d low high. none_next slab test from (get_or places k d) (gone k d low high))

-- ---- the order in which rows were made

rise_at : (places : List Place) → AreRising places → (i j : ℕ) (d : Place) → i < j → j < length places → (get_or places i d).made < (get_or places j d).made
rise_at [] rising i j d less within = absurd (omega (arith, within))
rise_at (p ∷ places) rising i zero d less within = absurd (omega (arith, less))
rise_at (p ∷ places) rising zero (suc j) d less within = rising.0 j d (omega (arith, within))
rise_at (p ∷ places) rising (suc i) (suc j) d less within = rise_at places rising.1 i j d (omega (arith, less)) (omega (arith, within))

-- what is made after the last was made after all
pub after_last : (places : List Place) (made : ℕ) (last : Place) → AreRising places → get_or places (length places - 1) last ≡ last → last.made < made → All (λ p. p.made < made) places
after_last places made last rising is less = λ k d within.
    by_test (k == length places - 1) _
    (λ same. let it : get_or places k d ≡ last = get_or_default places k d last within ∙ ap (λ i. get_or places i last) (eqb-true _ _ same) ∙ is in
    subst (λ (p : Place). p.made < made) (sym it) less)
    (λ other. let before : (get_or places k d).made < (get_or places (length places - 1) d).made = rise_at places rising k (length places - 1) d (omega (arith, within, (λ (e : k ≡ length places - 1). true≢false (sym (eq-eqb _ _ e) ∙ other)))) (omega (arith, within)) in
    let it : get_or places (length places - 1) d ≡ last = get_or_default places (length places - 1) d last (omega (arith, within)) ∙ is in
    omega (arith, before, ap (λ (p : Place). p.made) it, less))

pub rising_more : (places : List Place) (p : Place) → AreRising places → All (λ q. q.made < p.made) places → AreRising (places ++ p ∷ [])
rising_more [] p rising last = (All-nil (λ (q : Place). p.made < q.made), tt)
rising_more (q ∷ places) p rising last =
    (All-push (λ (r : Place). q.made < r.made) places p rising.0 (All-head (λ (r : Place). r.made < p.made) q places last), rising_more places p rising.1 (All-tail (λ (r : Place). r.made < p.made) q places last))

pub rising_filtered : (test : Place → Bool) (places : List Place) → AreRising places → AreRising (filter test places)
rising_filtered test [] rising = rising
rising_filtered test (p ∷ places) rising =
    by_test (test p) _
    (λ stays. rw stays (All-filter test (λ (q : Place). p.made < q.made) places rising.0, rising_filtered test places rising.1))
    (λ goes. rw goes (rising_filtered test places rising.1))

pub parted : (from : ℕ) (places : List Place) → AreRising places → IsPartitionedBy (λ (p : Place). nat_lt p.made from) places
parted from places rising = λ i j d before within passes.
    by_test (i == j) _
    (λ same. ap (λ n. nat_lt (get_or places n d).made from) (eqb-true i j same) ∙ passes)
    (λ other. lt-ltb _ _ (omega (arith, ltb-true _ _ passes, rise_at places rising i j d (omega (arith, before, (λ (e : i ≡ j). true≢false (sym (eq-eqb _ _ e) ∙ other)))) within)))

-- places of rows made before aren't found
pub skipped : (from number : ℕ) (places : List Place) → AllWithin (λ (p : Place). nat_lt p.made from ≡ true) places 0 number → FindsSame from places (drop number places)
skipped from zero places made test = refl
skipped from (suc number) [] made test = refl
skipped from (suc number) (p ∷ places) made test =
    let before : nat_lt p.made from ≡ true = made 0 p (omega arith) (omega arith) in
    let early : nat_le from p.made ≡ false = by_test (nat_le from p.made) _ (λ holds. absurd (omega (arith, leb-true _ _ holds, ltb-true _ _ before))) (λ fails. fails) in
    rw early (skipped from number places (λ k d low high. made (suc k) d (omega arith) (omega (arith, high))) test)

pub rising_dropped : (number : ℕ) (places : List Place) → AreRising places → AreRising (drop number places)
rising_dropped zero places rising = rising
rising_dropped (suc number) [] rising = rising
rising_dropped (suc number) (p ∷ places) rising = rising_dropped number places rising.1
