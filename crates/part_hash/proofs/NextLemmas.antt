-- The next row of a class, found in several slots.
use Rattle.std.proofs.Common.{◌≡◌, ℕ, ◌<◌, ◌/◌, zero, suc, List, [], ◌∷◌, refl, ap, sym, ◌∙◌, length, arith, eq-eqb}
use Rattle.std.specs.Prelude.{Bool, true, false, ◌==◌, ◌&&◌, ◌||◌, nat_le, Option, Some, None, MatchOption, IfSome, All, find, option_map}
use Rattle.std.proofs.lemmas.Bool.{true≢false, eqb-true, le-leb, leb-true}
use Rattle.std.proofs.lemmas.List.Elements.{All-head, All-tail}
use Rattle.slab.specs.Slab.{Slab, get}
use Rattle.term_core.specs.Datum.{Datum}
use Rattle.part_core.specs.declared.settings.Settings.{Settings}
use Rattle.part_core.specs.Settings.{class_at}
use Rattle.part_core.specs.Replies.{first_live}
use Rattle.part_core.specs.Rows.{Row, is_live}
use Rattle.part_core.specs.Visits.{in_class}
use Rattle.part_core.proofs.KeyLemmas.{by_test}
use Rattle.part_rows.specs.declared.place.Place.{Place}
use Rattle.part_hash.specs.declared.store.Store.{Store}
use Rattle.part_hash.specs.Places.{Kept, Standing, places_where, row_of, slot_at}
use Rattle.part_hash.specs.Slots.{listing_at}
use Rattle.part_hash.specs.Standing.{AreAt, IsRising, Stands}
use Rattle.part_hash.specs.Classes.{earlier, earliest, is_next, made_from, next_of_class, slot_of_class, step_of}
use Rattle.part_hash.proofs.PlaceLemmas.{next_there}
use Rattle.part_hash.proofs.StandLemmas.{at_place}
use Rattle.part_hash.proofs.TurnLemmas.{turn_of, slot_comes, turn_within, slot_there}

-- ---- the first of some rows

-- the place of the first that passes
abbrev first_of : (Standing → Bool) → List Standing → Option Place
first_of t list = option_map (λ e. e.0) (find t list)

first_agree : (t u : Standing → Bool) → ((e : Standing) → t e ≡ u e) → (list : List Standing) → first_of t list ≡ first_of u list
first_agree t u same [] = refl
first_agree t u same (e ∷ list) =
    by_test (t e) _
    (λ passed. let also : u e ≡ true = sym (same e) ∙ passed in rw (passed, also) refl)
    (λ failed. let also : u e ≡ false = sym (same e) ∙ failed in rw (failed, also) (first_agree t u same list))

first_none : (t : Standing → Bool) → ((e : Standing) → t e ≡ false) → (list : List Standing) → first_of t list ≡ None
first_none t none [] = refl
first_none t none (e ∷ list) = rw (none e) (first_none t none list)

first_made : (m : ℕ) (t : Standing → Bool) (list : List Standing) → All (λ f. m < f.0.made) list → IfSome (first_of t list) (λ p. m < p.made)
first_made m t [] later = tt
first_made m t (e ∷ list) later =
    by_test (t e) _
    (λ passed. rw passed (All-head (λ (f : Standing). m < f.0.made) e list later))
    (λ failed. rw failed (first_made m t list (All-tail (λ (f : Standing). m < f.0.made) e list later)))

-- a place before all others is the earlier
earlier_head : (p : Place) (found : Option Place) → IfSome found (λ q. p.made < q.made) → earlier (Some p) found ≡ Some p
earlier_head p None later = refl
earlier_head p (Some q) later = let first : nat_le p.made q.made ≡ true = le-leb _ _ (omega (arith, later)) in rw first refl

earlier_last : (p : Place) (found : Option Place) → IfSome found (λ q. p.made < q.made) → earlier found (Some p) ≡ Some p
earlier_last p None later = refl
earlier_last p (Some q) later =
    by_test (nat_le q.made p.made) _ (λ first. absurd (omega (arith, later, leb-true _ _ first))) (λ after. rw after refl)

earlier_same : (p : Place) → earlier (Some p) (Some p) ≡ Some p
earlier_same p = by_test (nat_le p.made p.made) _ (λ h. rw h refl) (λ h. rw h refl)

-- the earlier of two firsts is the first of both
first_either : (t u : Standing → Bool) (list : List Standing) → IsRising list → earlier (first_of t list) (first_of u list) ≡ first_of (λ e. t e || u e) list
first_either t u [] rising = refl
first_either t u (e ∷ list) rising =
    by_test (t e) _
    (λ one. by_test (u e) _
    (λ other. rw (one, other) (earlier_same e.0))
    (λ none. rw (one, none) (earlier_head e.0 (first_of u list) (first_made e.0.made u list rising.0))))
    (λ none. by_test (u e) _
    (λ other. rw (none, other) (earlier_last e.0 (first_of t list) (first_made e.0.made t list rising.0)))
    (λ neither. rw (none, neither) (first_either t u list rising.1)))

-- ---- turn by turn

-- the row is in a slot of one of the first n turns
abbrev comes_below : (ℕ → Standing → Bool) → ℕ → Standing → Bool
comes_below t zero e = false
comes_below t (suc n) e = comes_below t n e || t n e

comes_there : (t : ℕ → Standing → Bool) (e : Standing) (turns n : ℕ) → n < turns → t n e ≡ true → comes_below t turns e ≡ true
comes_there t e zero n below is = absurd (omega (arith, below))
comes_there t e (suc turns) n below is =
    by_test (comes_below t turns e) _
    (λ before. rw before refl)
    (λ not_yet. by_test (n == turns) _
    (λ now. let last : t turns e ≡ true = ap (λ i. t i e) (sym (eqb-true n turns now)) ∙ is in rw (not_yet, last) refl)
    (λ other. absurd (true≢false (sym (comes_there t e turns n (omega (arith, below, (λ (same : n ≡ turns). true≢false (sym (eq-eqb _ _ same) ∙ other)))) is) ∙ not_yet))))

first_by_turns : (t : ℕ → Standing → Bool) (c : Standing → Bool) (list : List Standing) → IsRising list → (turns : ℕ) → earliest (λ n. first_of (λ e. t n e && c e) list) turns ≡ first_of (λ e. comes_below t turns e && c e) list
first_by_turns t c list rising zero = sym (first_none (λ e. false && c e) (λ e. refl) list)
first_by_turns t c list rising (suc turns) =
    ap (λ p. earlier p (first_of (λ e. t turns e && c e) list)) (first_by_turns t c list rising turns)
    ∙ first_either (λ e. comes_below t turns e && c e) (λ e. t turns e && c e) list rising
    ∙ first_agree (λ e. (comes_below t turns e && c e) || (t turns e && c e)) (λ e. comes_below t (suc turns) e && c e) (λ e. joined (comes_below t turns e) (t turns e) (c e)) list
  where
    joined : (a b c : Bool) → ((a && c) || (b && c)) ≡ ((a || b) && c)
    joined true true true = refl
    joined true true false = refl
    joined true false true = refl
    joined true false false = refl
    joined false true true = refl
    joined false true false = refl
    joined false false true = refl
    joined false false false = refl

earliest_agree : (f g : ℕ → Option Place) (turns : ℕ) → ((n : ℕ) → n < turns → f n ≡ g n) → earliest f turns ≡ earliest g turns
earliest_agree f g zero same = refl
earliest_agree f g (suc turns) same =
    ap (λ p. earlier p (f turns)) (earliest_agree f g turns (λ n below. same n (omega (arith, below)))) ∙ ap (earlier (earliest g turns)) (same turns (omega arith))

-- ---- the rows

-- a live row of a class, created after the first `from` rows
abbrev pub comes_next : Settings → ℕ → ℕ → ℕ → Standing → Bool
comes_next o base class from e =
    nat_le from e.0.made && (is_live e.1 && (class_at o base e.1.0 == class))

-- those of a slot are found by their places
next_in_slot : (o : Settings) (base class from : ℕ) (slab : Slab Kept) (q : Datum → Bool) (list : List Standing) → AreAt slab list → find (is_next o base class from slab) (places_where q list) ≡ first_of (λ e. q e.1.0 && comes_next o base class from e) list
next_in_slot o base class from slab q [] at = refl
next_in_slot o base class from slab q (e ∷ list) at =
    let here : row_of slab e.0 ≡ Some e.1 = at_place slab e (All-head (λ (f : Standing). get slab f.0.at ≡ Some (f.1, f.0.made)) e list at) in
    let rest : find (is_next o base class from slab) (places_where q list) ≡ first_of (λ f. q f.1.0 && comes_next o base class from f) list = next_in_slot o base class from slab q list (All-tail (λ (f : Standing). get slab f.0.at ≡ Some (f.1, f.0.made)) e list at) in
    by_test (q e.1.0) _
    (λ passed. by_test (comes_next o base class from e) _
    (λ next. rw (passed, here, next) refl)
    (λ no_next. rw (passed, here, no_next) rest))
    (λ failed. rw failed rest)

-- the next row of a class is found among all
pub next_found : {A : Type 0} {o : Settings} {store : Store A} {rows : List Row} (base class from : ℕ) (s : Stands o store rows) → 0 < o.parts → 0 < base → 0 < length store.slots.items → next_of_class o base class from store.rows store.slots.items ≡ first_of (comes_next o base class from) s.list
next_found {A} {o} {store} {rows} base class from s parts based some =
    earliest_agree (λ n. find (is_next o base class from store.rows) (listing_at store.slots.items (slot_of_class (length store.slots.items) base class n)).0) (λ n. first_of (λ e. stands_at n e && comes_next o base class from e) s.list) (length store.slots.items / step_of (length store.slots.items) base)
    (λ n below. next_there store.rows (λ r. is_live r && (class_at o base r.0 == class)) from (listing_at store.slots.items (slot_of_class (length store.slots.items) base class n)).0 ∙ ap (find (is_next o base class from store.rows)) (s.listed (slot_of_class (length store.slots.items) base class n) (slot_there (length store.slots.items) base class n based below)).there ∙ next_in_slot o base class from store.rows (λ k. slot_at o (length store.slots.items) k == slot_of_class (length store.slots.items) base class n) s.list s.placed.stands)
    ∙ first_by_turns stands_at (comes_next o base class from) s.list s.placed.rising (length store.slots.items / step_of (length store.slots.items) base)
    ∙ first_agree (λ e. comes_below stands_at (length store.slots.items / step_of (length store.slots.items) base) e && comes_next o base class from e) (comes_next o base class from) all s.list
  where
    stands_at : ℕ → Standing → Bool
    stands_at n e = slot_at o (length store.slots.items) e.1.0 == slot_of_class (length store.slots.items) base class n

    fails : (a b c : Bool) → c ≡ false → (a && (b && c)) ≡ false
    fails true true c h = h
    fails true false c h = refl
    fails false b c h = refl

    and_false : (b : Bool) → (b && false) ≡ false
    and_false true = refl
    and_false false = refl

    all : (e : Standing) → (comes_below stands_at (length store.slots.items / step_of (length store.slots.items) base) e && comes_next o base class from e) ≡ comes_next o base class from e
    all e = by_test (class_at o base e.1.0 == class) _
        (λ same. let there : comes_below stands_at (length store.slots.items / step_of (length store.slots.items) base) e ≡ true = comes_there stands_at e (length store.slots.items / step_of (length store.slots.items) base) (turn_of o (length store.slots.items) base e.1.0) (turn_within o (length store.slots.items) base e.1.0 some based) (eq-eqb _ _ (slot_comes o (length store.slots.items) base class e.1.0 parts (eqb-true _ _ same))) in
        rw there refl)
        (λ other. let none : comes_next o base class from e ≡ false = fails (nat_le from e.0.made) (is_live e.1) (class_at o base e.1.0 == class) other in
        rw none (and_false (comes_below stands_at (length store.slots.items / step_of (length store.slots.items) base) e)))

-- the key of the first live row of a class
pub next_key : (o : Settings) (base class from : ℕ) (slab : Slab Kept) (list : List Standing) → AreAt slab list → MatchOption (first_of (comes_next o base class from) list) (None ≡ first_live (in_class o base class (made_from from list))) (λ p. option_map (λ r. r.0) (row_of slab p) ≡ first_live (in_class o base class (made_from from list)))
next_key o base class from slab [] at = refl
next_key o base class from slab (e ∷ list) at =
    let here : row_of slab e.0 ≡ Some e.1 = at_place slab e (All-head (λ (f : Standing). get slab f.0.at ≡ Some (f.1, f.0.made)) e list at) in
    let rest : MatchOption (first_of (comes_next o base class from) list) (None ≡ first_live (in_class o base class (made_from from list))) (λ p. option_map (λ r. r.0) (row_of slab p) ≡ first_live (in_class o base class (made_from from list))) = next_key o base class from slab list (All-tail (λ (f : Standing). get slab f.0.at ≡ Some (f.1, f.0.made)) e list at) in
    by_test (nat_le from e.0.made) _
    (λ after. by_test (class_at o base e.1.0 == class) _
    (λ same. by_test (is_live e.1) _
    (λ live. rw (after, live, same) (rw (here, live) refl))
    (λ dead. rw (after, dead, same) (rw dead rest)))
    (λ other. by_test (is_live e.1) _
    (λ live. rw (after, live, other) rest)
    (λ dead. rw (after, dead, other) rest)))
    (λ before. rw before rest)
