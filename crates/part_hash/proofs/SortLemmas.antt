-- Places put in the order in which their rows were made.
use Rattle.std.proofs.Common.{◌≡◌, ℕ, ◌<◌, ◌≤◌, zero, suc, List, [], ◌∷◌, refl, ap, sym, ◌∙◌, length, get_or, arith, eq-eqb}
use Rattle.std.specs.Prelude.{Bool, true, false, not, ◌==◌, ◌&&◌, ⊤, nat_lt, All, filter}
use Rattle.std.specs.List.Sorted.{IsNonDecreasingBy}
use Rattle.std.specs.Ordering.{is_lt, nat_cmp}
use Rattle.std.proofs.lemmas.Bool.{true≢false, eqb-true, ltb-true, ltb-false, lt-ltb}
use Rattle.part_core.proofs.KeyLemmas.{by_test}
use Rattle.part_rows.specs.declared.place.Place.{Place}

abbrev pub is_made : ℕ → Place → Bool
is_made n p = p.made == n

-- places, each made after those before it
abbrev pub Rise : List Place → Type 0
Rise [] = ⊤
Rise (p ∷ ps) = All (λ q. p.made < q.made) ps × Rise ps

none_made : (n : ℕ) (ps : List Place) → ((i : ℕ) (d : Place) → i < length ps → n < (get_or ps i d).made) → filter (is_made n) ps ≡ []
none_made n [] later = refl
none_made n (p ∷ ps) later =
    let head : n < p.made = later 0 p (omega arith) in
    let other : (p.made == n) ≡ false = by_test (p.made == n) _ (λ same. absurd (omega (arith, head, eqb-true p.made n same))) (λ fails. fails) in
    rw other (none_made n ps (λ i d below. later (suc i) d (omega (arith, below))))

cons_head : {p q : Place} {ps qs : List Place} → p ∷ ps ≡ q ∷ qs → p ≡ q
cons_head e = cc

cons_tail : {p q : Place} {ps qs : List Place} → p ∷ ps ≡ q ∷ qs → ps ≡ qs
cons_tail e = cc

none_some : {p : Place} {ps : List Place} → ◌≡◌ {A = List Place} [] (p ∷ ps) → ⊥
none_some e = cc

own_made : (p : Place) (ps : List Place) → filter (is_made p.made) (p ∷ ps) ≡ p ∷ filter (is_made p.made) ps
own_made p ps = let same : (p.made == p.made) ≡ true = eq-eqb _ _ refl in rw same refl

-- two ascending lists of places that have the same places with each number are equal
pub same_places : (ps qs : List Place) → IsNonDecreasingBy (λ (p : Place). p.made) ps → Rise qs → ((n : ℕ) → filter (is_made n) ps ≡ filter (is_made n) qs) → ps ≡ qs
same_places [] [] up rise same = refl
same_places [] (q ∷ qs) up rise same = absurd (none_some (same q.made ∙ own_made q qs))
same_places (p ∷ ps) [] up rise same = absurd (none_some (sym (same p.made) ∙ own_made p ps))
same_places (p ∷ ps) (q ∷ qs) up rise same =
    by_test (nat_lt q.made p.made) _
    (λ after. absurd (none_some (sym (none_made q.made (p ∷ ps) (λ i d below. omega (arith, ltb-true _ _ after, up 0 i d (omega arith) below))) ∙ same q.made ∙ own_made q qs)))
    (λ first. by_test (nat_lt p.made q.made) _
    (λ before. absurd (none_some (sym (none_made p.made (q ∷ qs) (behind (ltb-true _ _ before))) ∙ sym (same p.made) ∙ own_made p ps)))
    (λ last. let number : p.made ≡ q.made = omega (arith, ltb-false _ _ first, ltb-false _ _ last) in
    let heads : p ∷ filter (is_made p.made) ps ≡ q ∷ filter (is_made p.made) qs = sym (own_made p ps) ∙ same p.made ∙ ap (λ n. filter (is_made n) (q ∷ qs)) number ∙ own_made q qs ∙ ap (λ n. q ∷ filter (is_made n) qs) (sym number) in
    ap (λ r. r ∷ ps) (cons_head heads) ∙ ap (λ rs. q ∷ rs) (same_places ps qs (λ i j d low below. up (suc i) (suc j) d (omega (arith, low)) (omega (arith, below))) rise.1 (rest number heads))))
  where
    behind : p.made < q.made → (i : ℕ) (d : Place) → i < length (q ∷ qs) → p.made < (get_or (q ∷ qs) i d).made
    behind before zero d below = before
    behind before (suc i) d below = omega (arith, before, rise.0 i d (omega (arith, below)))

    rest : p.made ≡ q.made → p ∷ filter (is_made p.made) ps ≡ q ∷ filter (is_made p.made) qs → (n : ℕ) → filter (is_made n) ps ≡ filter (is_made n) qs
    rest number heads n = by_test (p.made == n) _
        (λ here. ap (λ m. filter (is_made m) ps) (sym (eqb-true p.made n here)) ∙ cons_tail heads ∙ ap (λ m. filter (is_made m) qs) (eqb-true p.made n here))
        (λ other. let also : (q.made == n) ≡ false = ap (λ m. m == n) (sym number) ∙ other in
        let both : filter (is_made n) (p ∷ ps) ≡ filter (is_made n) (q ∷ qs) = same n in
        rw (other, also) at both)

-- two that tie have one number
pub ties_made : (m n : ℕ) → (not (is_lt (nat_cmp m n)) && not (is_lt (nat_cmp n m))) ≡ (n == m)
ties_made m n = by_test (n == m) _
    (λ same. let is : n ≡ m = eqb-true n m same in
    let one : nat_lt m n ≡ false = at_most m n (omega (arith, is)) in
    let two : nat_lt n m ≡ false = at_most n m (omega (arith, is)) in
    let back : (m == n) ≡ true = eq-eqb _ _ (sym is) in
    rw (one, two, back, same) refl)
    (λ other. by_test (nat_lt m n) _
    (λ below. rw (below, other) refl)
    (λ over. let apart : (m == n) ≡ false = by_test (m == n) _ (λ h. absurd (true≢false (sym (eq-eqb _ _ (sym (eqb-true m n h))) ∙ other))) (λ h. h) in
    let above : nat_lt n m ≡ true = lt-ltb n m (omega (arith, ltb-false _ _ over, (λ (e : n ≡ m). true≢false (sym (eq-eqb _ _ e) ∙ other)))) in
    rw (over, apart, above, other) refl))
  where
    at_most : (a b : ℕ) → b ≤ a → nat_lt a b ≡ false
    at_most a b h = by_test (nat_lt a b) _ (λ below. absurd (omega (arith, h, ltb-true _ _ below))) (λ fails. fails)
