-- What one slot lists.
use Rattle.std.proofs.Common.{◌≡◌, ◌≢◌, ℕ, ◌<◌, ◌≤◌, ◌+◌, suc, List, [], ◌∷◌, ◌++◌, refl, ap, sym, subst, ◌∙◌, length, length-append, get_or, arith, eq-eqb}
use Rattle.std.specs.Prelude.{Bool, true, false, not, ◌==◌, ◌&&◌, Option, None, All, filter, is_some}
use Rattle.std.specs.List.{AllWithin}
use Rattle.std.proofs.lemmas.Bool.{true≢false, eqb-true}
use Rattle.std.proofs.lemmas.List.{get_or_append_left}
use Rattle.std.proofs.lemmas.List.Elements.{All-filter, All-head, All-nil, All-push, All-tail, All-weaker, filter-append}
use Rattle.slab.specs.Slab.{Slab, Updates, get}
use Rattle.part_core.specs.Rows.{Row}
use Rattle.part_core.proofs.KeyLemmas.{by_test}
use Rattle.part_rows.specs.declared.place.Place.{Place}
use Rattle.part_hash.specs.Places.{Kept, if_made, is_standing, row_of, standing}
use Rattle.part_hash.specs.Slots.{IsAdded, IsListed, Listing, Relists, is_gone, with_gone}

-- ---- a slot by itself

none_within : (P : Place → Type 0) (places : List Place) → AllWithin P places 0 0
none_within P places = λ k d low high. absurd (omega (arith, high))

all_stand : (slab : Slab Kept) (places : List Place) → standing slab (standing slab places) ≡ standing slab places
all_stand slab [] = refl
all_stand slab (p ∷ places) =
    by_test (is_standing slab p) _ (λ here. rw (here, here) (ap (λ ps. p ∷ ps) (all_stand slab places))) (λ gone. rw gone (all_stand slab places))

-- where as many are gone as there are, none stands
none_stand : (slab : Slab Kept) (places : List Place) → length places ≤ length (filter (is_gone slab) places) → standing slab places ≡ []
none_stand slab [] all = refl
none_stand slab (p ∷ places) all =
    by_test (is_standing slab p) _
    (λ here. let few : suc (length places) ≤ length (filter (is_gone slab) places) = rw here at all in
    absurd (omega (arith, few, fewer slab places)))
    (λ gone. let rest : suc (length places) ≤ suc (length (filter (is_gone slab) places)) = rw gone at all in
    rw gone (none_stand slab places (omega (arith, rest))))
  where
    fewer : (slab : Slab Kept) (ps : List Place) → length (filter (is_gone slab) ps) ≤ length ps
    fewer slab [] = omega arith
    fewer slab (q ∷ ps) = let rest = fewer slab ps in
        by_test (is_standing slab q) _ (λ here. rw here (omega (arith, rest))) (λ gone. rw gone (omega (arith, rest)))

pub packed : (slab : Slab Kept) (v : Listing) → Relists slab v (standing slab v.0, 0, 0)
packed slab v = record {
  listed = λ made places s. record {
    there = all_stand slab v.0 ∙ s.there;
    gone = omega arith;
    passed = none_within (λ p. is_standing slab p ≡ false) (standing slab v.0);
    below = All-filter (is_standing slab) (λ (p : Place). p.made < made) v.0 s.below;
    front = omega arith;
  };
}

pub cleared : (slab : Slab Kept) (v : Listing) (gone : ℕ) → gone ≤ v.1 + 1 → length v.0 ≤ gone → Relists slab (with_gone v) ([], 0, 0)
cleared slab v gone few all = record {
  listed = λ made places s. record {
    there = sym (none_stand slab v.0 (omega (arith, s.gone, few, all))) ∙ s.there;
    gone = omega arith;
    passed = none_within (λ p. is_standing slab p ≡ false) [];
    below = All-nil (λ (p : Place). p.made < made);
    front = omega arith;
  };
}

-- fewer are counted as gone
pub fewer_gone : (slab : Slab Kept) (v : Listing) (gone : ℕ) → gone ≤ v.1 + 1 → Relists slab (with_gone v) (v.0, gone, v.2)
fewer_gone slab v gone few = record {
  listed = λ made places s. record {
    there = s.there;
    gone = omega (arith, s.gone, few);
    passed = s.passed;
    below = s.below;
    front = s.front;
  };
}

pub relists_both : (slab : Slab Kept) (u v w : Listing) → Relists slab u v → Relists slab v w → Relists slab u w
relists_both slab u v w one two = record { listed = λ made places s. two.listed made places (one.listed made places s) }

-- ---- a row is added

same_standing : (slab new : Slab Kept) (n : ℕ) (places : List Place) → ((q : Place) → q.made < n → row_of new q ≡ row_of slab q) → All (λ q. q.made < n) places → (standing new places ≡ standing slab places) × (filter (is_gone new) places ≡ filter (is_gone slab) places)
same_standing slab new n [] same below = (refl, refl)
same_standing slab new n (p ∷ places) same below =
    let here : is_standing new p ≡ is_standing slab p = ap (λ (r : Option Row). is_some r) (same p (All-head (λ (q : Place). q.made < n) p places below)) in
    let rest = same_standing slab new n places same (All-tail (λ (q : Place). q.made < n) p places below) in
    by_test (is_standing slab p) _
    (λ stands. let also : is_standing new p ≡ true = here ∙ stands in rw (stands, also) (ap (λ ps. p ∷ ps) rest.0, rest.1))
    (λ gone. let also : is_standing new p ≡ false = here ∙ gone in rw (gone, also) (rest.0, ap (λ ps. p ∷ ps) rest.1))

-- another slot lists what it listed
pub listed_on : (slab new : Slab Kept) (p : Place) (row : Row) (v : Listing) (places : List Place) → IsAdded slab new p row → IsListed slab p.made v places → IsListed new (p.made + 1) v places
listed_on slab new p row v places added s =
    let same = same_standing slab new p.made v.0 added.others s.below in record {
      there = same.0 ∙ s.there;
      gone = subst (λ ps. v.1 ≤ length ps) (sym same.1) s.gone;
      passed = λ k d low high. ap (λ (r : Option Row). is_some r) (added.others (get_or v.0 k d) (s.below k d (omega (arith, high, s.front)))) ∙ s.passed k d low high;
      below = All-weaker (λ (q : Place). q.made < p.made) (λ (q : Place). q.made < p.made + 1) (λ q b. omega (arith, b)) v.0 s.below;
      front = s.front;
    }

-- the slot of the added row has its place after the others
pub listed_behind : (slab new : Slab Kept) (p : Place) (row : Row) (v : Listing) (places : List Place) → IsAdded slab new p row → IsListed slab p.made v places → IsListed new (p.made + 1) (v.0 ++ p ∷ [], v.1, v.2) (places ++ p ∷ [])
listed_behind slab new p row v places added s =
    let on = listed_on slab new p row v places added s in
    let here : is_standing new p ≡ true = ap (λ (r : Option Row). is_some r) added.here in record {
      there = filter-append (is_standing new) v.0 (p ∷ []) ∙ ap (λ ps. ps ++ standing new (p ∷ [])) on.there ∙ rw here refl;
      gone = let all : length (filter (is_gone new) (v.0 ++ p ∷ [])) ≡ length (filter (is_gone new) v.0) + length (filter (is_gone new) (p ∷ [])) = ap length (filter-append (is_gone new) v.0 (p ∷ [])) ∙ length-append (filter (is_gone new) v.0) (filter (is_gone new) (p ∷ [])) in
          omega (arith, on.gone, all);
      passed = λ k d low high. ap (is_standing new) (get_or_append_left v.0 (p ∷ []) d k (omega (arith, high, s.front))) ∙ on.passed k d low high;
      below = All-push (λ (q : Place). q.made < p.made + 1) v.0 p on.below (omega arith);
      front = omega (arith, s.front, length-append v.0 (p ∷ []));
    }

-- ---- a row is taken out

-- only its place no longer stands
stands_less : (slab new : Slab Kept) (at : ℕ) → Updates slab new at None → (p : Place) → is_standing new p ≡ (is_standing slab p && not (p.at == at))
stands_less slab new at updates p =
    by_test (p.at == at) _
    (λ same. let none : get new p.at ≡ None = ap (get new) (eqb-true p.at at same) ∙ updates.changed in
    ap (λ (s : Option Kept). is_some (if_made p.made s)) none ∙ sym (ap (λ b. is_standing slab p && not b) same ∙ never (is_standing slab p)))
    (λ other. ap (λ (s : Option Kept). is_some (if_made p.made s)) (updates.others p.at (λ e. true≢false (sym (eq-eqb _ _ e) ∙ other))) ∙ sym (ap (λ b. is_standing slab p && not b) other ∙ always (is_standing slab p)))
  where
    never : (b : Bool) → (b && not true) ≡ false
    never true = refl
    never false = refl

    always : (b : Bool) → (b && not false) ≡ b
    always true = refl
    always false = refl

standing_less : (slab new : Slab Kept) (at : ℕ) → Updates slab new at None → (places : List Place) → standing new places ≡ filter (λ (p : Place). not (p.at == at)) (standing slab places)
standing_less slab new at updates [] = refl
standing_less slab new at updates (p ∷ places) =
    let less : is_standing new p ≡ (is_standing slab p && not (p.at == at)) = stands_less slab new at updates p in
    let rest : standing new places ≡ filter (λ (q : Place). not (q.at == at)) (standing slab places) = standing_less slab new at updates places in
    by_test (is_standing slab p) _
    (λ stood. by_test (p.at == at) _
    (λ same. let gone : is_standing new p ≡ false = less ∙ rw (stood, same) refl in rw (gone, stood, same) rest)
    (λ other. let stands : is_standing new p ≡ true = less ∙ rw (stood, other) refl in rw (stands, stood, other) (ap (λ ps. p ∷ ps) rest)))
    (λ went. let gone : is_standing new p ≡ false = less ∙ rw went refl in rw (gone, went) rest)

-- after the row at a key is removed, the places that are gone are those that were, and those at which this row was
gone_more : (slab new : Slab Kept) (at : ℕ) → Updates slab new at None → (places : List Place) → length (filter (is_gone new) places) ≡ length (filter (is_gone slab) places) + length (filter (λ (p : Place). p.at == at) (standing slab places))
gone_more slab new at updates [] = refl
gone_more slab new at updates (p ∷ places) =
    let less : is_standing new p ≡ (is_standing slab p && not (p.at == at)) = stands_less slab new at updates p in
    let rest : length (filter (is_gone new) places) ≡ length (filter (is_gone slab) places) + length (filter (λ (q : Place). q.at == at) (standing slab places)) = gone_more slab new at updates places in
    by_test (is_standing slab p) _
    (λ stood. by_test (p.at == at) _
    (λ same. let gone : is_standing new p ≡ false = less ∙ rw (stood, same) refl in rw (gone, stood, same) (omega (arith, rest)))
    (λ other. let stands : is_standing new p ≡ true = less ∙ rw (stood, other) refl in rw (stands, stood, other) rest))
    (λ went. let gone : is_standing new p ≡ false = less ∙ rw went refl in rw (gone, went) (omega (arith, rest)))

-- a slot lists what is left, and so it does where its row counts as gone
pub listed_less : (slab new : Slab Kept) (at made : ℕ) (v : Listing) (places : List Place) → Updates slab new at None → IsListed slab made v places → IsListed new made v (filter (λ (p : Place). not (p.at == at)) places)
listed_less slab new at made v places updates s = record {
  there = standing_less slab new at updates v.0 ∙ ap (filter (λ (p : Place). not (p.at == at))) s.there;
  gone = omega (arith, s.gone, gone_more slab new at updates v.0);
  passed = λ k d low high. stands_less slab new at updates (get_or v.0 k d) ∙ ap (λ b. b && not ((get_or v.0 k d).at == at)) (s.passed k d low high);
  below = s.below;
  front = s.front;
}

pub listed_lost : (slab new : Slab Kept) (at made : ℕ) (v : Listing) (places : List Place) → Updates slab new at None → 0 < length (filter (λ (p : Place). p.at == at) places) → IsListed slab made v places → IsListed new made (with_gone v) (filter (λ (p : Place). not (p.at == at)) places)
listed_lost slab new at made v places updates some s =
    let less = listed_less slab new at made v places updates s in
    let own : 0 < length (filter (λ (p : Place). p.at == at) (standing slab v.0)) = subst (λ ps. 0 < length (filter (λ (p : Place). p.at == at) ps)) (sym s.there) some in record {
      there = less.there;
      gone = omega (arith, s.gone, gone_more slab new at updates v.0, own);
      passed = less.passed;
      below = less.below;
      front = less.front;
    }
