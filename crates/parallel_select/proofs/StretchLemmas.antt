-- What was gathered from one part after the other, seen as gathered from all: for any marks, each of a key in a part.
use Rattle.std.proofs.Common.{zero, suc, ◌≡◌, ◌≢◌, ℕ, ◌+◌, ◌<◌, ◌≤◌, ◌⊎◌, inl, inr, refl, ap, sym, subst, ◌∙◌, arith, List, [], ◌∷◌, ◌++◌}
use Rattle.std.specs.Prelude.{Bool, true, false, All, AllPairs, Contains, map, flat_map, nat_lt}
use Rattle.std.proofs.lemmas.Bool.{ltb-true, ltb-false}
use Rattle.std.proofs.lemmas.List.{map-append}
use Rattle.std.proofs.lemmas.Grind.{flat_map-append}
use Rattle.std.proofs.lemmas.List.Elements.{All-append, All-head, All-tail, All-weaker, Contains-append_left, Contains-append_right}
use Rattle.std.proofs.lemmas.List.Kept.{AllPairs-cons}

pairs_head : {X : Type 0} (R : X → X → Type 0) (x : X) (xs : List X) → AllPairs R (x ∷ xs) → All (R x) xs
pairs_head R x xs h k d within = h 0 (suc k) d (omega arith) (omega (arith, within))

pairs_tail : {X : Type 0} (R : X → X → Type 0) (x : X) (xs : List X) → AllPairs R (x ∷ xs) → AllPairs R xs
pairs_tail R x xs h i j d lt within = h (suc i) (suc j) d (omega (arith, lt)) (omega (arith, within))

pairs_append : {X : Type 0} (R : X → X → Type 0) (xs ys : List X) → AllPairs R xs → AllPairs R ys → All (λ x. All (R x) ys) xs → AllPairs R (xs ++ ys)
pairs_append R [] ys front rest across = rest
pairs_append R (x ∷ xs) ys front rest across =
    AllPairs-cons R x (xs ++ ys)
    (All-append (R x) xs ys (pairs_head R x xs front) (All-head (λ z. All (R z) ys) x xs across))
    (pairs_append R xs ys (pairs_tail R x xs front) rest (All-tail (λ z. All (R z) ys) x xs across))

-- what was gained from the first parts, part by part
abbrev pub gained_below : {X : Type 0} → (ℕ → List X) → ℕ → List X
gained_below gained zero = []
gained_below gained (suc part) = gained_below gained part ++ gained part

module _ {M K X : Type 0} (key : M → K) (part : K → ℕ) (Q : M → Type 0) (value : M → List X) (R : K → Type 0) where
  -- Marks of the parts from one on, up to another: of distinct keys, in the order of the parts. What was found is what
  -- they found, and each other key of these parts is silent.
  pub record Stretch (from to : ℕ) (found : List X) : Type 0 where
    pub marks : List M
    pub apart : AllPairs (λ l m. key l ≢ key m) marks
    pub ordered : AllPairs (λ l m. part (key l) ≤ part (key m)) marks
    pub inside : All (λ m. (from ≤ part (key m)) × (part (key m) < to)) marks
    pub moments : All Q marks
    pub sum : found ≡ flat_map value marks
    pub silent : (k : K) → from ≤ part k → part k < to → Contains (map key marks) k ⊎ R k

  none : (at : ℕ) → Stretch at at []
  none at = record {
    marks = [];
    apart = λ i j d lt within. absurd (omega (arith, within));
    ordered = λ i j d lt within. absurd (omega (arith, within));
    inside = λ k d within. absurd (omega (arith, within));
    moments = λ k d within. absurd (omega (arith, within));
    sum = refl;
    silent = λ k low high. absurd (omega (arith, low, high));
  }

  met_first : (k : K) (xs ys : List M) → Contains (map key xs) k ⊎ R k → Contains (map key (xs ++ ys)) k ⊎ R k
  met_first k xs ys (inl there) = inl (subst (λ ks. Contains ks k) (sym (map-append key xs ys)) (Contains-append_left (map key xs) (map key ys) k there))
  met_first k xs ys (inr still) = inr still

  met_second : (k : K) (xs ys : List M) → Contains (map key ys) k ⊎ R k → Contains (map key (xs ++ ys)) k ⊎ R k
  met_second k xs ys (inl there) = inl (subst (λ ks. Contains ks k) (sym (map-append key xs ys)) (Contains-append_right (map key xs) (map key ys) k there))
  met_second k xs ys (inr still) = inr still

  -- two adjacent stretches are one
  both : (from at to : ℕ) (xs ys : List X) → from ≤ at → at ≤ to → Stretch from at xs → Stretch at to ys → Stretch from to (xs ++ ys)
  both from at to xs ys low high a b = record {
    marks = a.marks ++ b.marks;
    apart = pairs_append (λ l m. key l ≢ key m) a.marks b.marks a.apart b.apart
        (All-weaker (λ m. (from ≤ part (key m)) × (part (key m) < at)) (λ l. All (λ m. key l ≢ key m) b.marks)
        (λ l here. All-weaker (λ m. (at ≤ part (key m)) × (part (key m) < to)) (λ m. key l ≢ key m) (λ m there same. let is = ap part same in omega (arith, is, here.1, there.0)) b.marks b.inside)
        a.marks a.inside);
    ordered = pairs_append (λ l m. part (key l) ≤ part (key m)) a.marks b.marks a.ordered b.ordered
        (All-weaker (λ m. (from ≤ part (key m)) × (part (key m) < at)) (λ l. All (λ m. part (key l) ≤ part (key m)) b.marks)
        (λ l here. All-weaker (λ m. (at ≤ part (key m)) × (part (key m) < to)) (λ m. part (key l) ≤ part (key m)) (λ m there. omega (arith, here.1, there.0)) b.marks b.inside)
        a.marks a.inside);
    inside = All-append (λ m. (from ≤ part (key m)) × (part (key m) < to)) a.marks b.marks
        (All-weaker (λ m. (from ≤ part (key m)) × (part (key m) < at)) (λ m. (from ≤ part (key m)) × (part (key m) < to)) (λ m here. (here.0, omega (arith, here.1, high))) a.marks a.inside)
        (All-weaker (λ m. (at ≤ part (key m)) × (part (key m) < to)) (λ m. (from ≤ part (key m)) × (part (key m) < to)) (λ m here. (omega (arith, here.0, low), here.1)) b.marks b.inside);
    moments = All-append Q a.marks b.marks a.moments b.moments;
    sum = ap (λ zs. zs ++ ys) a.sum ∙ ap (λ zs. flat_map value a.marks ++ zs) b.sum ∙ sym (flat_map-append value a.marks b.marks);
    silent = λ k from_low to_high. of k (nat_lt (part k) at) refl from_low to_high;
  }
    where
      of : (k : K) (below : Bool) → nat_lt (part k) at ≡ below → from ≤ part k → part k < to → Contains (map key (a.marks ++ b.marks)) k ⊎ R k
      of k true is from_low to_high = met_first k a.marks b.marks (a.silent k from_low (ltb-true (part k) at is))
      of k false is from_low to_high = met_second k a.marks b.marks (b.silent k (ltb-false (part k) at is) to_high)

  -- the stretches of the first parts are one
  pub stretch_below : (parts : ℕ) (gained : ℕ → List X) → ((p : ℕ) → p < parts → Stretch p (p + 1) (gained p)) → (count : ℕ) → count ≤ parts → Stretch 0 count (gained_below gained count)
  stretch_below parts gained each zero inside = none 0
  stretch_below parts gained each (suc count) inside =
      both 0 count (suc count) (gained_below gained count) (gained count) (omega arith) (omega arith)
      (stretch_below parts gained each count (omega (arith, inside)))
      (subst (λ (to : ℕ). Stretch count to (gained count)) (next_is count) (each count (omega (arith, inside))))
    where
      next_is : (n : ℕ) → n + 1 ≡ suc n
      next_is n = omega arith
