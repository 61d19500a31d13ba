-- Going once through places and the places that are listed, both in ascending order.
use Rattle.std.specs.Prelude.{ℕ, zero, suc, ◌≡◌, ◌≢◌, ◌+◌, ◌<◌, ◌≤◌, cond, Bool, true, false, nat_eq, IfSome, IsTrue, Option, Some, None, List, [], ◌∷◌, length, take, slice_get, All}
use Rattle.std.proofs.Common.{arith, get_or, refl, sym, ap, ap₂, ◌∙◌, inl, inr}
use Rattle.std.proofs.lemmas.Bool.{eq-eqb, eqb-true, ne_eqb, cases_lt}
use Rattle.std.proofs.lemmas.List.{get_or_default, get_or-take, length-take-le}
use Rattle.std.proofs.lemmas.List.Elements.{All-more}
use Rattle.std.proofs.lemmas.Option.{slice_get_within, get_or_from_slice_get}
use Rattle.mcode.specs.Kind.{is_below}
use Rattle.mcode.specs.Program.{Rise, place_number, with_number}
use Rattle.mcode.specs.declared.kind.Kind.{Kind}
use Rattle.mcode.specs.declared.kind.Kind.TheVariants as kind
use Rattle.mcode.proofs.RiseLemmas.{number_found, number_missing, rise_rest, rise_first, rise_apart}
use Rattle.verifier_types.specs.Shape.{place_kind}
use Rattle.verifier_types.specs.Kept.{AreListedAbove}
use Rattle.verifier_types.proofs.ShapeLemmas.{Place, found_kind}

-- the place with this number and this kind
abbrev placed : ℕ → Kind → Option Place
placed n k = Some (n, k)

-- the kind of a place if it has this number, else Any
abbrev kind_here : Option Place → ℕ → Kind
kind_here None n = kind.Any
kind_here (Some place) n = cond (nat_eq place.0 n) place.1 kind.Any

-- the place at this index is the first with this number or a greater one
pub record IsFirstFrom (places : List Place) (n i : ℕ) : Type 0 where
  pub before : All (λ place. place_number place < n) (take i places)
  pub here : IfSome (slice_get places i) (λ place. n ≤ place_number place)

-- of the places only the first one with this number or a greater one can have this number
first_kind : (places : List Place) (n i : ℕ) → Rise place_number places → IsFirstFrom places n i → kind_here (slice_get places i) n ≡ place_kind places n
first_kind [] n i up first = refl
first_kind ((m, k) ∷ places) n zero up first = elim (cases_lt n m) [
  | inl h ↦
      let other : m ≢ n = λ e. absurd (omega (arith, h, e)) in
      let none = number_missing place_number places n (λ j d inside same.
      let later = rise_first place_number (m, k) places up j d inside in
      absurd (omega (arith, later, same, h))) in
      ap (λ b. cond b k kind.Any) (ne_eqb m n other)
      ∙ ap found_kind none
      ∙ sym (ap (λ b. found_kind (cond b (Some (m, k)) (with_number place_number places n))) (ne_eqb m n other))
  | inr h ↦
      let same : m ≡ n = omega (arith, h, first.here) in
      ap (λ b. cond b k kind.Any) (eq-eqb m n same)
      ∙ sym (ap (λ b. found_kind (cond b (Some (m, k)) (with_number place_number places n))) (eq-eqb m n same))
]
first_kind ((m, k) ∷ places) n (suc i) up first =
    let low : m < n = first.before zero (m, k) (omega arith) in
    first_kind places n i (rise_rest place_number (m, k) places up) (record { before = λ j d inside. first.before (suc j) d (omega arith); here = first.here })
    ∙ sym (ap (λ b. found_kind (cond b (Some (m, k)) (with_number place_number places n))) (ne_eqb m n (λ e. absurd (omega (arith, low, e)))))

-- a kind is below itself
below_self : (k : Kind) → IsTrue (is_below k k)
below_self kind.Any = refl
below_self kind.Int = refl
below_self kind.Bool = refl
below_self kind.Cons = refl
below_self kind.Map = refl
below_self (kind.Tuple n) = eq-eqb n n refl

-- a kind that is below another one than Any is that one
below_only_self : (k l : Kind) → l ≢ kind.Any → IsTrue (is_below k l) → k ≡ l
below_only_self k kind.Any other below = absurd (other refl)
below_only_self kind.Int kind.Int other below = refl
below_only_self kind.Bool kind.Bool other below = refl
below_only_self kind.Cons kind.Cons other below = refl
below_only_self kind.Map kind.Map other below = refl
below_only_self (kind.Tuple m) (kind.Tuple n) other below = ap kind.Tuple (eqb-true m n below)
below_only_self k l other below = absurd (cc)

-- the kind of a listed place that is among the places
pub here_below : (places : List Place) (i : ℕ) (entry : Place) → Rise place_number places → IsFirstFrom places (place_number entry) i → slice_get places i ≡ Some entry → IsTrue (is_below (place_kind places (place_number entry)) entry.1)
here_below places i (n, k) up first is =
    let kind_is : kind_here (Some (n, k)) n ≡ k = ap (λ b. cond b k kind.Any) (eq-eqb n n refl) in
    let same : place_kind places n ≡ k = sym (first_kind places n i up first) ∙ ap (λ o. kind_here o n) is ∙ kind_is in
    rw same (below_self k)

-- only a place that is among the places is listed with a kind other than Any that is equal to its kind there or above
pub below_here : (places : List Place) (i : ℕ) (entry : Place) → Rise place_number places → IsFirstFrom places (place_number entry) i → entry.1 ≢ kind.Any → IsTrue (is_below (place_kind places (place_number entry)) entry.1) → slice_get places i ≡ Some entry
below_here places i (n, k) up first other below =
    let below = rw (← first_kind places n i up first) at below in
    by (slice_get places i) other (below_only_self (kind_here (slice_get places i) n) k other below)
  where
    by : (o : Option Place) → k ≢ kind.Any → kind_here o n ≡ k → o ≡ placed n k
    by None other same = absurd (other (sym same))
    by (Some (m, j)) other same = apart (nat_eq m n) refl other same
      where
        apart : (b : Bool) → nat_eq m n ≡ b → k ≢ kind.Any → cond b j kind.Any ≡ k → placed m j ≡ placed n k
        apart true test other same = ap₂ placed (eqb-true m n test) same
        apart false test other same = absurd (other (sym same))

-- the first places, so many, are below each listed place from one on
pub record ArePassed (places listed : List Place) (next from : ℕ) : Type 0 where
  pub below : (j : ℕ) (d : Place) → from ≤ j → j < length listed → All (λ place. place_number place < place_number (get_or listed j d)) (take next places)

-- a later listed place is above an earlier one
later_above : (listed : List Place) (i j : ℕ) (x d : Place) → Rise place_number listed → x ≡ get_or listed i x → i < j → j < length listed → place_number x < place_number (get_or listed j d)
later_above listed i j x d up is before inside =
    let later = rise_apart place_number listed up i j d before inside in
    let here = get_or_default listed i d x (omega (arith, before, inside)) in
    omega (arith, later, ap place_number here, ap place_number is)

-- places that are below one listed place are below each later one
pub passed_more : (places listed : List Place) (next i : ℕ) (x : Place) → Rise place_number listed → x ≡ get_or listed i x → All (λ place. place_number place < place_number x) (take next places) → ArePassed places listed next (i + 1)
passed_more places listed next i x up is low = record {
  below = λ j d from inside k e there.
      let later = later_above listed i j x d up is (omega (arith, from)) inside in
      omega (arith, low k e there, later);
}

-- so is the place that is that listed place
pub passed_one : (places listed : List Place) (next i : ℕ) (x : Place) → Rise place_number listed → x ≡ get_or listed i x → All (λ place. place_number place < place_number x) (take next places) → slice_get places next ≡ Some x → ArePassed places listed (next + 1) (i + 1)
passed_one places listed next i x up is low here = record {
  below = λ j d from inside.
      let later = later_above listed i j x d up is (omega (arith, from)) inside in
      let found = get_or_from_slice_get places next x x here in
      All-more (λ place. place_number place < place_number (get_or listed j d)) places next x (slice_get_within places next x here)
      ((passed_more places listed next i x up is low).below j d from inside) (rw found later);
}

-- places that are listed with their kinds are listed so
pub front_above : (places listed : List Place) (n : ℕ) → Rise place_number places → n ≤ length places → take n places ≡ take n listed → AreListedAbove places (take n listed)
front_above places listed n up inside same = rw (← same) (λ i d there.
    let before : i < n = omega (arith, there, length-take-le n places inside) in
    let entry = get_or places i d in
    let found = ap found_kind (number_found place_number places (place_number entry) i d up (omega (arith, before, inside)) refl) in
    rw (get_or-take n places i d before) (rw (← found) (below_self entry.1)))

-- places that are the first listed ones are below each later one
pub front_passed : (places listed : List Place) (n : ℕ) → Rise place_number listed → n ≤ length listed → take n places ≡ take n listed → ArePassed places listed n n
front_passed places listed n up inside same = record {
  below = λ j d from within. rw same (λ k e there.
      let before : k < n = omega (arith, there, length-take-le n listed inside) in
      let later = rise_apart place_number listed up k j d (omega (arith, before, from)) within in
      let here = get_or-take n listed k e before ∙ get_or_default listed k e d (omega (arith, before, inside)) in
      omega (arith, ap place_number here, later));
}
