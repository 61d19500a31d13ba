-- What a visit adds to the keys that a walk has done, and where the walk is after it.
use Rattle.std.proofs.Common.{zero, suc, ◌≡◌, ◌≢◌, ℕ, ◌+◌, ◌/◌, ◌<◌, ◌≤◌, ◌⊎◌, inl, inr, refl, ap, sym, subst, ◌∙◌, arith, List, [], ◌∷◌, ◌++◌, length}
use Rattle.std.specs.Prelude.{Bool, true, false, not, ◌&&◌, ◌||◌, ◌==◌, if◌then◌else◌, nat_lt, nat_le, get_or, take, Option, Some, None}
use Rattle.std.specs.List.{IsDistinct, AllByRecursion}
use Rattle.std.specs.Ordering.{is_lt}
use Rattle.std.specs.declared.cmp.Ordering.{Ordering}
use Rattle.std.specs.declared.cmp.Ordering.TheVariants.{Less, Equal, Greater}
use Rattle.std.proofs.lemmas.Bool.{true≢false, and_parts, eqb-true, eqb-false, eq-eqb, ltb-true, ltb-false, lt-ltb, le-ltb, le-leb}
use Rattle.std.proofs.lemmas.List.{take_more}
use Rattle.std.proofs.lemmas.Map.Keys.{IsDistinct-head, IsDistinct-tail}
use Rattle.std.proofs.lemmas.Nat.{mod_below}
use Rattle.term_core.specs.Datum.{Datum}
use Rattle.term_core.specs.Datum.Datum.{nil}
use Rattle.term_core.specs.KeyHash.{key_hash}
use Rattle.term_core.specs.Order.{datum_cmp}
use Rattle.term_core.specs.OrderLaws.{datum_cmp_total}
use Rattle.term_operand.specs.Order.{is_same}
use Rattle.part_core.specs.declared.settings.Settings.{Settings}
use Rattle.part_core.specs.Acts.{Cursor}
use Rattle.part_core.specs.Acts.Cursor.{Class, Behind}
use Rattle.part_core.specs.Settings.{is_ordered, part_of, class_at}
use Rattle.part_core.specs.Covers.{covers, is_up_to}
use Rattle.part_core.specs.Laws.{LeadsTo}
use Rattle.part_core.specs.Visits.{is_beyond}
use Rattle.part_core.proofs.KeyLemmas.{by_test, same_keys, same_is, same_from}
use Rattle.tables.specs.Options.{settings_of}
use Rattle.tables.specs.Turns.{Views}
use Rattle.walk_core.specs.Walk.{Walk, Position, IsWalk, IsPosition, IsPlan, scope_at, scope_from, next_position, named_at, named_count, is_among, is_named_below, is_in_parts, is_passed, is_all, is_done, is_covered}
use Rattle.walk_core.specs.Walk.Position.{InPart, AtNamed, Over}

-- ---- a cursor, and what a visit after it covers

or_true : (b : Bool) → (b || true) ≡ true
or_true true = refl
or_true false = refl

less_is : (r : Ordering) → is_lt r ≡ true → r ≡ Less
less_is Less h = refl
less_is Equal h = cc
less_is Greater h = cc

-- a key that is after another is after all keys that the other is after
behind_further : (j k l : Datum) → is_beyond j k ≡ true → is_beyond k l ≡ true → is_beyond j l ≡ true
behind_further j k l low high =
    ap is_lt (datum_cmp_total.trans j k l (less_is (datum_cmp j k) low) (less_is (datum_cmp k l) high))

class_more : (x class : ℕ) → nat_lt x (class + 1) ≡ (nat_lt x class || (x == class))
class_more x class =
    by_test (x == class) _
    (λ same. let is = eqb-true x class same in let more : nat_lt x (class + 1) ≡ true = lt-ltb x (class + 1) (omega (arith, is)) in more ∙ sym (ap (λ b. nat_lt x class || b) same ∙ or_true (nat_lt x class)))
    (λ other. let differ = eqb-false x class other in by_test (nat_lt x class) _
    (λ below. let lt = ltb-true x class below in let more : nat_lt x (class + 1) ≡ true = lt-ltb x (class + 1) (omega (arith, lt)) in more ∙ sym (ap (λ b. b || (x == class)) below))
    (λ above. let ge = ltb-false x class above in let most : nat_lt x (class + 1) ≡ false = le-ltb x (class + 1) (above_both x class ge differ) in most ∙ sym (ap (λ b. b || (x == class)) above ∙ other)))
  where
    above_both : (a b : ℕ) → b ≤ a → (a ≡ b → ⊥) → b + 1 ≤ a
    above_both a b ge differ = by_test (nat_lt b a) _ (λ lt. let l = ltb-true b a lt in omega (arith, l)) (λ no_lt. let g = ltb-false b a no_lt in absurd (differ (omega (arith, g, ge))))

first_class : (x : ℕ) → nat_lt x 1 ≡ (x == 0)
first_class x = class_more x 0 ∙ ap (λ b. b || (x == 0)) (le-ltb x 0 (omega arith))

-- if a walk goes on at a cursor, the visit covered the keys that the cursor passes in addition
passed_more : (o : Settings) (base : ℕ) (cursor : Option Cursor) (next : Cursor) (k : Datum) → LeadsTo o base (scope_from cursor) (Some next) → is_passed o (Some next) k ≡ (is_passed o cursor k || covers o (scope_from cursor) (Some next) k)
passed_more o base None next k leads = of (is_ordered o.kind) refl
  where
    ordered_at : (Some next ≡ None) ⊎ ((j : Datum) × (Some next ≡ Some (Behind j))) → is_passed o (Some next) k ≡ is_up_to o (Some next) k
    ordered_at (inl none) = cc
    ordered_at (inr (j, some)) =
        let same : next ≡ Behind j = cc in subst (λ (c : Cursor). is_passed o (Some c) k ≡ is_up_to o (Some c) k) (sym same) refl

    of : (b : Bool) → is_ordered o.kind ≡ b → is_passed o (Some next) k ≡ is_up_to o (Some next) k
    of true is = ordered_at (leads.1 is)
    of false is =
        let some : Some next ≡ Some (Class base 1) = leads.0 is in
        let same : next ≡ Class base 1 = cc in
        subst (λ (c : Cursor). is_passed o (Some c) k ≡ is_up_to o (Some c) k) (sym same) (first_class (class_at o base k))
passed_more o base (Some (Class other class)) next k leads = of (nat_lt (class + 1) other) leads.1
  where
    of : (b : Bool) → Some next ≡ (if b then Some (Class other (class + 1)) else None) → is_passed o (Some next) k ≡ (nat_lt (class_at o other k) class || (class_at o other k == class))
    of true is =
        let same : next ≡ Class other (class + 1) = cc in
        subst (λ (c : Cursor). is_passed o (Some c) k ≡ (nat_lt (class_at o other k) class || (class_at o other k == class))) (sym same) (class_more (class_at o other k) class)
    of false is = cc
passed_more o base (Some (Behind j)) next k (inl none) = cc
passed_more o base (Some (Behind j)) next k (inr (l, is, further)) =
    let same : next ≡ Behind l = cc in
    subst (λ (c : Cursor). is_passed o (Some c) k ≡ (not (is_beyond j k) || (is_beyond j k && is_up_to o (Some c) k))) (sym same)
    (by_test (is_beyond j k) _
    (λ behind. rw behind refl)
    (λ before. by_test (is_beyond l k) _
    (λ past. absurd (true≢false (sym (behind_further j l k further past) ∙ before)))
    (λ short. rw (before, short) refl)))

-- if a walk has reached the end of a part, the visit covered all that was left of it
passed_all : (o : Settings) (base : ℕ) (cursor : Option Cursor) (k : Datum) → LeadsTo o base (scope_from cursor) None → (is_passed o cursor k || covers o (scope_from cursor) None k) ≡ true
passed_all o base None k leads = refl
passed_all o base (Some (Class other class)) k leads =
    by_test (nat_lt (class + 1) other) _
    (λ more. cc)
    (λ last. sym (class_more (class_at o other k) class) ∙ lt-ltb (class_at o other k) (class + 1) (least (ltb-false (class + 1) other last)))
  where
    least : other ≤ class + 1 → class_at o other k < class + 1
    least few = let some : 0 < other = omega (arith, leads.0) in let below : class_at o other k < other = mod_below (key_hash k / o.parts) other some in omega (arith, few, below)
passed_all o base (Some (Behind j)) k leads = either (is_beyond j k)
  where
    either : (b : Bool) → (not b || (b && true)) ≡ true
    either true = refl
    either false = refl

-- ---- keys that are done

-- if the part of a key is `part`, it is not below `part`
same_below : (x part : ℕ) → x == part ≡ true → nat_lt x part ≡ false
same_below x part same = let is = eqb-true x part same in le-ltb x part (omega (arith, is))

other_below : (x part : ℕ) → x == part ≡ false → nat_lt x (part + 1) ≡ nat_lt x part
other_below x part other = class_more x part ∙ ap (λ b. nat_lt x part || b) other ∙ or_false (nat_lt x part)
  where
    or_false : (b : Bool) → (b || false) ≡ b
    or_false true = refl
    or_false false = refl

-- a part whose remaining keys are passed or covered is done
part_done : (from part x : ℕ) (passed covered : Bool) → from ≤ part → (passed || covered) ≡ true → (nat_le from x && nat_lt x (part + 1)) ≡ (((nat_le from x && nat_lt x part) || ((x == part) && passed)) || ((x == part) && covered))
part_done from part x passed covered low all =
    by_test (x == part) _
    (λ same. let is = eqb-true x part same in
    let le : nat_le from x ≡ true = le-leb from x (omega (arith, is, low)) in
    let lt : nat_lt x (part + 1) ≡ true = lt-ltb x (part + 1) (omega (arith, is)) in
    rw (same, le, lt, same_below x part same) (sym all))
    (λ other. rw (other, other_below x part other) (falses (nat_le from x && nat_lt x part)))
  where
    falses : (b : Bool) → b ≡ ((b || false) || false)
    falses true = refl
    falses false = refl

-- the keys that are done when the cursor in a part moves on
cursor_done : (from part x : ℕ) (later passed covered : Bool) → later ≡ (passed || covered) → ((nat_le from x && nat_lt x part) || ((x == part) && later)) ≡ (((nat_le from x && nat_lt x part) || ((x == part) && passed)) || ((x == part) && covered))
cursor_done from part x later passed covered is =
    by_test (x == part) _
    (λ same. rw (same, same_below x part same) (inside (nat_le from x)))
    (λ other. rw other (falses (nat_le from x && nat_lt x part)))
  where
    inside : (b : Bool) → ((b && false) || later) ≡ (((b && false) || passed) || covered)
    inside true = is
    inside false = is

    falses : (b : Bool) → (b || false) ≡ ((b || false) || false)
    falses true = refl
    falses false = refl

among_more : (ks : List Datum) (k j : Datum) → is_among (ks ++ j ∷ []) k ≡ (is_among ks k || is_same k j)
among_more [] k j = or_false (is_same k j)
  where
    or_false : (b : Bool) → (b || false) ≡ b
    or_false true = refl
    or_false false = refl
among_more (i ∷ ks) k j = ap (λ b. is_same k i || b) (among_more ks k j) ∙ or_assoc (is_same k i) (is_among ks k) (is_same k j)
  where
    or_assoc : (a b c : Bool) → (a || (b || c)) ≡ ((a || b) || c)
    or_assoc true b c = refl
    or_assoc false b c = refl

-- the keys that are done when one more named key is done
named_more : (o : Settings) (plan : Option (List Datum)) (n : ℕ) (k : Datum) → n < named_count plan → is_named_below plan (n + 1) k ≡ (is_named_below plan n k || ((part_of o k == part_of o (named_at plan n)) && is_same (named_at plan n) k))
named_more o None n k within = absurd (omega (arith, within))
named_more o (Some ks) n k within =
    ap (λ js. is_among js k) (take_more ks n nil within) ∙ among_more (take n ks) k (get_or ks n nil)
    ∙ ap (λ b. is_among (take n ks) k || b) (same_keys.symm k (get_or ks n nil) ∙ in_part (get_or ks n nil))
  where
    no_part : (b : Bool) → false ≡ (b && false)
    no_part true = refl
    no_part false = refl

    in_part : (j : Datum) → is_same j k ≡ ((part_of o k == part_of o j) && is_same j k)
    in_part j =
        by_test (is_same j k) _
        (λ same. let here : (part_of o k == part_of o j) ≡ true = eq-eqb (part_of o k) (part_of o j) (ap (part_of o) (sym (same_is j k same))) in rw (same, here) refl)
        (λ other. rw other (no_part (part_of o k == part_of o j)))

take_all : (ks : List Datum) (n : ℕ) → length ks ≤ n → take n ks ≡ ks
take_all [] zero most = refl
take_all [] (suc n) most = refl
take_all (k ∷ ks) zero most = absurd (omega (arith, most))
take_all (k ∷ ks) (suc n) most = ap (λ js. k ∷ js) (take_all ks n (omega (arith, most)))

all_named : (w : Walk) (plan : Option (List Datum)) (n : ℕ) (k : Datum) → 0 < named_count plan → named_count plan ≤ n → is_all w plan k ≡ is_named_below plan n k
all_named w None n k some most = absurd (omega (arith, some))
all_named w (Some ks) n k some most = ap (λ js. is_among js k) (sym (take_all ks n most))

-- the keys that are done after a visit are those that were done before, and those that it covers
pub done_next : (w : Walk) (now : Views) (base : ℕ) (at : Position) (next : Option Cursor) (k : Datum) → IsPosition w now at → at ≢ Over → LeadsTo (settings_of w.options) base (scope_at w at) next → is_done w (next_position w at next) k ≡ (is_done w at k || is_covered w at next k)
done_next w now base (InPart part cursor) (Some next) k position more leads =
    let o = settings_of w.options in
    cursor_done w.from part (part_of o k) (is_passed o (Some next) k) (is_passed o cursor k) (covers o (scope_from cursor) (Some next) k) (passed_more o base cursor next k leads)
done_next w now base (InPart part cursor) None k position more leads =
    let o = settings_of w.options in
    let done = part_done w.from part (part_of o k) (is_passed o cursor k) (covers o (scope_from cursor) None k) position.1 (passed_all o base cursor k leads) in
    by_test (nat_lt (part + 1) w.to) _
    (λ further. rw further (falses (is_in_parts w (part + 1) k) (part_of o k == part + 1) ∙ done))
    (λ last. rw (last, position.0) (ap (λ to. is_in_parts w to k) (ends (ltb-false (part + 1) w.to last)) ∙ done))
  where
    falses : (a b : Bool) → (a || (b && false)) ≡ a
    falses true b = refl
    falses false true = refl
    falses false false = refl

    ends : w.to ≤ part + 1 → w.to ≡ part + 1
    ends most = omega (arith, most, position.2)
done_next w now base (AtNamed n) next k position more leads =
    let named = named_more (settings_of w.options) w.plan n k position in
    by_test (nat_lt (n + 1) (named_count w.plan)) _
    (λ further. rw further named)
    (λ last. rw last (all_named w w.plan (n + 1) k (omega (arith, position)) (ltb-false (n + 1) (named_count w.plan) last) ∙ named))
done_next w now base Over next k position more leads = absurd (more refl)

-- ---- no key is done twice

-- a named key isn't equal to one of those before it
not_among : (ks : List Datum) (n : ℕ) (k : Datum) → IsDistinct is_same ks → n < length ks → is_same (get_or ks n nil) k ≡ true → is_among (take n ks) k ≡ false
not_among [] n k distinct within same = absurd (omega (arith, within))
not_among (j ∷ ks) zero k distinct within same = refl
not_among (j ∷ ks) (suc n) k distinct within same =
    by_test (is_same k j) _
    (λ first. absurd (true≢false (sym (equal first) ∙ apart_at (λ i. is_same j i ≡ false) ks n (IsDistinct-head is_same j ks distinct) (omega (arith, within)))))
    (λ other. rw other (not_among ks n k (IsDistinct-tail is_same j ks distinct) (omega (arith, within)) same))
  where
    apart_at : (P : Datum → Type 0) (is : List Datum) (i : ℕ) → AllByRecursion P is → i < length is → P (get_or is i nil)
    apart_at P [] i all below = absurd (omega (arith, below))
    apart_at P (x ∷ is) zero all below = all.0
    apart_at P (x ∷ is) (suc i) all below = apart_at P is i all.1 (omega (arith, below))

    equal : is_same k j ≡ true → is_same j (get_or ks n nil) ≡ true
    equal first = same_from j (get_or ks n nil) (sym (same_is k j first) ∙ sym (same_is (get_or ks n nil) k same))

-- a visit from a cursor covers no key that the cursor has passed
not_passed : (o : Settings) (cursor next : Option Cursor) (k : Datum) → covers o (scope_from cursor) next k ≡ true → is_passed o cursor k ≡ false
not_passed o None next k covered = refl
not_passed o (Some (Class base class)) next k covered = same_below (class_at o base k) class covered
not_passed o (Some (Behind j)) next k covered = rw (and_parts (is_beyond j k) (is_up_to o next k) covered).0 refl

-- a visit covers no key that is done already
pub covered_anew : (w : Walk) (now : Views) (at : Position) (next : Option Cursor) (k : Datum) → IsWalk w → IsPosition w now at → at ≢ Over → is_covered w at next k ≡ true → is_done w at k ≡ false
covered_anew w now (InPart part cursor) next k walk position more covered =
    let o = settings_of w.options in
    let both = and_parts (part_of o k == part) (covers o (scope_from cursor) next k) covered in
    rw (both.0, same_below (part_of o k) part both.0, not_passed o cursor next k both.1) (falses (nat_le w.from (part_of o k)))
  where
    falses : (b : Bool) → ((b && false) || false) ≡ false
    falses true = refl
    falses false = refl
covered_anew w now (AtNamed n) next k walk position more covered = of w.plan walk.plan position (and_parts (part_of (settings_of w.options) k == part_of (settings_of w.options) (named_at w.plan n)) (is_same (named_at w.plan n) k) covered).1
  where
    of : (plan : Option (List Datum)) → IsPlan plan → n < named_count plan → is_same (named_at plan n) k ≡ true → is_named_below plan n k ≡ false
    of None distinct within same = refl
    of (Some ks) distinct within same = not_among ks n k distinct within same
covered_anew w now Over next k walk position more covered = absurd (more refl)
