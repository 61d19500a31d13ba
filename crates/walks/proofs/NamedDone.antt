-- Which named keys of each part a walk that deletes has done, and that a visit looks at another one.
use Rattle.std.proofs.Common.{◌≡◌, ◌≢◌, ◌<◌, ◌≤◌, ◌+◌, ℕ, zero, suc, Some, List, refl, sym, ◌∙◌, ap, arith, length, take, get_or}
use Rattle.std.proofs.Math.Path.{fun_ext}
use Rattle.std.specs.Prelude.{Bool, true, false, ◌&&◌, ◌||◌, ◌==◌, nat_lt}
use Rattle.std.specs.List.{IsDistinct, list_any}
use Rattle.std.proofs.lemmas.Bool.{ltb-false, eq-eqb, ne_eqb}
use Rattle.std.proofs.lemmas.List.{take_all}
use Rattle.std.proofs.lemmas.List.Folds.{list_any_more}
use Rattle.std.proofs.lemmas.Map.Keys.{apart_from_distinct}
use Rattle.term_core.specs.Datum.{Datum}
use Rattle.term_core.specs.Datum.Datum.{nil}
use Rattle.term_operand.specs.Order.{is_same}
use Rattle.part_core.specs.declared.settings.Settings.{Settings}
use Rattle.part_core.specs.Settings.{part_of}
use Rattle.part_core.proofs.KeyLemmas.{by_test, same_is, same_keys}
use Rattle.walk_core.specs.Walk.{Position, at_key}
use Rattle.walk_core.specs.Walk.Position.{AtNamed, Over}
use Rattle.walks.proofs.DoneLemmas.{done_in}

-- ---- the keys that are done after a visit of a named key

-- the keys before the named key, and the key itself, are done
named_next : (o : Settings) (ks : List Datum) (n k : ℕ) → n < length ks
    → done_in o (Some ks) (at_key (n + 1) (length ks)) k ≡ (λ j. (part_of o j == k) && (list_any (is_same j) (take n ks) || is_same (get_or ks n nil) j))
named_next o ks n k within = first ∙ fun_ext more
  where
    first : done_in o (Some ks) (at_key (n + 1) (length ks)) k ≡ (λ j. (part_of o j == k) && list_any (is_same j) (take (n + 1) ks))
    first =
        by_test (nat_lt (n + 1) (length ks)) _
        (λ further. let there : at_key (n + 1) (length ks) ≡ AtNamed (n + 1) = rw further refl in ap (λ (at : Position). done_in o (Some ks) at k) there)
        (λ last. let over : at_key (n + 1) (length ks) ≡ Over = rw last refl in
        ap (λ (at : Position). done_in o (Some ks) at k) over
        ∙ ap {B = Datum → Bool} (λ (js : List Datum) (j : Datum). (part_of o j == k) && list_any (is_same j) js) (sym (take_all (n + 1) ks (ltb-false (n + 1) (length ks) last))))

    more : (j : Datum) → ((part_of o j == k) && list_any (is_same j) (take (n + 1) ks)) ≡ ((part_of o j == k) && (list_any (is_same j) (take n ks) || is_same (get_or ks n nil) j))
    more j =
        ap (λ (b : Bool). (part_of o j == k) && b)
        (list_any_more (is_same j) ks n nil within ∙ ap (λ (b : Bool). list_any (is_same j) (take n ks) || b) (same_keys.symm j (get_or ks n nil)))

-- the keys that are done in the part of the visit
pub named_more : (o : Settings) (ks : List Datum) (n : ℕ) → n < length ks
    → done_in o (Some ks) (at_key (n + 1) (length ks)) (part_of o (get_or ks n nil)) ≡ (λ j. done_in o (Some ks) (AtNamed n) (part_of o (get_or ks n nil)) j || is_same (get_or ks n nil) j)
named_more o ks n within =
    named_next o ks n (part_of o (get_or ks n nil)) within ∙ fun_ext (λ (j : Datum). here j (get_or ks n nil) (list_any (is_same j) (take n ks)))
  where
    of : (a b : Bool) → (a && (b || false)) ≡ ((a && b) || false)
    of true b = refl
    of false b = refl

    here : (j key : Datum) (done : Bool) → ((part_of o j == part_of o key) && (done || is_same key j)) ≡ (((part_of o j == part_of o key) && done) || is_same key j)
    here j key done =
        by_test (is_same key j) _
        (λ same. let inside : (part_of o j == part_of o key) ≡ true = eq-eqb (part_of o j) (part_of o key) (ap (part_of o) (sym (same_is key j same))) in rw (same, inside) refl)
        (λ other. rw other (of (part_of o j == part_of o key) done))

-- at the other parts nothing changes
pub named_elsewhere : (o : Settings) (ks : List Datum) (n k : ℕ) → n < length ks → k ≢ part_of o (get_or ks n nil) → done_in o (Some ks) (at_key (n + 1) (length ks)) k ≡ done_in o (Some ks) (AtNamed n) k
named_elsewhere o ks n k within away =
    named_next o ks n k within ∙ fun_ext (λ (j : Datum). there j (list_any (is_same j) (take n ks)))
  where
    or_false : (b : Bool) → (b || false) ≡ b
    or_false true = refl
    or_false false = refl

    there : (j : Datum) (done : Bool) → ((part_of o j == k) && (done || is_same (get_or ks n nil) j)) ≡ ((part_of o j == k) && done)
    there j done =
        by_test (is_same (get_or ks n nil) j) _
        (λ same. let outside : (part_of o j == k) ≡ false = ne_eqb (part_of o j) k (λ e. away (sym e ∙ ap (part_of o) (sym (same_is (get_or ks n nil) j same)))) in rw outside refl)
        (λ other. rw other (ap (λ (b : Bool). (part_of o j == k) && b) (or_false done)))

-- ---- a key is visited once

none_before : (ks : List Datum) (n m : ℕ) → IsDistinct is_same ks → n < length ks → m ≤ n → list_any (is_same (get_or ks n nil)) (take m ks) ≡ false
none_before ks n zero distinct within few = refl
none_before ks n (suc m) distinct within few =
    let key = get_or ks n nil in
    let next : suc m ≡ m + 1 = omega arith in
    ap (λ (i : ℕ). list_any (is_same key) (take i ks)) next
    ∙ list_any_more (is_same key) ks m nil (omega (arith, within, few))
    ∙ ap (λ (b : Bool). b || is_same key (get_or ks m nil)) (none_before ks n m distinct within (omega (arith, few)))
    ∙ same_keys.symm key (get_or ks m nil) ∙ apart_from_distinct is_same ks m n nil distinct (omega (arith, few)) within

pub named_anew : (o : Settings) (ks : List Datum) (n k : ℕ) → IsDistinct is_same ks → n < length ks → (j : Datum) → is_same (get_or ks n nil) j ≡ true → done_in o (Some ks) (AtNamed n) k j ≡ false
named_anew o ks n k distinct within j same =
    ap (done_in o (Some ks) (AtNamed n) k) (sym (same_is (get_or ks n nil) j same))
    ∙ ap (λ (b : Bool). (part_of o (get_or ks n nil) == k) && b) (none_before ks n n distinct within (omega arith))
    ∙ none_and (part_of o (get_or ks n nil) == k)
  where
    none_and : (b : Bool) → (b && false) ≡ false
    none_and true = refl
    none_and false = refl
