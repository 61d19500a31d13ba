-- The last of some pairs, and keys above it.
use Rattle.std.specs.declared.cmp.Ordering.{Ordering}
use Rattle.std.specs.declared.cmp.Ordering.TheVariants.{Less, Equal, Greater}
use Rattle.std.specs.Ordering.{is_lt}
use Rattle.std.specs.Prelude.{slice_get}
use Rattle.std.proofs.Common.{◌≡◌, ℕ, suc, ◌-◌, List, [], ◌∷◌, ◌++◌, length, refl, sym, ap, subst, ◌∙◌, arith, Bool, true, Some}
use Rattle.std.proofs.lemmas.Option.{none-some, same_Some}
use Rattle.term_core.specs.Datum.{Datum}
use Rattle.term_core.specs.Order.{IsBelow, datum_cmp}
use Rattle.term_core.specs.OrderLaws.{IsBelow-less}
use Rattle.term_core.proofs.MapLemmas.{below}
use Rattle.term_order.specs.Keys.{IsAboveKeys}

one_less : (n : ℕ) → suc (suc n) - 1 ≡ suc (suc n - 1)
one_less n = omega arith

pub last_is : {X : Type 0} (xs : List X) (x : X) → Some x ≡ slice_get xs (length xs - 1) → (front : List X) × (xs ≡ front ++ x ∷ [])
last_is [] x is = absurd (none-some x (sym is))
last_is (y ∷ []) x is = ([], ap (λ z. z ∷ []) (sym (same_Some x y is)))
last_is (y ∷ z ∷ xs) x is = let rest = last_is (z ∷ xs) x (is ∙ ap (slice_get (y ∷ z ∷ xs)) (one_less (length xs))) in (y ∷ rest.0, ap (λ zs. y ∷ zs) rest.1)

-- a key above the last of these pairs is what is above that pair's key
above_last : (front : List (Datum × Datum)) (p : Datum × Datum) (key : Datum) → (IsBelow p.0 key → IsAboveKeys (front ++ p ∷ []) key) × (IsAboveKeys (front ++ p ∷ []) key → IsBelow p.0 key)
above_last [] p key = (λ h. h, λ h. h)
above_last (q ∷ []) p key = (λ h. h, λ h. h)
above_last (q ∷ q' ∷ front) p key = above_last (q' ∷ front) p key

less_only : (o : Ordering) → is_lt o ≡ true → o ≡ Less
less_only Less h = refl
less_only Equal h = absurd (cc)
less_only Greater h = absurd (cc)

pub key_above : (ps front : List (Datum × Datum)) (p : Datum × Datum) (key : Datum) (b : Bool) → ps ≡ front ++ p ∷ [] → b ≡ is_lt (datum_cmp p.0 key) → (b ≡ true → IsAboveKeys ps key) × (IsAboveKeys ps key → b ≡ true)
key_above ps front p key b is test = (
  λ so. subst (λ qs. IsAboveKeys qs key) (sym is) ((above_last front p key).0 (below p.0 key (less_only (datum_cmp p.0 key) (sym test ∙ so)))),
  λ above. test ∙ ap is_lt (IsBelow-less p.0 key ((above_last front p key).1 (subst (λ qs. IsAboveKeys qs key) is above))),
)
