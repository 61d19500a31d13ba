-- The element at a place of a tuple, and terms that are no tuple or no map.
use Rattle.std.proofs.Common.{◌≡◌, ℕ, zero, suc, ◌-◌, ◌<◌, ◌≤◌, false, List, [], ◌∷◌, Some, None, get_or, length, refl, sym, ◌∙◌, arith}
use native.Mathlib.Numerals.{unary_clauses}
use Rattle.std.specs.Borrow.{Bor}
use Rattle.term_core.specs.Datum.{Datum, items_of}
use Rattle.term_core.specs.Datum.Datum.{tuple, map}
use Rattle.term_core.specs.Order.{rank}
use Rattle.term_core.specs.Parts.{item_at, field_of, is_tuple_of, is_map}
use Rattle.term_core.specs.View.{shown, IsSplit}
use Rattle.term_core.specs.declared.view.View.{View}
use Rattle.term_core.specs.declared.view.View.TheVariants as view
use Rattle.term_core.proofs.ViewLemmas.{rank-shown, not_tuple, not_map}

item_read : (ds : List Datum) (n : ℕ) (d : Datum) → n < length ds → item_at (items_of ds) n ≡ Some (get_or ds n d)
item_read [] n d inside = absurd (omega arith)
item_read (e ∷ ds) zero d inside = refl
item_read (e ∷ ds) (suc n) d inside = item_read ds n d (omega arith)

-- the element read at a place is the field there
pub field_read : (place : ℕ) (ds : List Datum) (d : Datum) → 0 < place → place - 1 < length ds → field_of place (tuple (items_of ds)) ≡ Some (get_or ds (place - 1) d)
field_read zero ds d some inside = absurd (omega arith)
field_read (suc n) ds d some inside = simp unary_clauses (item_read ds n d (omega (arith, inside)))

item_past : (ds : List Datum) (n : ℕ) → length ds ≤ n → item_at (items_of ds) n ≡ None
item_past [] n past = refl
item_past (d ∷ ds) zero past = absurd (omega (arith, past))
item_past (d ∷ ds) (suc n) past = item_past ds n (omega (arith, past))

-- there is no field after the last element
pub field_past : (ds : List Datum) (n : ℕ) → length ds < n → field_of n (tuple (items_of ds)) ≡ None
field_past ds zero past = refl
field_past ds (suc n) past = item_past ds n (omega (arith, past))

-- there is no field at place 0
pub field_zero : (ds : List Datum) (n : ℕ) → n ≡ 0 → field_of n (tuple (items_of ds)) ≡ None
field_zero ds n is = rw is refl

no_field : (d : Datum) (n : ℕ) → (rank d ≡ 2 → ⊥) → field_of n d ≡ None
no_field (tuple ds) n other = absurd (other refl)
no_field d zero other = refl
no_field d (suc n) other = refl

no_tuple_of : (d : Datum) (n : ℕ) → (rank d ≡ 2 → ⊥) → is_tuple_of n d ≡ false
no_tuple_of (tuple ds) n other = absurd (other refl)
no_tuple_of d n other = refl

no_map : (d : Datum) → (rank d ≡ 3 → ⊥) → is_map d ≡ false
no_map (map es) other = absurd (other refl)
no_map d other = refl

-- a view that is not of a tuple shows a term without fields
pub shown-no_field : {A : Type 0} (v : View A) (n : ℕ) → IsSplit v → ((ds : Bor (List Datum)) → v ≡ view.Tuple ds → ⊥) → field_of n (shown v) ≡ None
shown-no_field v n split other = no_field (shown v) n (λ e. not_tuple v other (sym (rank-shown v split) ∙ e))

pub shown-no_tuple : {A : Type 0} (v : View A) (n : ℕ) → IsSplit v → ((ds : Bor (List Datum)) → v ≡ view.Tuple ds → ⊥) → is_tuple_of n (shown v) ≡ false
shown-no_tuple v n split other = no_tuple_of (shown v) n (λ e. not_tuple v other (sym (rank-shown v split) ∙ e))

-- a view that is not of a map shows a term that is no map
pub shown-no_map : {A : Type 0} (v : View A) → IsSplit v → ((es : Bor (List (Datum × Datum))) → v ≡ view.Map es → ⊥) → is_map (shown v) ≡ false
shown-no_map v split other = no_map (shown v) (λ e. not_map v other (sym (rank-shown v split) ∙ e))
