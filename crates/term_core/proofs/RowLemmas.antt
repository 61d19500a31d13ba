-- Comparing two rows from the left, one place at a time.
use Rattle.std.proofs.Common.{◌≡◌, ◌≢◌, ℕ, zero, suc, ◌+◌, ◌<◌, ◌≤◌, max, Option, None, Some, List, [], ◌∷◌, length, get_or, drop, refl, ap, sym, ◌∙◌, arith, add-one}
use Rattle.std.specs.declared.cmp.Ordering.{Ordering}
use Rattle.std.specs.declared.cmp.Ordering.TheVariants.{Less, Equal, Greater}
use Rattle.std.specs.Ordering.{ordering_then, nat_cmp}
use Rattle.std.specs.Cmp.{nat_cmp_is}
use Rattle.std.proofs.lemmas.Cmp.{ranked}
use Rattle.term_core.specs.Datum.{Datum, items_of, entries_of, cells, item_count, entry_count, IsNoList}
use Rattle.term_core.specs.Datum.Datum.{tuple, map, nil, cons}
use Rattle.term_core.specs.Limits.{depth, items_depth, entries_depth}
use Rattle.term_core.specs.Term.{tail_of, IsTail}
use Rattle.term_core.proofs.LimitLemmas.{item_count-items_of, entry_count-entries_of}
use Rattle.term_core.specs.OrderLaws.{datum_cmp-kinds}
use Rattle.term_core.specs.Order.{rank, datum_cmp, items_cmp, keys_cmp, values_cmp}

-- the first of two comparisons decides if it is not Equal
pub then_first : (o p : Ordering) → o ≢ Equal → ordering_then o p ≡ o
then_first Less p h = refl
then_first Equal p h = absurd (h refl)
then_first Greater p h = refl

-- a row from a place on begins with the element there
pub drop_at : {X : Type 0} (xs : List X) (i : ℕ) (x : X) → i < length xs → x ≡ get_or xs i x → drop i xs ≡ x ∷ drop (suc i) xs
drop_at [] i x h e = absurd (omega arith)
drop_at (y ∷ xs) zero x h e = ap (λ z. z ∷ xs) (sym e)
drop_at (y ∷ xs) (suc i) x h e = drop_at xs i x (omega arith) e

module _ {X Y : Type 0} (f : List X → List Y → Ordering) (cmp : X → Y → Ordering) (step : (x : X) (y : Y) (xs : List X) (ys : List Y) → f (x ∷ xs) (y ∷ ys) ≡ ordering_then (cmp x y) (f xs ys)) where
  at_place : (xs : List X) (ys : List Y) (i : ℕ) (x : X) (y : Y) → i < length xs → i < length ys → x ≡ get_or xs i x → y ≡ get_or ys i y → f (drop i xs) (drop i ys) ≡ ordering_then (cmp x y) (f (drop (suc i) xs) (drop (suc i) ys))
  at_place xs ys i x y hx hy ex ey = rw (drop_at xs i x hx ex, drop_at ys i y hy ey) (step x y (drop (suc i) xs) (drop (suc i) ys))

  -- the first places that differ decide how two rows compare
  pub decided : (xs : List X) (ys : List Y) (i : ℕ) (x : X) (y : Y) (o w : Ordering) → i < length xs → i < length ys → x ≡ get_or xs i x → y ≡ get_or ys i y → o ≡ cmp x y → o ≢ Equal → f (drop i xs) (drop i ys) ≡ w → o ≡ w
  decided xs ys i x y o w hx hy ex ey is differ whole =
      sym (then_first o (f (drop (suc i) xs) (drop (suc i) ys)) differ)
      ∙ ap (λ p. ordering_then p (f (drop (suc i) xs) (drop (suc i) ys))) is
      ∙ sym (at_place xs ys i x y hx hy ex ey)
      ∙ whole

  -- after two places that agree, the rest decides how two rows compare
  pub level : (xs : List X) (ys : List Y) (i : ℕ) (x : X) (y : Y) (w : Ordering) → i < length xs → i < length ys → x ≡ get_or xs i x → y ≡ get_or ys i y → Equal ≡ cmp x y → f (drop i xs) (drop i ys) ≡ w → f (drop (i + 1) xs) (drop (i + 1) ys) ≡ w
  level xs ys i x y w hx hy ex ey is whole =
      rw add-one (ap (λ p. ordering_then p (f (drop (suc i) xs) (drop (suc i) ys))) is ∙ sym (at_place xs ys i x y hx hy ex ey) ∙ whole)

abbrev pub rows_of_items : List Datum → List Datum → Ordering
rows_of_items xs ys = items_cmp (items_of xs) (items_of ys)

pub items_step : (x y : Datum) (xs ys : List Datum) → rows_of_items (x ∷ xs) (y ∷ ys) ≡ ordering_then (datum_cmp x y) (rows_of_items xs ys)
unfolding datum_cmp
items_step x y xs ys = refl

abbrev pub rows_of_keys : List (Datum × Datum) → List (Datum × Datum) → Ordering
rows_of_keys xs ys = keys_cmp (entries_of xs) (entries_of ys)

pub keys_step : (x y : Datum × Datum) (xs ys : List (Datum × Datum)) → rows_of_keys (x ∷ xs) (y ∷ ys) ≡ ordering_then (datum_cmp x.0 y.0) (rows_of_keys xs ys)
unfolding datum_cmp
keys_step x y xs ys = refl

abbrev pub rows_of_values : List (Datum × Datum) → List (Datum × Datum) → Ordering
rows_of_values xs ys = values_cmp (entries_of xs) (entries_of ys)

pub values_step : (x y : Datum × Datum) (xs ys : List (Datum × Datum)) → rows_of_values (x ∷ xs) (y ∷ ys) ≡ ordering_then (datum_cmp x.1 y.1) (rows_of_values xs ys)
unfolding datum_cmp
values_step x y xs ys = refl

abbrev pub rows_of_cells : Datum → Datum → List Datum → List Datum → Ordering
rows_of_cells s t xs ys = datum_cmp (cells xs s) (cells ys t)

pub cells_step : (s t x y : Datum) (xs ys : List Datum) → rows_of_cells s t (x ∷ xs) (y ∷ ys) ≡ ordering_then (datum_cmp x y) (rows_of_cells s t xs ys)
unfolding datum_cmp
cells_step s t x y xs ys = refl

-- an element is no deeper than the deepest of all
pub depth-element : (xs : List Datum) (i : ℕ) (x : Datum) → i < length xs → x ≡ get_or xs i x → depth x ≤ items_depth (items_of xs)
depth-element [] i x h e = absurd (omega arith)
depth-element (y ∷ xs) zero x h e = rw e (omega arith)
depth-element (y ∷ xs) (suc i) x h e = let rest = depth-element xs i x (omega arith) e in omega arith

pub depth-entry : (xs : List (Datum × Datum)) (i : ℕ) (x : Datum × Datum) → i < length xs → x ≡ get_or xs i x → max (depth x.0) (depth x.1) ≤ entries_depth (entries_of xs)
depth-entry [] i x h e = absurd (omega arith)
depth-entry (y ∷ xs) zero x h e = rw e (omega arith)
depth-entry (y ∷ xs) (suc i) x h e = let rest = depth-entry xs i x (omega arith) e in omega arith

nat_cmp-itself : (m n : ℕ) → m ≡ n → nat_cmp m n ≡ Equal
nat_cmp-itself m n e = sym (nat_cmp_is m n Equal e)

-- tuples of the same size compare by their elements, maps by their keys and values
pub tuples-level : (xs ys : List Datum) → length xs ≡ length ys → datum_cmp (tuple (items_of xs)) (tuple (items_of ys)) ≡ items_cmp (items_of xs) (items_of ys)
unfolding datum_cmp
tuples-level xs ys e =
    let same : item_count (items_of xs) ≡ item_count (items_of ys) = omega (arith, item_count-items_of xs, item_count-items_of ys) in
    ap (λ o. ordering_then o (items_cmp (items_of xs) (items_of ys))) (nat_cmp-itself _ _ same)

pub maps-level : (xs ys : List (Datum × Datum)) → length xs ≡ length ys → datum_cmp (map (entries_of xs)) (map (entries_of ys)) ≡ ordering_then (keys_cmp (entries_of xs) (entries_of ys)) (values_cmp (entries_of xs) (entries_of ys))
unfolding datum_cmp
maps-level xs ys e =
    let same : entry_count (entries_of xs) ≡ entry_count (entries_of ys) = omega (arith, entry_count-entries_of xs, entry_count-entries_of ys) in
    ap (λ o. ordering_then o (ordering_then (keys_cmp (entries_of xs) (entries_of ys)) (values_cmp (entries_of xs) (entries_of ys)))) (nat_cmp-itself _ _ same)

-- tuples of two sizes compare by size
pub tuples-sizes : (xs ys : List Datum) (o : Ordering) → o ≡ nat_cmp (length xs) (length ys) → o ≢ Equal → o ≡ datum_cmp (tuple (items_of xs)) (tuple (items_of ys))
unfolding datum_cmp
tuples-sizes xs ys o e differ =
    sym (then_first o (items_cmp (items_of xs) (items_of ys)) differ)
    ∙ ap (λ p. ordering_then p (items_cmp (items_of xs) (items_of ys))) (rw (item_count-items_of xs, item_count-items_of ys) e)

pub maps-sizes : (xs ys : List (Datum × Datum)) (o : Ordering) → o ≡ nat_cmp (length xs) (length ys) → o ≢ Equal → o ≡ datum_cmp (map (entries_of xs)) (map (entries_of ys))
unfolding datum_cmp
maps-sizes xs ys o e differ =
    let rest = ordering_then (keys_cmp (entries_of xs) (entries_of ys)) (values_cmp (entries_of xs) (entries_of ys)) in
    sym (then_first o rest differ) ∙ ap (λ p. ordering_then p rest) (rw (entry_count-entries_of xs, entry_count-entries_of ys) e)

pub items-none : items_cmp (items_of []) (items_of []) ≡ Equal
unfolding datum_cmp
items-none = refl

pub keys-none : keys_cmp (entries_of []) (entries_of []) ≡ Equal
unfolding datum_cmp
keys-none = refl

pub values-none : values_cmp (entries_of []) (entries_of []) ≡ Equal
unfolding datum_cmp
values-none = refl

-- [] compares with the end of a list by rank
pub nil-left : (d : Datum) → nat_cmp 4 (rank d) ≡ datum_cmp nil d
unfolding datum_cmp
nil-left nil = refl
nil-left d = refl

pub nil-right : (d : Datum) → nat_cmp (rank d) 4 ≡ datum_cmp d nil
unfolding datum_cmp
nil-right nil = refl
nil-right d = refl

pub nat_cmp-equal : (m n : ℕ) → nat_cmp m n ≡ Equal → m ≡ n
nat_cmp-equal m n e = ranked m n Equal (sym e)

no_list-rank : (d : Datum) → IsNoList d → rank d ≢ 5
no_list-rank (cons head tail) h e = h
no_list-rank d h e = omega arith

-- a tail does not have the rank of a non-empty list
pub tail-rank : (t : Option Datum) → IsTail t → rank (tail_of t) ≢ 5
tail-rank None h e = omega arith
tail-rank (Some d) h e = no_list-rank d h e

pub ended-left : (s t : Datum) (ys : List Datum) → rank s ≢ 5 → 0 < length ys → nat_cmp (rank s) 5 ≡ datum_cmp s (cells ys t)
ended-left s t [] h some = absurd (omega arith)
ended-left s t (y ∷ ys) h some = datum_cmp-kinds s (cons y (cells ys t)) (λ e. h (nat_cmp-equal (rank s) 5 e))

pub ended-right : (s t : Datum) (xs : List Datum) → rank t ≢ 5 → 0 < length xs → nat_cmp 5 (rank t) ≡ datum_cmp (cells xs s) t
ended-right s t [] h some = absurd (omega arith)
ended-right s t (x ∷ xs) h some = datum_cmp-kinds (cons x (cells xs s)) t (λ e. h (sym (nat_cmp-equal 5 (rank t) e)))

-- terms with the rank of [] are []
pub nil-rank : (d : Datum) → 4 ≡ rank d → Equal ≡ datum_cmp nil d
unfolding datum_cmp
nil-rank nil e = refl
nil-rank d e = absurd (omega arith)
