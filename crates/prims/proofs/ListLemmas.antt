-- Lists, tuples and maps by their elements.
use Rattle.std.proofs.Common.{◌≡◌, ℕ, zero, suc, ◌+◌, ◌<◌, ◌≤◌, pos, List, [], ◌∷◌, length, refl, sym, ◌∙◌, ap, arith, Option, Some, None, Bor}
use Rattle.std.specs.Prelude.{MatchOption}
use Rattle.std.specs.List.{HoldsAt}
use Rattle.std.specs.Option.{option_map, option_and_then, option_copied}
use Rattle.term_core.specs.Datum.{Datum, items_of, cells, IsNoList}
use Rattle.term_core.specs.Datum.Datum.{integer, atom, tuple, map, nil, cons, binary}
use Rattle.term_core.specs.Term.{tail_of}
use Rattle.prims.specs.Fitting.{fitting}
use Rattle.prims.specs.Tuples.{item_at}
use Rattle.prims.specs.Lists.{element_count, length_of}

-- the number of elements of a list given by its first elements and its tail
pub element_count-cells : (ds : List Datum) (tail : Datum) → element_count (cells ds tail) ≡ option_map (λ n. length ds + n) (element_count tail)
element_count-cells [] tail = none_before (element_count tail)
  where
    none_before : (o : Option ℕ) → o ≡ option_map (λ n. 0 + n) o
    none_before None = refl
    none_before (Some n) = ap Some (omega arith)
element_count-cells (d ∷ ds) tail = ap (option_map suc) (element_count-cells ds tail) ∙ one_more (element_count tail)
  where
    one_more : (o : Option ℕ) → option_map suc (option_map (λ n. length ds + n) o) ≡ option_map (λ n. suc (length ds) + n) o
    one_more None = refl
    one_more (Some n) = ap Some (omega arith)

-- a proper list has its number of elements, and an improper one has none
pub length_of-proper : (ds : List Datum) (t : Option Datum) (d : Datum) → t ≡ None → cells ds (tail_of t) ≡ d → length_of d ≡ fitting (pos (length ds))
length_of-proper ds None d none is =
    ap length_of (sym is)
    ∙ ap (λ o. option_and_then (λ n. fitting (pos n)) o) (element_count-cells ds nil)
    ∙ ap (λ n. fitting (pos n)) (omega arith)
length_of-proper ds (Some x) d some is = absurd (cc)

no_count : (d : Datum) → IsNoList d → element_count d ≡ None
no_count (integer z) h = refl
no_count (atom cs) h = refl
no_count (tuple ds) h = refl
no_count (map es) h = refl
no_count nil h = absurd h
no_count (cons head tail) h = absurd h
no_count (binary bs) h = refl

pub length_of-improper : (ds : List Datum) (tail d : Datum) → IsNoList tail → cells ds tail ≡ d → None ≡ length_of d
length_of-improper ds tail d h is =
    sym (ap (λ o. option_and_then (λ n. fitting (pos n)) o) (element_count-cells ds tail ∙ ap (option_map (λ n. length ds + n)) (no_count tail h)))
    ∙ ap length_of is

-- what `get` returns is the element that has n elements before it
pub item_found : (o : Option (Bor Datum)) (ds : List Datum) (n : ℕ) → MatchOption o (length ds ≤ n) (λ x. (n < length ds) × HoldsAt (λ y. x.now ≡ y) ds n) → option_copied o ≡ item_at (items_of ds) n
item_found None [] n past = refl
item_found None (d ∷ ds) zero past = absurd (omega arith)
item_found None (d ∷ ds) (suc n) past = item_found None ds n (omega arith)
item_found (Some x) [] n found = absurd (omega (arith, found.0))
item_found (Some x) (d ∷ ds) zero found = ap Some (found.1 d)
item_found (Some x) (d ∷ ds) (suc n) found = item_found (Some x) ds n (omega (arith, found.0), found.1)
