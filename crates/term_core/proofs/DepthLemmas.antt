-- The parts of a term are less deep than the term.
use Rattle.std.proofs.Common.{◌≡◌, ℕ, ◌<◌, ◌≤◌, Option, Some, None, List, length, get_or, refl, ap, arith}
use Rattle.term_core.specs.Datum.{Datum, items_of, entries_of, cells}
use Rattle.term_core.specs.Limits.{depth, items_depth, entries_depth, tail_depth}
use Rattle.term_core.specs.Term.{tail_of, IsTail}
use Rattle.term_core.specs.TermFalls.{depth-cells, tail_depth-no_list}
use Rattle.term_core.proofs.RowLemmas.{depth-element, depth-entry}

-- an element is at most as deep as the deepest of all elements
pub items_depth-at : (ds : List Datum) (i : ℕ) (d : Datum) → i < length ds → d ≡ get_or ds i d → depth d ≤ items_depth (items_of ds)
items_depth-at ds i d h e = depth-element ds i d h e

pub entries_depth-at : (es : List (Datum × Datum)) (i : ℕ) (e : Datum × Datum) → i < length es → e ≡ get_or es i e → (depth e.0 ≤ entries_depth (entries_of es)) × (depth e.1 ≤ entries_depth (entries_of es))
entries_depth-at es i e h is = let deep = depth-entry es i e h is in (omega (arith, deep), omega (arith, deep))

-- the tail depth of a tail that is no list is its depth
pub tail_depth-tail : (t : Option Datum) → IsTail t → tail_depth (tail_of t) ≡ depth (tail_of t)
tail_depth-tail None h = refl
tail_depth-tail (Some d) h = tail_depth-no_list d h

-- the elements and the tail of a list are less deep than the list
pub elements-fall : (ds : List Datum) (t : Option Datum) (d : Datum) → cells ds (tail_of t) ≡ d → 0 < length ds → items_depth (items_of ds) < depth d
elements-fall ds t d is some = omega (arith, depth-cells ds (tail_of t) some, ap depth is)

pub tail-falls : (ds : List Datum) (t : Option Datum) (tail d : Datum) → t ≡ Some tail → cells ds (tail_of t) ≡ d → 0 < length ds → IsTail t → depth tail < depth d
tail-falls ds None tail d e is some no_list = absurd (cc)
tail-falls ds (Some x) tail d e is some no_list =
    let same : x ≡ tail = cc in
    omega (arith, depth-cells ds x some, tail_depth-no_list x no_list, ap depth is, ap depth same)
