-- Each part of a term is less deep than the term.
use Rattle.std.specs.Prelude.{ℕ, zero, ◌≡◌, ◌+◌, ◌<◌, ◌≤◌, suc, max, List, [], ◌∷◌, length, drop, Option, Some, None, refl}
use Rattle.std.proofs.Common.{arith, Vec}
use Rattle.std.specs.declared.alloc.Allocator as allocator
use denote.Param.Weighed.{most}
use Rattle.term_core.specs.declared.term.Shape.{Shape}
use Rattle.term_core.specs.declared.term.Shape.TheVariants as shape
use Rattle.term_core.specs.declared.term.Term.TheDeep.{deep-Shape, deep-Cells}
use Rattle.term_core.specs.Datum.{Datum, items_of, entries_of, cells, IsNoList}
use Rattle.term_core.specs.Datum.Datum.{integer, atom, tuple, map, nil, cons, binary}
use Rattle.term_core.specs.Limits.{depth, tail_depth, items_depth, entries_depth}
use Rattle.term_core.specs.Term.{datum_of, IsKept, IsRest, IsTail, tail_of}

-- the tail depth of a list of these elements and this tail
pub tail_depth-cells : (ds : List Datum) (tail : Datum) → tail_depth (cells ds tail) ≡ max (items_depth (items_of ds)) (tail_depth tail)
tail_depth-cells [] tail = omega arith
tail_depth-cells (d ∷ ds) tail = omega (arith, tail_depth-cells ds tail)

-- a list is one deeper than the deepest of its elements and its tail
pub depth-cells : (ds : List Datum) (tail : Datum) → 0 < length ds → depth (cells ds tail) ≡ suc (max (items_depth (items_of ds)) (tail_depth tail))
depth-cells [] tail h = absurd (omega arith)
depth-cells (d ∷ ds) tail h = omega (arith, tail_depth-cells ds tail)

-- the tail depth of what is no list is its depth
pub tail_depth-no_list : (d : Datum) → IsNoList d → tail_depth d ≡ depth d
tail_depth-no_list (integer z) h = refl
tail_depth-no_list (atom cs) h = refl
tail_depth-no_list (tuple ds) h = refl
tail_depth-no_list (map es) h = refl
tail_depth-no_list nil h = absurd h
tail_depth-no_list (cons head tail) h = absurd h
tail_depth-no_list (binary bs) h = refl

items_fall : (ds : List Datum) → most (λ d. depth d + 1) ds ≤ suc (items_depth (items_of ds))
items_fall [] = omega arith
items_fall (d ∷ ds) = omega (arith, items_fall ds)

entries_fall : (es : List (Datum × Datum)) → most (λ e. max (depth e.0 + 1) (max (depth e.1 + 1) 0)) es ≤ suc (entries_depth (entries_of es))
entries_fall [] = omega arith
entries_fall (e ∷ es) = omega (arith, entries_fall es)

abbrev tail_weight : Option Datum → ℕ
tail_weight None = 0
tail_weight (Some d) = depth d + 1

tail_falls : (t : Option Datum) → IsTail t → tail_weight t ≤ suc (tail_depth (tail_of t))
tail_falls None h = omega arith
tail_falls (Some d) h = omega (arith, tail_depth-no_list d h)

list_falls : (ds : List Datum) (t : Option Datum) → 0 < length ds → IsTail t → max (most (λ d. depth d + 1) ds) (max (tail_weight t) 0) ≤ depth (cells ds (tail_of t))
list_falls ds t some tail = omega (arith, depth-cells ds (tail_of t) some, items_fall ds, tail_falls t tail)

cells_fall : {A : Type 0} (G : allocator.Ghosts A) (elements : Vec Datum A) (t : Option Datum) → 0 < length elements.items → IsTail t → deep-Cells A G (record { elements = elements; tail = t }) ≤ depth (cells elements.items (tail_of t))
cells_fall G elements None some tail = let e = list_falls elements.items None some tail in omega arith
cells_fall G elements (Some d) some tail = let e = list_falls elements.items (Some d) some tail in omega arith

-- where a rest has elements, the list has elements
pub some_dropped : (n : ℕ) (ds : List Datum) → 0 < length (drop n ds) → 0 < length ds
some_dropped zero ds some = some
some_dropped (suc n) [] some = some
some_dropped (suc n) (d ∷ ds) some = omega arith

-- a rest keeps the elements before it, so it has to be as deep as the list
rest_falls : {A : Type 0} (G : allocator.Ghosts A) (n kept : ℕ) (elements : Vec Datum A) (t : Option Datum) → IsRest kept n elements.items t → deep-Cells A G (record { elements = elements; tail = t }) ≤ depth (cells (drop n elements.items) (tail_of t))
rest_falls G n kept elements t rest =
    let e = cells_fall G elements t (some_dropped n elements.items rest.0.1) rest.0.2 in
    omega (arith, rest.0.0, rest.1)

-- no part of a shape is as deep as the term
pub parts_fall : {A : Type 0} (G : allocator.Ghosts A) (s : Shape A) → IsKept s → max (deep-Shape A G s) 0 ≤ depth (datum_of s)
parts_fall G (shape.Integer z) h = omega arith
parts_fall G shape.Nil h = omega arith
parts_fall G (shape.ShortAtom n bs) h = omega arith
parts_fall G (shape.MiddleAtom n b) h = omega arith
parts_fall G (shape.Atom b) h = omega arith
parts_fall G shape.Unit h = omega arith
parts_fall G (shape.TupleOfOne d b) h = let e = items_fall b.value in omega arith
parts_fall G (shape.TupleOfTwo d b) h = let e = items_fall b.value in omega arith
parts_fall G (shape.TupleOfThree d b) h = let e = items_fall b.value in omega arith
parts_fall G (shape.TupleOfFour d b) h = let e = items_fall b.value in omega arith
parts_fall G (shape.TupleOfFive d b) h = let e = items_fall b.value in omega arith
parts_fall G (shape.TupleOfSix d b) h = let e = items_fall b.value in omega arith
parts_fall G (shape.Tuple d b) h = let e = items_fall b.value.items in omega arith
parts_fall G (shape.ListOfOne d b) h = let e = items_fall b.value in omega (arith, depth-cells b.value nil h.1)
parts_fall G (shape.ListOfTwo d b) h = let e = items_fall b.value in omega (arith, depth-cells b.value nil h.1)
parts_fall G (shape.ListOfThree d b) h = let e = items_fall b.value in omega (arith, depth-cells b.value nil h.1)
parts_fall G (shape.ListOfFour d b) h = let e = items_fall b.value in omega (arith, depth-cells b.value nil h.1)
parts_fall G (shape.List d b) h = let e = cells_fall G b.value.elements b.value.tail h.1 h.2 in omega arith
parts_fall G (shape.Rest d n b) h = let e = rest_falls G n d b.value.elements b.value.tail h in omega arith
parts_fall G (shape.MapOfOne d b) h = omega arith
parts_fall G (shape.MapOfTwo d b) h = let e = entries_fall b.value in omega arith
parts_fall G (shape.MapOfThree d b) h = let e = entries_fall b.value in omega arith
parts_fall G (shape.MapOfFour d b) h = let e = entries_fall b.value in omega arith
parts_fall G (shape.Map d b) h = let e = entries_fall b.value.items in omega arith
parts_fall G (shape.ShortBinary n bs) h = omega arith
parts_fall G (shape.MiddleBinary n b) h = omega arith
parts_fall G (shape.LargeBinary n b) h = omega arith
parts_fall G (shape.Binary b) h = omega arith
