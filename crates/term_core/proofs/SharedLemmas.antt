-- Rests of lists, and when they share the elements of the list.
use Rattle.std.proofs.Common.{◌≡◌, ℕ, zero, suc, ◌+◌, ◌-◌, ◌<◌, ◌≤◌, Option, Some, None, List, [], ◌∷◌, length, length-drop, get_or, take, drop, refl, sym, ◌∙◌, ap, arith, drop-drop}
use Rattle.std.proofs.lemmas.List.{drop_all}
use Rattle.term_core.specs.Datum.{Datum, items_of, cells, cell_count}
use Rattle.term_core.specs.Datum.Datum.{integer, atom, tuple, map, nil, cons, binary}
use Rattle.std.specs.declared.sync.Arc.{Arc}
use Rattle.term_core.specs.Limits.{depth, items_depth, IsTerm}
use Rattle.term_core.specs.declared.term.Cells.{Cells}
use Rattle.term_core.specs.declared.term.Shape.{Shape}
use Rattle.term_core.specs.declared.term.Shape.TheVariants as shape
use Rattle.term_core.specs.Sizes.{list_limit}
use Rattle.term_core.specs.Parts.{rest_of, IsShared}
use Rattle.term_core.specs.Term.{datum_of, few_items, tail_of, IsFew, IsTail, IsList, IsRest}
use Rattle.term_core.specs.TermFalls.{depth-cells, some_dropped}
use Rattle.term_core.proofs.LimitLemmas.{list-length, cell_count-sound}

-- a datum that is not a cell
abbrev pub IsEnd : Datum → Type 0
IsEnd (cons head tail) = ⊥
IsEnd d = Unit {0}

-- the rest of what has no elements is itself
pub rest_of-end : (n : ℕ) (d : Datum) → IsEnd d → rest_of n d ≡ d
rest_of-end zero d h = refl
rest_of-end (suc n) (integer z) h = refl
rest_of-end (suc n) (atom cs) h = refl
rest_of-end (suc n) (tuple ds) h = refl
rest_of-end (suc n) (map es) h = refl
rest_of-end (suc n) nil h = refl
rest_of-end (suc n) (cons head tail) h = absurd h
rest_of-end (suc n) (binary bs) h = refl

IsTail-end : (t : Option Datum) → IsTail t → IsEnd (tail_of t)
IsTail-end None h = tt
IsTail-end (Some (integer z)) h = tt
IsTail-end (Some (atom cs)) h = tt
IsTail-end (Some (tuple ds)) h = tt
IsTail-end (Some (map es)) h = tt
IsTail-end (Some nil) h = tt
IsTail-end (Some (cons head tail)) h = absurd h
IsTail-end (Some (binary bs)) h = tt

depth-tail : (head tail : Datum) → depth tail ≤ depth (cons head tail)
depth-tail head (integer z) = omega arith
depth-tail head (atom cs) = omega arith
depth-tail head (tuple ds) = omega arith
depth-tail head (map es) = omega arith
depth-tail head nil = omega arith
depth-tail head (cons next tail) = omega arith
depth-tail head (binary bs) = omega arith

tail-IsTerm : (head tail : Datum) → IsTerm (cons head tail) → IsTerm tail
tail-IsTerm head tail t = record { sound = t.sound.2; shallow = let deep = depth-tail head tail in let most = t.shallow in omega arith }

-- the rest of a term is a term
pub rest_of-IsTerm : (n : ℕ) (d : Datum) → IsTerm d → IsTerm (rest_of n d)
rest_of-IsTerm zero d t = t
rest_of-IsTerm (suc n) (integer z) t = t
rest_of-IsTerm (suc n) (atom cs) t = t
rest_of-IsTerm (suc n) (tuple ds) t = t
rest_of-IsTerm (suc n) (map es) t = t
rest_of-IsTerm (suc n) nil t = t
rest_of-IsTerm (suc n) (cons head tail) t = rest_of-IsTerm n tail (tail-IsTerm head tail t)
rest_of-IsTerm (suc n) (binary bs) t = t

-- the rest of a list, given by its elements and a tail that is no list
pub rest_of-cells : (n : ℕ) (ds : List Datum) (t : Option Datum) → IsTail t → rest_of n (cells ds (tail_of t)) ≡ cells (drop n ds) (tail_of t)
rest_of-cells n [] t h = rest_of-end n (tail_of t) (IsTail-end t h) ∙ ap (λ l. cells l (tail_of t)) (sym (drop_all n [] (omega arith)))
rest_of-cells zero (d ∷ ds) t h = refl
rest_of-cells (suc n) (d ∷ ds) t h = rest_of-cells n ds t h

take-all : (xs : List Datum) (n : ℕ) → n ≡ length xs → take n xs ≡ xs
take-all [] zero e = refl
take-all [] (suc n) e = refl
take-all (x ∷ xs) zero e = absurd (omega arith)
take-all (x ∷ xs) (suc n) e = ap (λ l. x ∷ l) (take-all xs n (omega arith))

-- the elements that remain, as a slice has them
pub left-slice : (n : ℕ) (ds : List Datum) → take (length ds - n) (drop n ds) ≡ drop n ds
left-slice n ds = take-all (drop n ds) (length ds - n) (omega (arith, length-drop n ds))

-- if elements remain, the list has more than were passed
pub more_than : (n : ℕ) (ds : List Datum) → 0 < length (drop n ds) → n < length ds
more_than n ds some = omega (arith, length-drop n ds, some)

left-length : (n : ℕ) (ds : List Datum) (t : Option Datum) → IsTail t → cell_count (rest_of n (cells ds (tail_of t))) ≡ length (drop n ds)
left-length n ds t h = ap cell_count (rest_of-cells n ds t h) ∙ sym (list-length (drop n ds) t h)

-- a rest of at most four elements is not shared
pub few_left : (n : ℕ) (ds : List Datum) (t : Option Datum) → IsTail t → length ds ≤ n + 4 → IsShared n (cells ds (tail_of t)) → ⊥
few_left n ds t h few shared = absurd (omega (arith, shared.0, left-length n ds t h, length-drop n ds, few))

-- a rest that is less deep than the list is not shared
pub less_deep : (n depth_of : ℕ) (ds : List Datum) (t : Option Datum) → IsTail t → depth_of ≡ depth (cells ds (tail_of t)) → depth (cells (drop n ds) (tail_of t)) < depth_of → IsShared n (cells ds (tail_of t)) → ⊥
less_deep n depth_of ds t h is less shared =
    absurd (omega (arith, shared.1, ap depth (rest_of-cells n ds t h), is, less))

-- the rest of what is no list is not shared
pub end_left : (n : ℕ) (d : Datum) → IsEnd d → IsShared n d → ⊥
end_left n d end shared = absurd (omega (arith, shared.0, ap cell_count (rest_of-end n d end), no_cells d end))
  where
    no_cells : (d : Datum) → IsEnd d → cell_count d ≡ 0
    no_cells (integer z) h = refl
    no_cells (atom cs) h = refl
    no_cells (tuple ds) h = refl
    no_cells (map es) h = refl
    no_cells nil h = refl
    no_cells (cons head tail) h = absurd h
    no_cells (binary bs) h = refl

-- the rest after some elements, and then after more, is the rest after all of them
pub rest_of-rest : (first count : ℕ) (ds : List Datum) (t : Option Datum) → IsTail t → cells (drop (first + count) ds) (tail_of t) ≡ rest_of count (cells (drop first ds) (tail_of t))
rest_of-rest first count ds t h =
    ap (λ l. cells l (tail_of t)) (sym (drop-drop count first ds))
    ∙ sym (rest_of-cells count (drop first ds) t h)

pub rest-IsTerm : (first count : ℕ) (ds : List Datum) (t : Option Datum) → IsTail t → IsTerm (cells (drop first ds) (tail_of t)) → IsTerm (cells (drop (first + count) ds) (tail_of t))
rest-IsTerm first count ds t h term =
    rw (rest_of-rest first count ds t h) (rest_of-IsTerm count (cells (drop first ds) (tail_of t)) term)

-- the elements that remain are no deeper than all elements
pub dropped-depth : (n : ℕ) (ds : List Datum) → items_depth (items_of (drop n ds)) ≤ items_depth (items_of ds)
dropped-depth zero ds = omega arith
dropped-depth (suc n) [] = omega arith
dropped-depth (suc n) (d ∷ ds) = omega (arith, dropped-depth n ds)

-- a rest as deep as its list satisfies what a shape guarantees
pub rest_kept : (kept n : ℕ) (ds : List Datum) (t : Option Datum) → kept ≡ depth (cells ds (tail_of t)) → length ds ≤ list_limit → IsTail t → 0 < length (drop n ds) → kept ≤ depth (cells (drop n ds) (tail_of t)) → IsRest kept n ds t
rest_kept kept n ds t is few tail some deep =
    let whole = depth-cells ds (tail_of t) (some_dropped n ds some) in
    let left = depth-cells (drop n ds) (tail_of t) some in
    ((omega (arith, is, deep, whole, left, dropped-depth n ds), some, tail), is, few)

-- a whole list is a rest after no elements
pub whole_kept : (kept : ℕ) (ds : List Datum) (t : Option Datum) → IsList kept ds t → IsTerm (cells ds (tail_of t)) → IsRest kept 0 ds t
whole_kept kept ds t list term =
    (list, list.0, omega (arith, list-length ds t list.2, cell_count-sound (cells ds (tail_of t)) term.sound))

-- elements among which one has this depth have at least this depth
pub as_deep : (ds : List Datum) (i : ℕ) (d : Datum) (most : ℕ) → i < length ds → d ≡ get_or ds i d → most ≤ depth d → most ≤ items_depth (items_of ds)
as_deep [] i d most there is deep = absurd (omega arith)
as_deep (e ∷ ds) zero d most there is deep = let same = ap depth is in omega (arith, deep, same)
as_deep (e ∷ ds) (suc i) d most there is deep =
    let rest = as_deep ds i d most (omega arith) is deep in omega (arith, rest)

-- a shape that is a list of one to four, or no list, has no rest that is shared
pub shape_few : {A : Type 0} (s : Shape A) (n : ℕ) → ((d : ℕ) (b : Arc (Cells A) A) → s ≡ shape.List d b → ⊥) → ((d first : ℕ) (b : Arc (Cells A) A) → s ≡ shape.Rest d first b → ⊥) → length (few_items s) ≤ 4 → IsShared n (datum_of s) → ⊥
shape_few (shape.List d b) n list rest few = absurd (list d b refl)
shape_few (shape.Rest d first b) n list rest few = absurd (rest d first b refl)
shape_few (shape.ListOfOne d b) n list rest few = few_left n b.value None tt (omega arith)
shape_few (shape.ListOfTwo d b) n list rest few = few_left n b.value None tt (omega arith)
shape_few (shape.ListOfThree d b) n list rest few = few_left n b.value None tt (omega arith)
shape_few (shape.ListOfFour d b) n list rest few = few_left n b.value None tt (omega arith)
shape_few s n list rest few = end_left n (datum_of s) tt

-- a list of one to four is its elements with no tail
pub few_cells : {A : Type 0} (s : Shape A) → IsFew s → cells (few_items s) nil ≡ datum_of s
few_cells (shape.ListOfOne d b) h = refl
few_cells (shape.ListOfTwo d b) h = refl
few_cells (shape.ListOfThree d b) h = refl
few_cells (shape.ListOfFour d b) h = refl
few_cells s h = absurd h

some_depth : (d : Datum) → 0 < depth d
some_depth (integer z) = omega arith
some_depth (atom cs) = omega arith
some_depth (tuple ds) = omega arith
some_depth (map es) = omega arith
some_depth nil = omega arith
some_depth (cons head tail) = omega arith
some_depth (binary bs) = omega arith

-- a list with an element has at least two levels
pub list_deep : (ds : List Datum) (tail : Datum) → 0 < length ds → 1 < depth (cells ds tail)
list_deep [] tail some = absurd (omega arith)
list_deep (d ∷ ds) tail some = omega (arith, some_depth d)
