-- Limits and depths over lists of parts.
use Rattle.std.proofs.Common.{◌≡◌, ℕ, suc, ◌+◌, ◌<◌, ◌≤◌, max, Option, None, Some, List, [], ◌∷◌, ◌++◌, length, get_or, refl, ap, subst, arith}
use Rattle.term_core.specs.Datum.{Datum, items_of, entries_of, cells, item_count, entry_count, cell_count, IsNoList}
use Rattle.term_core.specs.Datum.Datum.{integer, atom, tuple, map, nil, cons, binary}
use Rattle.term_core.specs.Limits.{tail_depth, items_depth, IsTerm, IsSound, AreSound, AreBytes}
use Rattle.term_core.specs.Term.{tail_of, IsTail, IsList}
use Rattle.term_core.specs.TermFalls.{depth-cells, tail_depth-cells}
use Rattle.term_core.specs.Fault.{IsFault, IsTooLong}
use Rattle.term_core.specs.declared.fault.Fault.{Fault}
use Rattle.term_core.specs.declared.fault.Fault.TheVariants.{Memory, TooDeep, TooLong, DuplicateKey}
use Rattle.term_core.specs.declared.TheConstants.{MAX_DEPTH, MAX_TUPLE, MAX_LIST, MAX_BINARY}

-- numbers of which each is below 256 are bytes
pub AreBytes-each : (bs : List ℕ) → ((i : ℕ) → get_or bs i 0 < 256) → AreBytes bs
AreBytes-each [] h = tt
AreBytes-each (b ∷ bs) h = (h 0, AreBytes-each bs (λ i. h (suc i)))

-- a list of terms has as many elements as the items made of it
pub item_count-items_of : (ds : List Datum) → item_count (items_of ds) ≡ length ds
item_count-items_of [] = refl
item_count-items_of (d ∷ ds) = omega (arith, item_count-items_of ds)

pub entry_count-entries_of : (es : List (Datum × Datum)) → entry_count (entries_of es) ≡ length es
entry_count-entries_of [] = refl
entry_count-entries_of (e ∷ es) = omega (arith, entry_count-entries_of es)

-- a short enough row of bytes makes a binary
pub binary-IsTerm : (bs items : List ℕ) → bs ≡ items → length bs ≤ MAX_BINARY → AreBytes bs → IsTerm (binary items)
binary-IsTerm bs items same short bytes =
    let P : List ℕ → Type 0 = λ xs. IsTerm (binary xs) in
    subst P same (record { sound = (short, bytes); shallow = omega arith })

-- few enough and shallow enough elements make a tuple
pub tuple-IsTerm : (ds items : List Datum) → ds ≡ items → items_depth (items_of ds) < MAX_DEPTH → length ds ≤ MAX_TUPLE → AreSound (items_of ds) → IsTerm (tuple (items_of items))
tuple-IsTerm ds items same shallow short sound =
    let P : List Datum → Type 0 = λ xs. IsTerm (tuple (items_of xs)) in
    subst P same (record { sound = (omega (arith, item_count-items_of ds), sound); shallow = omega arith })

-- the length of a list is the number of its elements and of those of its tail
pub cell_count-cells : (ds : List Datum) (tail : Datum) → cell_count (cells ds tail) ≡ length ds + cell_count tail
cell_count-cells [] tail = omega arith
cell_count-cells (d ∷ ds) tail = omega (arith, cell_count-cells ds tail)

pub cell_count-no_list : (d : Datum) → IsNoList d → cell_count d ≡ 0
cell_count-no_list (integer z) h = refl
cell_count-no_list (atom cs) h = refl
cell_count-no_list (tuple ds) h = refl
cell_count-no_list (map es) h = refl
cell_count-no_list nil h = refl
cell_count-no_list (cons head tail) h = absurd h
cell_count-no_list (binary bs) h = refl

pub cell_count-tail : (t : Option Datum) → IsTail t → cell_count (tail_of t) ≡ 0
cell_count-tail None h = refl
cell_count-tail (Some d) h = cell_count-no_list d h

pub cell_count-sound : (d : Datum) → IsSound d → cell_count d ≤ MAX_LIST
cell_count-sound (integer z) h = omega arith
cell_count-sound (atom cs) h = omega arith
cell_count-sound (tuple ds) h = omega arith
cell_count-sound (map es) h = omega arith
cell_count-sound nil h = omega arith
cell_count-sound (cons head tail) h = h.0
cell_count-sound (binary bs) h = omega arith

-- the number of elements kept is the length of the list
pub list-length : (elements : List Datum) (tail : Option Datum) → IsTail tail → length elements ≡ cell_count (cells elements (tail_of tail))
list-length elements tail h = omega (arith, cell_count-cells elements (tail_of tail), cell_count-tail tail h)

pub list-levels : (kept : ℕ) (elements : List Datum) (tail : Option Datum) → IsList kept elements tail → kept ≡ suc (tail_depth (cells elements (tail_of tail)))
list-levels kept elements tail h = omega (arith, depth-cells elements (tail_of tail) h.1, tail_depth-cells elements (tail_of tail))

cells-sound : (ds : List Datum) (tail : Datum) → AreSound (items_of ds) → IsSound tail → length ds + cell_count tail ≤ MAX_LIST → IsSound (cells ds tail)
cells-sound [] tail sound end short = end
cells-sound (d ∷ ds) tail sound end short =
    (omega (arith, cell_count-cells ds tail), sound.0, cells-sound ds tail sound.1 end (omega arith))

-- few enough and shallow enough elements and a tail make a list
pub cells-IsTerm : (ds : List Datum) (tail : Datum) → 0 < length ds → AreSound (items_of ds) → IsSound tail → length ds + cell_count tail ≤ MAX_LIST → max (items_depth (items_of ds)) (tail_depth tail) < MAX_DEPTH → IsTerm (cells ds tail)
cells-IsTerm ds tail some sound end short shallow =
    record { sound = cells-sound ds tail sound end short; shallow = omega (arith, depth-cells ds tail some) }

-- a list with too many elements is too long
pub cells-long : (ds : List Datum) (tail : Datum) → 0 < length ds → MAX_LIST < length ds + cell_count tail → IsTooLong (cells ds tail)
cells-long [] tail some long = absurd (omega arith)
cells-long (d ∷ ds) tail some long = omega (arith, cell_count-cells ds tail)

pub cells-not_long : (ds : List Datum) (tail : Datum) → length ds + cell_count tail ≤ MAX_LIST → 0 < length ds → ¬ IsTooLong (cells ds tail)
cells-not_long [] tail short some long = absurd (omega arith)
cells-not_long (d ∷ ds) tail short some long = omega (arith, cell_count-cells ds tail)

pub cells-append : (xs ys : List Datum) (tail : Datum) → cells (xs ++ ys) tail ≡ cells xs (cells ys tail)
cells-append [] ys tail = refl
cells-append (x ∷ xs) ys tail = ap (cons x) (cells-append xs ys tail)

not_too_long : (d : Datum) → IsTerm d → IsTooLong d → ⊥
not_too_long (integer z) t h = h
not_too_long (atom cs) t h = let few = t.sound.0 in absurd (omega arith)
not_too_long (tuple ds) t h = let few = t.sound.0 in absurd (omega arith)
not_too_long (map es) t h = let few = t.sound.0 in absurd (omega arith)
not_too_long nil t h = h
not_too_long (cons head tail) t h = let few = t.sound.0 in absurd (omega arith)
not_too_long (binary bs) t h = let few = t.sound.0 in absurd (omega arith)

-- the only fault of what is a term is out of memory
pub term-refused : (f : Fault) (d : Datum) → IsTerm d → IsFault f d → f ≡ Memory
term-refused Memory d t h = refl
term-refused TooDeep d t h = let most = t.shallow in absurd (omega arith)
term-refused TooLong d t h = absurd (not_too_long d t h.1)
term-refused DuplicateKey d t h = absurd h

-- a length that is not at most three is more than three
pub longer : (cs : List ℕ) → (length cs ≤ 3 → ⊥) → 3 < length cs
longer [] h = absurd (h (omega arith))
longer (a ∷ []) h = absurd (h (omega arith))
longer (a ∷ b ∷ []) h = absurd (h (omega arith))
longer (a ∷ b ∷ c ∷ []) h = absurd (h (omega arith))
longer (a ∷ b ∷ c ∷ d ∷ cs) h = omega arith
