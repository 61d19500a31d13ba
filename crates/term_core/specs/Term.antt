-- The datums that the representation of a term stands for, and what the representation guarantees.
use Rattle.std.specs.Prelude.{ℕ, ◌≡◌, ◌<◌, ◌≤◌, List, [], ◌∷◌, ◌++◌, length, take, drop, replicate, Option, Some, None}
use Rattle.std.specs.Str.{chars, IsUtf8}
use Rattle.std.specs.String.{string_bytes}
use Rattle.term_core.specs.Datum.{Datum, items_of, entries_of, cells, IsNoList}
use Rattle.term_core.specs.Datum.Items.{no_items}
use Rattle.term_core.specs.Datum.Datum.{integer, atom, tuple, map, nil, binary}
use Rattle.term_core.specs.Limits.{depth}
use Rattle.term_core.specs.Sizes.{list_limit}
use Rattle.term_core.specs.declared.term.Shape.{Shape}
use Rattle.term_core.specs.declared.term.Shape.TheVariants as shape

-- the tail as a datum, [] where there is none
abbrev pub tail_of : Option Datum → Datum
tail_of None = nil
tail_of (Some d) = d

-- the datum that a shape represents
abbrev pub datum_of : {A : Type 0} → Shape A → Datum
datum_of (shape.Integer z) = integer z
datum_of shape.Nil = nil
datum_of (shape.ShortAtom n bs) = atom (chars (take n bs))
datum_of (shape.MiddleAtom n b) = atom (chars (take n b.value))
datum_of (shape.Atom b) = atom (chars (string_bytes b.value))
datum_of shape.Unit = tuple no_items
datum_of (shape.TupleOfOne d b) = tuple (items_of b.value)
datum_of (shape.TupleOfTwo d b) = tuple (items_of b.value)
datum_of (shape.TupleOfThree d b) = tuple (items_of b.value)
datum_of (shape.TupleOfFour d b) = tuple (items_of b.value)
datum_of (shape.TupleOfFive d b) = tuple (items_of b.value)
datum_of (shape.TupleOfSix d b) = tuple (items_of b.value)
datum_of (shape.Tuple d b) = tuple (items_of b.value.items)
datum_of (shape.ListOfOne d b) = cells b.value nil
datum_of (shape.ListOfTwo d b) = cells b.value nil
datum_of (shape.ListOfThree d b) = cells b.value nil
datum_of (shape.ListOfFour d b) = cells b.value nil
datum_of (shape.List d b) = cells b.value.elements.items (tail_of b.value.tail)
datum_of (shape.Rest d n b) = cells (drop n b.value.elements.items) (tail_of b.value.tail)
datum_of (shape.MapOfOne d b) = map (entries_of (b.value ∷ []))
datum_of (shape.MapOfTwo d b) = map (entries_of b.value)
datum_of (shape.MapOfThree d b) = map (entries_of b.value)
datum_of (shape.MapOfFour d b) = map (entries_of b.value)
datum_of (shape.Map d b) = map (entries_of b.value.items)
datum_of (shape.ShortBinary n bs) = binary (take n bs)
datum_of (shape.MiddleBinary n b) = binary (take n b.value)
datum_of (shape.LargeBinary n b) = binary (take n b.value)
datum_of (shape.Binary b) = binary b.value.items

-- a tail that is not a list, or none
abbrev pub IsTail : Option Datum → Type 0
IsTail None = Unit {0}
IsTail (Some d) = IsNoList d

-- the content of a list that is not empty, with its depth
abbrev pub IsList : ℕ → List Datum → Option Datum → Type 0
IsList kept elements tail =
    (kept ≡ depth (cells elements (tail_of tail))) × (0 < length elements) × IsTail tail

-- a row of this size that begins with these bytes, and has zeros after them
abbrev pub padded : ℕ → List ℕ → List ℕ
padded size bs = take size (bs ++ replicate size 0)

-- an atom that is in its term: at most 14 bytes of UTF-8, with zeros after them
abbrev pub IsShortText : ℕ → List ℕ → Type 0
IsShortText n bs = (n ≤ 14) × (bs ≡ padded 14 (take n bs)) × IsUtf8 (take n bs)

-- an atom that is one block of 32 bytes: it has no room in its term
abbrev pub IsMiddleText : ℕ → List ℕ → Type 0
IsMiddleText n bs = (14 < length (take n bs)) × (n ≤ 32) × IsUtf8 (take n bs)

-- a list of one to four
abbrev pub IsFew : {A : Type 0} → Shape A → Type 0
IsFew (shape.ListOfOne d b) = Unit {0}
IsFew (shape.ListOfTwo d b) = Unit {0}
IsFew (shape.ListOfThree d b) = Unit {0}
IsFew (shape.ListOfFour d b) = Unit {0}
IsFew s = ⊥

-- the elements of a list of one to four, and none of another shape
abbrev pub few_items : {A : Type 0} → Shape A → List Datum
few_items (shape.ListOfOne d b) = b.value
few_items (shape.ListOfTwo d b) = b.value
few_items (shape.ListOfThree d b) = b.value
few_items (shape.ListOfFour d b) = b.value
few_items s = []

-- the content of a list and its rest after n elements, which is as deep as the list
abbrev pub IsRest : ℕ → ℕ → List Datum → Option Datum → Type 0
IsRest kept n elements tail =
    IsList kept (drop n elements) tail
    × (kept ≡ depth (cells elements (tail_of tail)))
    × (length elements ≤ list_limit)

-- What a shape guarantees: an atom is in the smallest form that has room for it. A list has an element and a tail that
-- is no list. Each depth kept is right.
abbrev pub IsKept : {A : Type 0} → Shape A → Type 0
IsKept (shape.Integer z) = Unit {0}
IsKept shape.Nil = Unit {0}
IsKept (shape.ShortAtom n bs) = IsShortText n bs
IsKept (shape.MiddleAtom n b) = IsMiddleText n b.value
IsKept (shape.Atom b) = 32 < length (string_bytes b.value)
IsKept shape.Unit = Unit {0}
IsKept (shape.TupleOfOne d b) = d ≡ depth (tuple (items_of b.value))
IsKept (shape.TupleOfTwo d b) = d ≡ depth (tuple (items_of b.value))
IsKept (shape.TupleOfThree d b) = d ≡ depth (tuple (items_of b.value))
IsKept (shape.TupleOfFour d b) = d ≡ depth (tuple (items_of b.value))
IsKept (shape.TupleOfFive d b) = d ≡ depth (tuple (items_of b.value))
IsKept (shape.TupleOfSix d b) = d ≡ depth (tuple (items_of b.value))
IsKept (shape.Tuple d b) = d ≡ depth (tuple (items_of b.value.items))
IsKept (shape.ListOfOne d b) = IsList d b.value None
IsKept (shape.ListOfTwo d b) = IsList d b.value None
IsKept (shape.ListOfThree d b) = IsList d b.value None
IsKept (shape.ListOfFour d b) = IsList d b.value None
IsKept (shape.List d b) = IsList d b.value.elements.items b.value.tail
IsKept (shape.Rest d n b) = IsRest d n b.value.elements.items b.value.tail
IsKept (shape.MapOfOne d b) = d ≡ depth (map (entries_of (b.value ∷ [])))
IsKept (shape.MapOfTwo d b) = d ≡ depth (map (entries_of b.value))
IsKept (shape.MapOfThree d b) = d ≡ depth (map (entries_of b.value))
IsKept (shape.MapOfFour d b) = d ≡ depth (map (entries_of b.value))
IsKept (shape.Map d b) = d ≡ depth (map (entries_of b.value.items))
IsKept (shape.ShortBinary n bs) = n ≤ 14
IsKept (shape.MiddleBinary n b) = n ≤ 32
IsKept (shape.LargeBinary n b) = n ≤ 48
IsKept (shape.Binary b) = Unit {0}
