-- The pairs that a map is made of, in any order.
use Rattle.std.specs.Prelude.{ℕ, ◌≡◌, ◌<◌, ◌≤◌, Bool, true, not, ◌&&◌, if◌then◌else◌, List, [], ◌∷◌, length, map as map_list, slice_index_or, All, IsPermutation}
use Rattle.term_core.specs.Datum.{Datum, Entries, entries_of}
use Rattle.term_core.specs.Datum.Datum.{map}
use Rattle.term_core.specs.Datum.Entries.{no_entries, entry}
use Rattle.std.specs.List.{list_any}
use Rattle.std.specs.Ordering.{is_lt, eq_by_cmp}
use Rattle.term_core.specs.Order.{IsBelowFirst, datum_cmp}
use Rattle.term_core.specs.Limits.{depth, IsSound}
use Rattle.term_core.specs.Sizes.{depth_limit, map_limit}
use Rattle.term_core.specs.declared.fault.Fault.{Fault}
use Rattle.term_core.specs.declared.fault.Fault.TheVariants.{Memory, TooDeep, TooLong, DuplicateKey}
use Rattle.term_core.specs.Fault.{IsFault, IsTooLong}

-- each key is below the next
abbrev pub AreRising : Entries → Type 0
AreRising no_entries = Unit {0}
AreRising (entry k v es) = IsBelowFirst k es × AreRising es

-- the keys of pairs, in the order of the pairs
abbrev pub keys_of : List (Datum × Datum) → List Datum
keys_of pairs = map_list (λ pair. pair.0) pairs

-- whether no two of these terms are equal
abbrev pub are_apart : List Datum → Bool
are_apart [] = true
are_apart (d ∷ ds) = not (list_any (eq_by_cmp datum_cmp d) ds) && are_apart ds

-- pairs with one more, inserted before the first whose key is above its own
abbrev pub placed : Datum × Datum → List (Datum × Datum) → List (Datum × Datum)
placed pair [] = pair ∷ []
placed pair (other ∷ others) =
    if is_lt (datum_cmp pair.0 other.0) then pair ∷ other ∷ others else other ∷ placed pair others

-- pairs sorted in ascending key order
abbrev pub by_key : List (Datum × Datum) → List (Datum × Datum)
by_key [] = []
by_key (pair ∷ pairs) = placed pair (by_key pairs)

-- the same key occurs at two places among these pairs
pub record HasTwice (pairs : List (Datum × Datum)) : Type 0 where
  pub first : ℕ
  pub second : ℕ
  pub order : first < second
  pub within : second < length pairs
  pub same : (d : Datum × Datum) → (slice_index_or pairs first d).0
      ≡ (slice_index_or pairs second d).0

-- a datum is the map of exactly these pairs, which it has in ascending key order
pub record IsMapOf (pairs : List (Datum × Datum)) (d : Datum) : Type 0 where
  pub entries : List (Datum × Datum)
  pub permutation : IsPermutation pairs entries
  pub rising : AreRising (entries_of entries)
  pub is : d ≡ map (entries_of entries)

-- What a fault says of the pairs of a map. Depth is checked first, then length, then keys that occur twice, and out of
-- memory comes last.
abbrev pub IsMapFault : Fault → List (Datum × Datum) → Type 0
IsMapFault DuplicateKey pairs =
    (depth (map (entries_of pairs)) ≤ depth_limit) × (¬ IsTooLong (map (entries_of pairs)))
    × HasTwice pairs
IsMapFault Memory pairs = IsFault Memory (map (entries_of pairs))
IsMapFault TooDeep pairs = IsFault TooDeep (map (entries_of pairs))
IsMapFault TooLong pairs = IsFault TooLong (map (entries_of pairs))

-- a pair whose key and value are sound
abbrev pub IsPairSound : Datum × Datum → Type 0
IsPairSound pair = IsSound pair.0 × IsSound pair.1

-- the depth of the map of pairs that are within the limits
pub record IsMapDepth (level : ℕ) (pairs : List (Datum × Datum)) : Type 0 where
  pub depth : level ≡ depth (map (entries_of pairs))
  pub shallow : level ≤ depth_limit
  pub short : length pairs ≤ map_limit
  pub sound : All IsPairSound pairs
