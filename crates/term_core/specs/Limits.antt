-- How deep a term is, and what makes a datum a term: integers of 64 bits, characters that are Unicode scalar values,
-- bytes, ascending map keys, and the limits of this engine.
use Rattle.std.specs.Prelude.{ℕ, suc, max, ◌<◌, ◌≤◌, nat_lt, Bool, false, ◌||◌, if◌then◌else◌, Option, Some, None, List, [], ◌∷◌, length, FitsSigned}
use Rattle.std.specs.Int.{w64}
use Rattle.std.specs.Char.{IsScalar}
use Rattle.term_core.specs.Datum.{Datum, Items, Entries, item_count, entry_count, cell_count}
use Rattle.term_core.specs.Datum.Datum.{integer, atom, tuple, map, nil, cons, binary}
use Rattle.term_core.specs.Datum.Items.{no_items, item}
use Rattle.term_core.specs.Datum.Entries.{no_entries, entry}
use Rattle.term_core.specs.Order.{IsBelowFirst}
use Rattle.term_core.specs.Sizes.{depth_limit, atom_limit, tuple_limit, map_limit, list_limit, binary_limit}

abbrev mutual
  -- the depth of a term: 1 if it contains no terms, else one more than the greatest depth of its elements, tail, keys
  -- and values
  pub depth : Datum → ℕ
  depth (integer z) = 1
  depth (atom cs) = 1
  depth (tuple ds) = suc (items_depth ds)
  depth (map es) = suc (entries_depth es)
  depth nil = 1
  depth (cons head tail) = suc (max (depth head) (tail_depth tail))
  depth (binary bs) = 1

  pub items_depth : Items → ℕ
  items_depth no_items = 0
  items_depth (item d ds) = max (depth d) (items_depth ds)

  pub entries_depth : Entries → ℕ
  entries_depth no_entries = 0
  entries_depth (entry k v es) = max (depth k) (max (depth v) (entries_depth es))

  -- the greatest depth among the remaining elements of a list and the tail at their end
  pub tail_depth : Datum → ℕ
  tail_depth (integer z) = 1
  tail_depth (atom cs) = 1
  tail_depth (tuple ds) = suc (items_depth ds)
  tail_depth (map es) = suc (entries_depth es)
  tail_depth nil = 1
  tail_depth (cons head tail) = max (depth head) (tail_depth tail)
  tail_depth (binary bs) = 1

-- code points of which each is a Unicode scalar value
abbrev pub AreScalars : List ℕ → Type 0
AreScalars [] = Unit {0}
AreScalars (c ∷ cs) = IsScalar c × AreScalars cs

abbrev pub AreBytes : List ℕ → Type 0
AreBytes [] = Unit {0}
AreBytes (b ∷ bs) = (b < 256) × AreBytes bs

abbrev mutual
  -- a datum that satisfies all conditions of a term but the one for depth, in each of its parts
  pub IsSound : Datum → Type 0
  IsSound (integer z) = FitsSigned w64 z
  IsSound (atom cs) = (length cs ≤ atom_limit) × AreScalars cs
  IsSound (tuple ds) = (item_count ds ≤ tuple_limit) × AreSound ds
  IsSound (map es) = (entry_count es ≤ map_limit) × ArePairsSound es
  IsSound nil = Unit {0}
  IsSound (cons head tail) =
      (cell_count (cons head tail) ≤ list_limit) × IsSound head × IsSound tail
  IsSound (binary bs) = (length bs ≤ binary_limit) × AreBytes bs

  pub AreSound : Items → Type 0
  AreSound no_items = Unit {0}
  AreSound (item d ds) = IsSound d × AreSound ds

  -- pairs that are sound, with keys in ascending order
  pub ArePairsSound : Entries → Type 0
  ArePairsSound no_entries = Unit {0}
  ArePairsSound (entry k v es) = IsSound k × IsSound v × IsBelowFirst k es × ArePairsSound es

-- a term: sound, and at most 255 deep
pub record IsTerm (d : Datum) : Type 0 where
  pub sound : IsSound d
  pub shallow : depth d ≤ depth_limit

-- whether a datum is longer than the limit of its kind
abbrev pub is_too_long : Datum → Bool
is_too_long (integer z) = false
is_too_long (atom cs) = nat_lt atom_limit (length cs)
is_too_long (tuple ds) = nat_lt tuple_limit (item_count ds)
is_too_long (map es) = nat_lt map_limit (entry_count es)
is_too_long nil = false
is_too_long (cons head tail) = nat_lt list_limit (cell_count (cons head tail))
is_too_long (binary bs) = nat_lt binary_limit (length bs)

-- whether a datum of parts that are terms is deeper or longer than a term may be
abbrev pub is_past_limits : Datum → Bool
is_past_limits d = nat_lt depth_limit (depth d) || is_too_long d

-- a datum made of terms, or None if it exceeds a limit
abbrev pub within_limits : Datum → Option Datum
within_limits d = if is_past_limits d then None else Some d
