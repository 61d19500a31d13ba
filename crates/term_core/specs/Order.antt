-- The order of terms (Erlang Reference Manual, "Term Comparisons", without floats):
-- number < atom < tuple < map < [] < non-empty list < binary.
use Rattle.std.specs.Prelude.{ℕ, ◌≡◌, ◌<◌, ◌⊎◌, ◌<ℤ◌, Bool, List, [], ◌∷◌}
use Rattle.std.specs.declared.cmp.Ordering.{Ordering}
use Rattle.std.specs.declared.cmp.Ordering.TheVariants.{Equal}
use Rattle.std.specs.Ordering.{nat_cmp, int_cmp, ordering_then, is_eq}
use Rattle.std.specs.Cmp.Lexicographic.{slice_cmp}
use Rattle.term_core.specs.Datum.{Datum, Items, Entries, item_count, entry_count, entry_keys}
use Rattle.term_core.specs.Datum.Datum.{integer, atom, tuple, map, nil, cons, binary}
use Rattle.term_core.specs.Datum.Items.{item}
use Rattle.term_core.specs.Datum.Entries.{no_entries, entry}

-- the rank of a term's kind in the order of kinds
abbrev pub rank : Datum → ℕ
rank (integer z) = 0
rank (atom cs) = 1
rank (tuple ds) = 2
rank (map es) = 3
rank nil = 4
rank (cons head tail) = 5
rank (binary es) = 6

-- the first text is below the second: the first numbers that differ decide, and a prefix is below the longer text
abbrev pub AreBelow : List ℕ → List ℕ → Type 0
AreBelow xs [] = ⊥
AreBelow [] (y ∷ ys) = Unit {0}
AreBelow (x ∷ xs) (y ∷ ys) = (x < y) ⊎ ((x ≡ y) × AreBelow xs ys)

unfoldable mutual
  -- The first term is below the second: integers by value; atoms and binaries from the left; tuples by size, then by
  -- elements; maps by size, then by keys, then by values; lists by head, then by tail; else by kind.
  pub IsBelow : Datum → Datum → Type 0
  IsBelow (integer a) (integer b) = a <ℤ b
  IsBelow (atom a) (atom b) = AreBelow a b
  IsBelow (tuple a) (tuple b) =
      (item_count a < item_count b) ⊎ ((item_count a ≡ item_count b) × ItemsBelow a b)
  IsBelow (map a) (map b) =
      (entry_count a < entry_count b)
      ⊎ ((entry_count a ≡ entry_count b) × (KeysBelow a b
      ⊎ ((entry_keys a ≡ entry_keys b) × ValuesBelow a b)))
  IsBelow (cons a ds) (cons b es) = IsBelow a b ⊎ ((a ≡ b) × IsBelow ds es)
  IsBelow (binary a) (binary b) = AreBelow a b
  IsBelow a b = rank a < rank b

  -- the first elements that differ decide which row of elements is below the other
  pub ItemsBelow : Items → Items → Type 0
  ItemsBelow (item a ds) (item b es) = IsBelow a b ⊎ ((a ≡ b) × ItemsBelow ds es)
  ItemsBelow ds es = ⊥

  pub KeysBelow : Entries → Entries → Type 0
  KeysBelow (entry a v ds) (entry b w es) = IsBelow a b ⊎ ((a ≡ b) × KeysBelow ds es)
  KeysBelow ds es = ⊥

  pub ValuesBelow : Entries → Entries → Type 0
  ValuesBelow (entry k a ds) (entry l b es) = IsBelow a b ⊎ ((a ≡ b) × ValuesBelow ds es)
  ValuesBelow ds es = ⊥

-- a key is below the first of these keys, if there is one
abbrev pub IsBelowFirst : Datum → Entries → Type 0
IsBelowFirst k no_entries = Unit {0}
IsBelowFirst k (entry l w es) = IsBelow k l

unfoldable mutual
  -- compares two terms, as a value that computes
  pub datum_cmp : Datum → Datum → Ordering
  datum_cmp (integer a) (integer b) = int_cmp a b
  datum_cmp (atom a) (atom b) = slice_cmp nat_cmp a b
  datum_cmp (tuple a) (tuple b) =
      ordering_then (nat_cmp (item_count a) (item_count b)) (items_cmp a b)
  datum_cmp (map a) (map b) =
      ordering_then (nat_cmp (entry_count a) (entry_count b))
      (ordering_then (keys_cmp a b) (values_cmp a b))
  datum_cmp (cons a ds) (cons b es) = ordering_then (datum_cmp a b) (datum_cmp ds es)
  datum_cmp (binary a) (binary b) = slice_cmp nat_cmp a b
  datum_cmp a b = nat_cmp (rank a) (rank b)

  pub items_cmp : Items → Items → Ordering
  items_cmp (item a ds) (item b es) = ordering_then (datum_cmp a b) (items_cmp ds es)
  items_cmp ds es = Equal

  pub keys_cmp : Entries → Entries → Ordering
  keys_cmp (entry a v ds) (entry b w es) = ordering_then (datum_cmp a b) (keys_cmp ds es)
  keys_cmp ds es = Equal

  pub values_cmp : Entries → Entries → Ordering
  values_cmp (entry k a ds) (entry l b es) = ordering_then (datum_cmp a b) (values_cmp ds es)
  values_cmp ds es = Equal

-- whether two terms are equal
abbrev pub is_same : Datum → Datum → Bool
is_same d e = is_eq (datum_cmp d e)
