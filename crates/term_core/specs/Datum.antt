-- A term as a mathematical object: integers, atoms, tuples, maps, lists of cells, binaries.
-- (STDLIB Reference Manual, module ets: "terms"; Erlang Reference Manual, "Data Types".)
use Rattle.std.specs.Prelude.{ℕ, suc, ℤ, option_map, Option, Some, None, List, [], ◌∷◌}

mutual
  -- A term. An atom is the code points of its characters, a binary its bytes. A list is [] or a cell of a head and a
  -- tail.
  pub data Datum : Type 0 where
    integer : ℤ → Datum
    atom : List ℕ → Datum
    tuple : Items → Datum
    map : Entries → Datum
    nil : Datum
    cons : Datum → Datum → Datum
    binary : List ℕ → Datum

  -- the elements of a tuple, from the left
  pub data Items : Type 0 where
    no_items : Items
    item : Datum → Items → Items

  -- the pairs of a map, in ascending key order
  pub data Entries : Type 0 where
    no_entries : Entries
    entry : Datum → Datum → Entries → Entries

-- a list of terms as the elements of a tuple
abbrev pub items_of : List Datum → Items
items_of [] = no_items
items_of (d ∷ ds) = item d (items_of ds)

-- the keys of a map, in ascending order
abbrev pub entry_keys : Entries → List Datum
entry_keys no_entries = []
entry_keys (entry k v es) = k ∷ entry_keys es

-- the values, in the order of their keys
abbrev pub entry_values : Entries → List Datum
entry_values no_entries = []
entry_values (entry k v es) = v ∷ entry_values es

-- a list of pairs as the pairs of a map
abbrev pub entries_of : List (Datum × Datum) → Entries
entries_of [] = no_entries
entries_of (e ∷ es) = entry e.0 e.1 (entries_of es)

-- a list of these elements, followed by this tail
abbrev pub cells : List Datum → Datum → Datum
cells [] tail = tail
cells (d ∷ ds) tail = cons d (cells ds tail)

-- the elements of a proper list, None for any other term
abbrev pub proper_elements : Datum → Option (List Datum)
proper_elements nil = Some []
proper_elements (cons head tail) = option_map (λ ds. head ∷ ds) (proper_elements tail)
proper_elements d = None

-- the number of elements of a tuple
abbrev pub item_count : Items → ℕ
item_count no_items = 0
item_count (item d ds) = suc (item_count ds)

-- the number of pairs of a map
abbrev pub entry_count : Entries → ℕ
entry_count no_entries = 0
entry_count (entry k v es) = suc (entry_count es)

-- the number of elements before a list's tail, 0 for what is no list
abbrev pub cell_count : Datum → ℕ
cell_count (cons head tail) = suc (cell_count tail)
cell_count d = 0

-- a term that is neither [] nor a cell
abbrev pub IsNoList : Datum → Type 0
IsNoList nil = ⊥
IsNoList (cons head tail) = ⊥
IsNoList d = Unit {0}
