-- What a hasher is fed for a term.
use Rattle.std.specs.Prelude.{ℕ, ◌≡◌, ◌+◌, ◌*◌, ◌%◌, ◌^◌, List, [], ◌∷◌, ◌++◌, length, fold}
use Rattle.std.specs.Hash as fed
use Rattle.std.specs.Hash.{HashWrites}
use Rattle.term_core.specs.Datum.{Datum, Items, Entries, item_count, entry_count, cell_count}
use Rattle.term_core.specs.Datum.Datum.{integer, atom, tuple, map, nil, cons, binary}
use Rattle.term_core.specs.Datum.Items.{no_items, item}
use Rattle.term_core.specs.Datum.Entries.{no_entries, entry}

-- one word of a kind, below 8, and of a number of parts
abbrev pub kind_word : ℕ → ℕ → ℕ
kind_word kind count = (count * 8 + kind) % 2 ^ 64

-- characters, and then what follows
abbrev pub characters_fed : List ℕ → HashWrites → HashWrites
characters_fed [] rest = rest
characters_fed (c ∷ cs) rest = fed.char c ++ characters_fed cs rest

unfoldable mutual
  -- A term, and then what follows. An integer is fed as its value alone. Any other term is fed as a word of its kind
  -- and its number of parts, then the parts from the left: characters, elements, keys each with its value, elements and
  -- the tail, or all bytes at once.
  pub term_fed : Datum → HashWrites → HashWrites
  term_fed (integer z) rest = fed.i64 z ++ rest
  term_fed (atom cs) rest = fed.u64 (kind_word 1 (length cs)) ++ characters_fed cs rest
  term_fed (tuple ds) rest = fed.u64 (kind_word 2 (item_count ds)) ++ items_fed ds rest
  term_fed (map es) rest = fed.u64 (kind_word 3 (entry_count es)) ++ entries_fed es rest
  term_fed nil rest = fed.u64 (kind_word 4 0) ++ rest
  term_fed (cons head tail) rest =
      fed.u64 (kind_word 5 (cell_count (cons head tail))) ++ term_fed head (cells_fed tail rest)
  term_fed (binary bs) rest = fed.u64 (kind_word 6 (length bs)) ++ (bs ∷ rest)

  pub items_fed : Items → HashWrites → HashWrites
  items_fed no_items rest = rest
  items_fed (item d ds) rest = term_fed d (items_fed ds rest)

  pub entries_fed : Entries → HashWrites → HashWrites
  entries_fed no_entries rest = rest
  entries_fed (entry k v es) rest = term_fed k (term_fed v (entries_fed es rest))

  -- the remaining elements of a list and the tail at their end, and then what follows
  pub cells_fed : Datum → HashWrites → HashWrites
  cells_fed (cons head tail) rest = term_fed head (cells_fed tail rest)
  cells_fed (integer z) rest = fed.i64 z ++ rest
  cells_fed (atom cs) rest = fed.u64 (kind_word 1 (length cs)) ++ characters_fed cs rest
  cells_fed (tuple ds) rest = fed.u64 (kind_word 2 (item_count ds)) ++ items_fed ds rest
  cells_fed (map es) rest = fed.u64 (kind_word 3 (entry_count es)) ++ entries_fed es rest
  cells_fed nil rest = fed.u64 (kind_word 4 0) ++ rest
  cells_fed (binary bs) rest = fed.u64 (kind_word 6 (length bs)) ++ (bs ∷ rest)

-- what a hasher was fed between an older state and a newer one, whatever is fed afterwards
pub record Feeds {S : Type 0} (write : S → List ℕ → S) (old new : S) (writes : HashWrites → HashWrites) : Type 0 where
  pub follows : (rest : HashWrites) → fold write new rest ≡ fold write old (writes rest)
