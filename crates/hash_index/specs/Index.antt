-- What a hash index contains, and what its methods do to that.
use Rattle.std.specs.Prelude.{◌≡◌, ◌≢◌, ℕ, ◌<◌, ◌⊎◌, List, length}
use Rattle.hash_index.specs.declared.cell.Cell.{Cell}
use Rattle.hash_index.specs.Cells.{free, cell_at, home, distance}

-- the cells of an index; no contract says anything of their order
abbrev pub cells : List Cell × ℕ → List Cell
cells index = index.0

-- how many more rows can be inserted without growth
abbrev pub room : List Cell × ℕ → ℕ
room index = index.1

-- the row `at` is at position i, with its mixed hash
pub record Holds (cells : List Cell) (mixed at i : ℕ) : Type 0 where
  pub cell : cell_at cells i ≡ record { mixed = mixed; at = at }
  pub taken : at < free

-- the row `at` is in the cells under a mixed hash
abbrev pub HasIn : List Cell → ℕ → ℕ → Type 0
HasIn cells mixed at = (i : ℕ) × Holds cells mixed at i

-- the row `at` is in the index under a mixed hash
abbrev pub Has : List Cell × ℕ → ℕ → ℕ → Type 0
Has index mixed at = HasIn (cells index) mixed at

-- the number of cells that a search for the mixed hash of the row `at` passes before it reaches the row
abbrev pub Passing : List Cell → ℕ → ℕ → ℕ → Type 0
Passing cells mixed at passed =
    (i : ℕ) × Holds cells mixed at i × (passed ≡ distance (length cells) (home (length cells) mixed) i)

-- the row `at` is there now under a mixed hash, in addition to what was there, and nothing else is
pub record Puts (old new : List Cell) (mixed at : ℕ) : Type 0 where
  pub here : HasIn new mixed at
  pub kept : (m a : ℕ) → HasIn old m a → HasIn new m a
  pub only : (m a : ℕ) → HasIn new m a → HasIn old m a ⊎ ((m ≡ mixed) × (a ≡ at))

-- the row `at` is no longer there, under any mixed hash; all others are, and nothing else is
pub record Takes (old new : List Cell) (at : ℕ) : Type 0 where
  pub gone : (m : ℕ) → HasIn new m at → ⊥
  pub kept : (m a : ℕ) → a ≢ at → HasIn old m a → HasIn new m a
  pub only : (m a : ℕ) → HasIn new m a → HasIn old m a

-- the same rows are there, under the same mixed hashes
pub record AreSame (old new : List Cell) : Type 0 where
  pub kept : (m a : ℕ) → HasIn old m a → HasIn new m a
  pub only : (m a : ℕ) → HasIn new m a → HasIn old m a

-- the same rows are there, each under a mixed hash that the relation allows for the old one and the row
pub record AreMixed (R : ℕ → ℕ → ℕ → Type 0) (old new : List Cell) : Type 0 where
  pub kept : (m a : ℕ) → HasIn old m a → (n : ℕ) × R m a n × HasIn new n a
  pub only : (n a : ℕ) → HasIn new n a → (m : ℕ) × R m a n × HasIn old m a
