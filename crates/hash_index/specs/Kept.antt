-- What holds of the cells of each index, and what holds of them while a row is removed.
use Rattle.std.specs.Prelude.{◌≡◌, ◌≢◌, ℕ, ◌+◌, ◌*◌, ◌/◌, ◌<◌, ◌≤◌, ◌⊎◌, true, false, List, length, count_by, set}
use Rattle.hash_index.specs.declared.cell.Cell.{Cell}
use Rattle.hash_index.specs.Cells.{tombstone, is_free, is_end, IsTaken, cell_at, distance, passed}

-- no search ends before it reaches its row, and no row occurs twice
pub record AreFound (cells : List Cell) : Type 0 where
  pub reached : (i e : ℕ) → IsTaken (cell_at cells i) → e < length cells → passed cells i e < passed cells i i
      → is_end (cell_at cells e) ≡ false
  pub once : (i j : ℕ) → IsTaken (cell_at cells i) → (cell_at cells i).at ≡ (cell_at cells j).at → i ≡ j

-- no search for a row examines more than `longest` cells
pub record AreNear (cells : List Cell) (longest : ℕ) : Type 0 where
  pub near : (i : ℕ) → IsTaken (cell_at cells i) → passed cells i i < longest
  pub within : longest ≤ length cells

-- the invariant: rows are found, within `longest` cells, and the rows with those that still have room are three
-- quarters of the cells
pub record IsKept (cells : List Cell) (left longest : ℕ) : Type 0 where
  pub found : AreFound cells
  pub near : AreNear cells longest
  pub load : length cells + left ≡ length cells / 4 * 3 + count_by is_free cells

-- `pos` is the first free cell that a search from `start` reaches
pub record IsFirstFree (cells : List Cell) (start pos : ℕ) : Type 0 where
  pub within : pos < length cells
  pub free : is_free (cell_at cells pos) ≡ true
  pub before : (e : ℕ) → e < length cells → distance (length cells) start e < distance (length cells) start pos
      → IsTaken (cell_at cells e)

-- the cells after the content of one has moved to the position `hole`, with a tombstone where it was
abbrev pub moved : List Cell → ℕ → ℕ → List Cell
moved cells from hole = set (set cells hole (cell_at cells from)) from tombstone

-- a row moves into the hole if a search for it reaches the hole first, and else nothing changes
abbrev pub IsFilled : List Cell → List Cell → ℕ → ℕ → ℕ → Type 0
IsFilled old new hole pos next_hole =
    (IsTaken (cell_at old pos) × (passed old pos hole < passed old pos pos) × (new ≡ moved old pos hole) × (next_hole ≡ pos))
    ⊎ ((IsTaken (cell_at old pos) → passed old pos pos ≤ passed old pos hole) × (new ≡ old) × (next_hole ≡ hole))

-- each row is still somewhere, except the one that was at the position `gone`
pub record AreMoved (old new : List Cell) (gone : ℕ) : Type 0 where
  pub kept : (j : ℕ) → j ≢ gone → IsTaken (cell_at old j) → (i : ℕ) × (cell_at new i ≡ cell_at old j)
  pub was : (i : ℕ) → IsTaken (cell_at new i) → (j : ℕ) × (j ≢ gone) × (cell_at new i ≡ cell_at old j)
