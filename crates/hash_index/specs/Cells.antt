-- Cells, and the path of a search through them.
use Rattle.std.specs.Prelude.{◌≡◌, ℕ, ◌+◌, ◌-◌, ◌^◌, ◌<◌, ◌⊎◌, Bool, false, List, length, slice_index_or, nat_le, bit_and}
use Rattle.std.specs.Prelude.{if◌then◌else◌}
use Rattle.hash_index.specs.declared.cell.Cell.{Cell}

-- the value that a free cell has instead of a row's number: no row has such a high number
abbrev pub free : ℕ
free = 2 ^ 32 - 1

-- a free cell at which searches end
abbrev pub free_cell : Cell
free_cell = record { mixed = 0; at = free }

-- a free cell that searches go past, since a row after it may have passed the row that was there
abbrev pub tombstone : Cell
tombstone = record { mixed = 1; at = free }

-- no row is at the cell
abbrev pub is_free : Cell → Bool
is_free cell = nat_le free cell.at

-- no row is at the cell, and searches end there
abbrev pub is_end : Cell → Bool
is_end cell = if is_free cell then nat_le cell.mixed 0 else false

-- a row is at the cell
abbrev pub IsTaken : Cell → Type 0
IsTaken cell = cell.at < free

-- the cell at position i, or a free cell past the end
abbrev pub cell_at : List Cell → ℕ → Cell
cell_at cells i = slice_index_or cells i free_cell

-- the position where a search for a mixed hash begins, among `count` cells
unfoldable pub home : ℕ → ℕ → ℕ
home count mixed = bit_and mixed (count - 1)

-- a search goes on from one position to the next, and from the last to the first
abbrev pub IsNext : ℕ → ℕ → ℕ → Type 0
IsNext count from to = ((to ≡ from + 1) × (to < count)) ⊎ ((to ≡ 0) × (from + 1 ≡ count))

-- the number of cells that a search that begins at one position passes before it reaches another, among `count` cells
unfoldable pub distance : ℕ → ℕ → ℕ → ℕ
distance count from to = if nat_le from to then to - from else to + count - from

-- the number of cells that a search for the mixed hash of the cell at position i passes before it reaches the position `to`
abbrev pub passed : List Cell → ℕ → ℕ → ℕ
passed cells i to = distance (length cells) (home (length cells) (cell_at cells i).mixed) to
