-- At which place of a list of rows a key's row is.
use Rattle.std.specs.Prelude.{ℕ, ◌≡◌, IsTrue, IsFalse, length, List, ◌∷◌, ◌++◌}
use Rattle.term_core.specs.Datum.{Datum}
use Rattle.term_operand.specs.Order.{is_same}
use Rattle.part_core.specs.Rows.{Row, has_row}

-- the row at a place is the first one of a key
pub record IsPlace (k : Datum) (rows : List Row) (place : ℕ) : Type 0 where
  pub before : List Row
  pub row : Row
  pub after : List Row
  pub whole : rows ≡ before ++ row ∷ after
  pub count : length before ≡ place
  pub first : IsFalse (has_row before k)
  pub there : IsTrue (is_same k row.0)
