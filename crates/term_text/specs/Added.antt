-- A text that is appended to another one.
use Rattle.std.specs.Prelude.{ℕ, List, take, drop}

-- what was there before, and what is appended to it
pub record Text : Type 0 where
  pub front : List ℕ
  pub items : List ℕ

abbrev pub text_from : ℕ → List ℕ → Text
text_from start bytes = record { front = take start bytes; items = drop start bytes }
