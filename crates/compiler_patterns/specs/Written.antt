-- Code that grows from the left.
use Rattle.std.specs.Prelude.{ℕ, ◌≡◌, Bool, true, false, List, ◌++◌, length, get_or}
use Rattle.mspec_syntax.specs.Grammar.{is_among}
use Rattle.mspec_syntax.specs.Rising.{rank_of}
use Rattle.compiler_assembly.specs.Line.{SourceLine}

-- a draft: for each slot whether it is bound, and the lines so far
pub record Draft : Type 0 where
  pub bound : List Bool
  pub lines : List SourceLine

-- Exactly those variables with slots are known whose slots are bound.
pub record Tracks (slots : List ℕ) (bound : List Bool) (known : List ℕ) : Type 0 where
  pub count : length bound ≡ length slots
  pub values : (n : ℕ) → is_among slots n ≡ true → is_among known n ≡ get_or bound (rank_of slots n) false

-- the lines are appended to those that are there
pub record Puts (added : List SourceLine) (old new : Draft) : Type 0 where
  pub lines : new.lines ≡ old.lines ++ added
  pub bound : new.bound ≡ old.bound

-- Whatever is known before, the lines that are due then are appended, and these variables are known afterwards.
pub record Writes (slots : List ℕ) (added : List ℕ → List SourceLine) (variables : List ℕ) (old new : Draft) : Type 0 where
  pub lines : (known : List ℕ) → Tracks slots old.bound known → new.lines ≡ old.lines ++ added known
  pub tracks : (known : List ℕ) → Tracks slots old.bound known → Tracks slots new.bound (known ++ variables)
