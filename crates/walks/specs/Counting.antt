-- How walks that count change what a session sees.
use Rattle.std.specs.Prelude.{ℕ, ◌≡◌, ◌++◌, List, [], ◌∷◌, length, min}
use Rattle.term_core.specs.Datum.{Datum}
use Rattle.part_core.specs.Replies.{most_counted}
use Rattle.tables.specs.Turns.{Home, Views}
use Rattle.walk_core.specs.Goes.{way, whole, Visits, Goes, Stops}
use Rattle.walk_core.specs.Moments.{Span, span, Gathers, IsSoFar, ArePlaced}
use Rattle.walk_core.specs.Once.{IsOnce}
use Rattle.walk_core.specs.Walk.{Walk, Position, is_done}
use Rattle.walks.specs.Whole.{Wholly, Finishes}

-- a number is the count of these objects, up to the greatest number that is counted
abbrev pub IsCount : ℕ → List Datum → Type 0
IsCount count found = count ≡ min (length found) most_counted

-- one more visit, which found `count` objects
abbrev pub CountsMore : Home → Walk → Position → Position → ℕ → Views → Views → Type 0
CountsMore h w at later count v u =
    (gained : List Datum)
    → (found : List Datum) × Visits h w whole (way v at gained) (way u later (gained ++ found)) × IsCount count found

-- visits, which found `count` objects
abbrev pub CountsTo : Home → Walk → Position → Position → ℕ → Views → Views → Type 0
CountsTo h w at later count v u = (found : List Datum) × Goes h w whole (way v at []) (way u later found) × IsCount count found

-- visits, which found `count` objects, and then one that ran out of memory
abbrev pub StopsAtCount : Home → Walk → Position → Position → ℕ → Views → Views → Type 0
StopsAtCount h w at later count v u = (found : List Datum) × Stops h w whole (way v at []) later found u × IsCount count found

-- a whole walk that counts, to its end
abbrev pub FinishesCount : Home → Walk → ℕ → Views → Views → Type 0
FinishesCount h w count v u = (found : List Datum) × IsCount count found × Finishes h w whole found v u

-- a whole walk that ran out of memory on its way, with the number counted up to then
abbrev pub GivesUpCount : Home → Walk → ℕ → Views → Views → Type 0
GivesUpCount h w count v u =
    (at : Position) × (found : List Datum) × IsCount count found × Wholly h w whole at found v u
    × IsOnce w (span v u ∷ []) u (is_done w at)
    × (ArePlaced h.options u → Gathers w (span v u ∷ []) u (is_done w at) found)

-- A walk that counts, so far: the number is the count of what its visits found, which is gathered for the keys that are
-- done.
pub record CountsSoFar (w : Walk) (calls : List Span) (now : Views) (at : Position) (number : ℕ) : Type 0 where
  pub found : List Datum
  pub so_far : IsSoFar w calls found now at []
  pub count : IsCount number found
