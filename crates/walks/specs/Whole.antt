-- How a call of a whole walk changes what a session sees.
use Rattle.std.specs.Prelude.{ℕ, Bool, List, [], ◌∷◌}
use Rattle.term_core.specs.Datum.{Datum}
use Rattle.tables.specs.Turns.{Home, Views}
use Rattle.walk_core.specs.Goes.{way, Stops}
use Rattle.walk_core.specs.Moments.{span, Gathers, IsAnswer, ArePlaced}
use Rattle.walk_core.specs.Once.{IsOnce}
use Rattle.walk_core.specs.Walk.{Walk, Position, is_done, start_of}
use Rattle.walk_core.specs.Walk.Position.{Over}
use Rattle.walks.specs.Own.{FixesFirst, Releases}

-- A whole walk. The parts of a set or bag that the session doesn't fix are fixed. Then visits are made from the
-- beginning of the walk on, and these parts are released.
pub record Wholly (h : Home) (w : Walk) (wanted : ℕ → ℕ) (at : Position) (gained : List Datum) (v u : Views) : Type 0 where
  pub own : List Bool
  pub fixed : Views
  pub fixes : FixesFirst h own v fixed
  pub last : Views
  pub visits : Stops h w wanted (way fixed (start_of w) []) at gained last
  pub releases : Releases h own last u

-- A walk that came to its end: it covered each key once, and if each object was inserted at its key's part, what it
-- gained is its answer.
abbrev pub Finishes : Home → Walk → (ℕ → ℕ) → List Datum → Views → Views → Type 0
Finishes h w wanted gained v u =
    Wholly h w wanted Over gained v u × IsOnce w (span v u ∷ []) u (is_done w Over)
    × (ArePlaced h.options u → IsAnswer w (span v u ∷ []) u gained)

-- A walk that ran out of memory on its way: it covered each key once. If each object was inserted at its key's part,
-- what it gained is gathered for the keys that were done until then.
abbrev pub GivesUp : Home → Walk → (ℕ → ℕ) → Views → Views → Type 0
GivesUp h w wanted v u =
    (at : Position) × (gained : List Datum) × Wholly h w wanted at gained v u × IsOnce w (span v u ∷ []) u (is_done w at)
    × (ArePlaced h.options u → Gathers w (span v u ∷ []) u (is_done w at) gained)
