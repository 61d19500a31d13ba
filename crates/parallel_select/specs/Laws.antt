-- What the walks of a worker mean: for each key of its parts once, what the query answers for the key's objects at one moment.
use Rattle.std.specs.Prelude.{ℕ, ◌<◌, Bool, IsTrue, List, [], ◌∷◌}
use Rattle.term_core.specs.Datum.{Datum}
use Rattle.part_core.specs.Acts.{Purpose}
use Rattle.tables.specs.Turns.{Home, Views}
use Rattle.walk_core.specs.Moments.{span, Gathers, IsAnswer, IsGrown, AreLegal, ArePlaced}
use Rattle.walk_core.specs.Once.{IsOnce}
use Rattle.walk_core.specs.Walk.{Walk, Position, is_done}
use Rattle.walk_core.specs.Walk.Position.{Over}
use Rattle.walk_query.specs.declared.query.Query.{Query}
use Rattle.parallel_select.specs.Parts.{part_walk, Works, Ceases}

-- Within what a worker did, a walk that came to its end: it covered each key once, and what it gained is its answer, in
-- what the worker sees at its end.
pub record IsAnsweredWithin (w : Walk) (gained : List Datum) (v u : Views) : Type 0 where
  pub before : Views
  pub after : Views
  pub begins : IsGrown w.options v before
  pub ends : IsGrown w.options after u
  pub answer : IsAnswer w (span before after ∷ []) u gained
  pub once : IsOnce w (span before after ∷ []) u (is_done w Over)

-- within what a worker did, a walk that ran out of memory on its way: it covered each key once, and what it gained is
-- gathered for the keys that were done until then, in what the worker sees at its end
pub record IsGatheredWithin (w : Walk) (at : Position) (gained : List Datum) (v u : Views) : Type 0 where
  pub before : Views
  pub after : Views
  pub begins : IsGrown w.options v before
  pub ends : IsGrown w.options after u
  pub gathers : Gathers w (span before after ∷ []) u (is_done w at) gained
  pub once : IsOnce w (span before after ∷ []) u (is_done w at)

-- a worker's session is one of its table's, and the histories of the parts before are legal
pub record IsWell (h : Home) (v : Views) : Type 0 where
  pub parts : 0 < h.options.parts
  pub number : h.number < h.options.sessions
  pub legal : AreLegal h.options v

-- For each of a worker's own parts below a number, what was gained is the answer of the part's walk.
abbrev pub PartsAreAnswered : Type 0 → Type 0
PartsAreAnswered A =
    (h : Home) (purpose : Purpose) (q : Query A) (own : ℕ → Bool) (gained : ℕ → List Datum) (count : ℕ) (v u : Views)
    → IsWell h v → ArePlaced h.options u → Works h (part_walk h purpose q) own gained v count u
    → (part : ℕ) → part < count → part < h.options.parts → IsTrue (own part)
    → IsAnsweredWithin (part_walk h purpose q part) (gained part) v u

-- If a worker ran out of memory in a part, what was gained from each of its own parts below this one is the answer of
-- the part's walk. What was gained from this one is gathered for the keys that were done.
abbrev pub BrokenPartsAreGathered : Type 0 → Type 0
BrokenPartsAreGathered A =
    (h : Home) (purpose : Purpose) (q : Query A) (own : ℕ → Bool) (gained : ℕ → List Datum) (last : ℕ) (v u : Views)
    → IsWell h v → ArePlaced h.options u → Ceases h (part_walk h purpose q) own gained last v u
    → ((part : ℕ) → part < last → IsTrue (own part) → IsAnsweredWithin (part_walk h purpose q part) (gained part) v u)
    × ((at : Position) × IsGatheredWithin (part_walk h purpose q last) at (gained last) v u)
