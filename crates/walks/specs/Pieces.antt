-- How a call of a walk in pieces changes what a session sees.
use Rattle.std.specs.Prelude.{ℕ, ◌≡◌, ◌<◌, ◌≤◌, ◌++◌, List, [], ◌∷◌, length}
use Rattle.term_core.specs.Datum.{Datum}
use Rattle.part_core.specs.Acts.Purpose.{Answers}
use Rattle.tables.specs.Turns.{Home, Views}
use Rattle.walk_core.specs.Goes.{way, up_to, Goes, Stops}
use Rattle.walk_core.specs.Moments.{Span, span, IsSoFar, IsAnswer, ArePlaced}
use Rattle.walk_core.specs.Walk.{Walk, Position, start_of}
use Rattle.walk_core.specs.Walk.Position.{Over}
use Rattle.walk_query.specs.declared.query.Query.{Query}
use Rattle.walks.specs.declared.continuation.Continuation.{Continuation}
use Rattle.walks.specs.declared.continuation.Step.{Step}
use Rattle.walks.specs.declared.continuation.Step.TheVariants as step
use Rattle.walk_core.specs.Positions.{position_of}
use Rattle.walks.specs.Query.{kept_of, walk_of}

-- a walk that was begun by this session at this table
abbrev pub IsOwn : {A : Type 0} → Home → Continuation A → Type 0
IsOwn h c = (c.table ≡ h.options.name) × (c.session ≡ h.number)

-- the walk with this query and this limit, of this session at this table
abbrev pub IsWalkOf : {A : Type 0} → Home → Query A → ℕ → Continuation A → Type 0
IsWalkOf h q limit c = (c.query ≡ q) × (c.limit ≡ limit) × IsOwn h c

-- at most `limit` answers, and fewer only at the end of the walk, with none kept
pub record IsPiece (limit : ℕ) (answers : List Datum) (at : Position) (kept : List Datum) : Type 0 where
  pub most : length answers ≤ limit
  pub fewer : length answers < limit → (at ≡ Over) × (kept ≡ [])

-- a piece is returned, or, if it has no answer, the query is handed back
abbrev pub IsStepOf : {A : Type 0} → Continuation A → List Datum → Step A → Type 0
IsStepOf c piece (step.Piece answers d) = (answers.items ≡ piece) × (0 < length piece) × (d ≡ c)
IsStepOf c piece (step.End q) = (piece ≡ []) × (q ≡ c.query)

-- A call that succeeded made visits: up to a piece, which has an answer, and what is kept after it; or up to the end,
-- with no answer.
abbrev pub Steps : {A : Type 0} → Home → Query A → ℕ → Position → List Datum → Step A → Views → Views → Type 0
Steps h q limit at kept (step.Piece answers c) v w =
    Goes h (walk_of h Answers q) (up_to limit) (way v at kept) (way w (position_of c.at) (answers.items ++ kept_of c.kept))
    × (0 < length answers.items) × IsPiece limit answers.items (position_of c.at) (kept_of c.kept) × IsWalkOf h q limit c
Steps h q limit at kept (step.End p) v w =
    Goes h (walk_of h Answers q) (up_to limit) (way v at kept) (way w Over []) × (p ≡ q)

-- the walk so far is continued; at its end, what was returned is its answer
abbrev pub IsCarriedOn : {A : Type 0} → Walk → List Span → List Datum → Step A → Views → Type 0
IsCarriedOn w calls given (step.Piece answers c) now =
    IsSoFar w calls (given ++ answers.items) now (position_of c.at) (kept_of c.kept)
IsCarriedOn w calls given (step.End p) now = IsAnswer w calls now given

-- A call that begins a walk: if each object was inserted at its key's part, the walk so far is what the call returned.
abbrev pub Begins : {A : Type 0} → Home → Query A → ℕ → Step A → Views → Views → Type 0
Begins h q limit s v w =
    Steps h q limit (start_of (walk_of h Answers q)) [] s v w
    × (ArePlaced h.options w → IsCarriedOn (walk_of h Answers q) (span v w ∷ []) [] s w)

-- A call that continues a walk: whatever was returned before, the walk so far grows by what the call returns.
abbrev pub Continues : {A : Type 0} → Home → Continuation A → Step A → Views → Views → Type 0
Continues h c s v w =
    Steps h c.query c.limit (position_of c.at) (kept_of c.kept) s v w
    × ((calls : List Span) (given : List Datum)
    → IsSoFar (walk_of h Answers c.query) calls given v (position_of c.at) (kept_of c.kept) → ArePlaced h.options w
    → IsCarriedOn (walk_of h Answers c.query) (calls ++ span v w ∷ []) given s w)

-- A call that ran out of memory returns nothing, and what its visits found is kept.
abbrev pub Keeps : {A : Type 0} → Home → Continuation A → Continuation A → Views → Views → Type 0
Keeps h c d v w =
    Stops h (walk_of h Answers c.query) (up_to c.limit) (way v (position_of c.at) (kept_of c.kept)) (position_of d.at) (kept_of d.kept) w
    × IsWalkOf h c.query c.limit d
    × ((calls : List Span) (given : List Datum)
    → IsSoFar (walk_of h Answers c.query) calls given v (position_of c.at) (kept_of c.kept) → ArePlaced h.options w
    → IsSoFar (walk_of h Answers c.query) (calls ++ span v w ∷ []) given w (position_of d.at) (kept_of d.kept))
