-- What holds of every walk.
use Rattle.std.specs.Prelude.{ℕ, ◌≡◌, ◌≢◌, ◌++◌, Some, List, [], ◌∷◌, length}
use Rattle.term_core.specs.Datum.{Datum}
use Rattle.part_core.specs.Acts.{Refusal, Said, next_in}
use Rattle.part_core.specs.Acts.Act.{Visit}
use Rattle.part_core.specs.Acts.Answer.{Replied, Refused}
use Rattle.part_core.specs.Replies.{said_by_visit}
use Rattle.tables.specs.Turns.{Home, Views, Turned}
use Rattle.walk_core.specs.Walk.{Walk, Position, IsWalk, IsPosition, start_of, part_at, scope_at, next_position}
use Rattle.walk_core.specs.Walk.Position.{Over}
use Rattle.walk_core.specs.Goes.{Way, way, IsAt, Visits, Goes, Stops}
use Rattle.walk_core.specs.Moments.{Span, span, IsSoFar, IsAnswer, IsGrown, AreLegal, ArePlaced}

-- a walk that begins has collected nothing
abbrev pub WalksBegin : Type 0
WalksBegin = (w : Walk) (now : Views) → IsWalk w → IsSoFar w [] [] now (start_of w) []

-- a turn that was not refused is a visit of the walk, and returns what the walk gains by it
abbrev pub TurnsAreVisits : Type 0
TurnsAreVisits =
    (h : Home) (w : Walk) (wanted : ℕ → ℕ) (at : Position) (gained : List Datum) (v u : Views) (said : Said)
    → IsAt h w
    → Turned h (part_at w at) (Visit w.purpose w.program (scope_at w at) (wanted (length gained))) (Some (Replied said)) v u
    → (found : List Datum)
    × Visits h w wanted (way v at gained) (way u (next_position w at (next_in said)) (gained ++ found))
    × (said ≡ said_by_visit w.purpose found (next_in said))

-- the next visit of a walk isn't refused
abbrev pub VisitsAreAnswered : Type 0
VisitsAreAnswered =
    (h : Home) (w : Walk) (at : Position) (wanted : ℕ) (v u : Views) (refusal : Refusal)
    → IsAt h w → IsWalk w → at ≢ Over → IsPosition w v at
    → Turned h (part_at w at) (Visit w.purpose w.program (scope_at w at) wanted) (Some (Refused refusal)) v u → ⊥

-- Visits continue a walk: what was collected before them and what they gain is collected after them, for the keys that
-- are done then.
abbrev pub WalksGoOn : Type 0
WalksGoOn =
    (h : Home) (w : Walk) (wanted : ℕ → ℕ) (calls : List Span) (given : List Datum) (a b : Way)
    → IsAt h w → IsWalk w → AreLegal w.options a.views → ArePlaced w.options b.views
    → IsSoFar w calls given a.views a.at a.gained → Goes h w wanted a b
    → IsSoFar w (calls ++ span a.views b.views ∷ []) given b.views b.at b.gained

-- what other sessions do, and other calls of the session, doesn't change a walk so far
abbrev pub WalksOutlastOthers : Type 0
WalksOutlastOthers =
    (w : Walk) (calls : List Span) (given : List Datum) (now later : Views) (at : Position) (kept : List Datum)
    → IsWalk w → IsGrown w.options now later → IsSoFar w calls given now at kept
    → IsSoFar w calls given later at kept

-- at its end, with nothing kept, what a walk returned is its answer
abbrev pub WalksEnd : Type 0
WalksEnd =
    (w : Walk) (calls : List Span) (given : List Datum) (now : Views)
    → IsWalk w → IsSoFar w calls given now Over [] → IsAnswer w calls now given

-- visits continue a walk also if the one after them ran out of memory
abbrev pub WalksStop : Type 0
WalksStop =
    (h : Home) (w : Walk) (wanted : ℕ → ℕ) (calls : List Span) (given : List Datum) (a : Way) (at : Position)
    (gained : List Datum) (now : Views)
    → IsAt h w → IsWalk w → AreLegal w.options a.views → ArePlaced w.options now
    → IsSoFar w calls given a.views a.at a.gained → Stops h w wanted a at gained now
    → IsSoFar w (calls ++ span a.views now ∷ []) given now at gained
