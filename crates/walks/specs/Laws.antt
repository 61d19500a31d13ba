-- Laws of walks on one thread, and of walks that count in pieces.
use Rattle.std.specs.Prelude.{ℕ, ◌≡◌, ◌<◌, ◌+◌, ◌++◌, None, min, List, [], ◌∷◌}
use Rattle.term_core.specs.Datum.{Datum}
use Rattle.part_core.specs.Replies.{most_counted}
use Rattle.tables.specs.Turns.{Home, Views}
use Rattle.walk_core.specs.Goes.{IsAt}
use Rattle.walk_core.specs.Walk.{Walk, Position, IsWalk, start_of}
use Rattle.walk_core.specs.Walk.Position.{Over}
use Rattle.walk_core.specs.Moments.{Span, span, IsAnswer, IsGrown, AreLegal, ArePlaced}
use Rattle.walks.specs.Counting.{CountsSoFar, CountsTo, StopsAtCount, IsCount}
use Rattle.tables.specs.OneThread.{TableState}
use Rattle.walks.specs.OneThread.{table_rows}
use Rattle.walks.specs.Sights.{rows_seen, whole}

-- a walk without named keys looks at each row of the table once, in walk order
abbrev pub WholeWalksGoInOrder : Type 0
WholeWalksGoInOrder = (t : TableState) → 0 < t.options.parts → rows_seen (whole t None) ≡ table_rows t

-- a walk that counts and begins has counted nothing
abbrev pub CountsBegin : Type 0
CountsBegin = (w : Walk) (now : Views) → IsWalk w → CountsSoFar w [] now (start_of w) 0

-- the number so far and that of more visits are the number after them, up to the greatest number that is counted
abbrev pub CountsGoOn : Type 0
CountsGoOn =
    (h : Home) (w : Walk) (calls : List Span) (v u : Views) (at later : Position) (number more : ℕ)
    → IsAt h w → IsWalk w → AreLegal w.options v → ArePlaced w.options u
    → CountsSoFar w calls v at number → CountsTo h w at later more v u
    → CountsSoFar w (calls ++ span v u ∷ []) u later (min (number + more) most_counted)

-- the same if the visit after them ran out of memory, or was put off
abbrev pub CountsStop : Type 0
CountsStop =
    (h : Home) (w : Walk) (calls : List Span) (v u : Views) (at later : Position) (number more : ℕ)
    → IsAt h w → IsWalk w → AreLegal w.options v → ArePlaced w.options u
    → CountsSoFar w calls v at number → StopsAtCount h w at later more v u
    → CountsSoFar w (calls ++ span v u ∷ []) u later (min (number + more) most_counted)

-- what other sessions do, and other calls of the session, doesn't change the number so far
abbrev pub CountsOutlastOthers : Type 0
CountsOutlastOthers =
    (w : Walk) (calls : List Span) (now later : Views) (at : Position) (number : ℕ)
    → IsWalk w → IsGrown w.options now later → CountsSoFar w calls now at number → CountsSoFar w calls later at number

-- at its end the number is the count of what the walk answers
abbrev pub CountsEnd : Type 0
CountsEnd =
    (w : Walk) (calls : List Span) (now : Views) (number : ℕ)
    → IsWalk w → CountsSoFar w calls now Over number → (answers : List Datum) × IsAnswer w calls now answers × IsCount number answers
