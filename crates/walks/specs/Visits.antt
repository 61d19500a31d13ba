-- The answers of visits.
use Rattle.std.specs.Prelude.{ℕ, Bool, true, false, List, []}
use Rattle.term_core.specs.Datum.{Datum}
use Rattle.part_core.specs.Acts.{Answer}
use Rattle.part_core.specs.Acts.Answer.{Replied}
use Rattle.part_core.specs.Acts.Said.{Found, Counted}
use Rattle.tables.specs.Turns.{Home, Views}
use Rattle.walk_core.specs.Goes.{way, Stops}
use Rattle.walk_core.specs.Walk.{Walk, Position, start_of}

-- a reply that says what was found
abbrev pub is_found : Answer → Bool
is_found (Replied (Found xs next)) = true
is_found answer = false

-- a reply that says how many were counted or deleted
abbrev pub is_counted : Answer → Bool
is_counted (Replied (Counted count next)) = true
is_counted answer = false

-- A walk from its beginning that ran out of memory on its way, or came to its end.
abbrev pub StopsAnywhere : Home → Walk → (ℕ → ℕ) → Views → Views → Type 0
StopsAnywhere h w wanted v u =
    (at : Position) × (gained : List Datum) × Stops h w wanted (way v (start_of w) []) at gained u
