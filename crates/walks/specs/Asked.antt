-- How walks change what a session sees, given the session's home and the query.
use Rattle.std.specs.Prelude.{ℕ, option_map, List}
use Rattle.term_core.specs.Datum.{Datum}
use Rattle.part_core.specs.declared.fault.Fault.{Fault}
use Rattle.part_core.specs.Acts.{Purpose}
use Rattle.part_core.specs.Acts.Act.{Visit}
use Rattle.part_core.specs.Acts.Answer.{Refused}
use Rattle.part_core.specs.Acts.Purpose.{Answers}
use Rattle.part_core.specs.Ops.{refusal_of}
use Rattle.part_core.specs.Replies.{most_counted}
use Rattle.tables.specs.Turns.{Home, Views, Turned}
use Rattle.walk_core.specs.Goes.{way, up_to, Goes, Stops}
use Rattle.walk_core.specs.Walk.{Position, IsPosition, part_at, scope_at}
use Rattle.walk_query.specs.declared.query.Query.{Query}
use Rattle.walks.specs.Query.{walk_of}
use Rattle.walks.specs.Visits.{StopsAnywhere}
use Rattle.walks.specs.Whole.{Finishes, GivesUp}
use Rattle.walks.specs.Counting.{CountsMore, CountsTo, StopsAtCount, FinishesCount, GivesUpCount}

-- visits for the answers of a query, up to a limit of them, from a position with what is kept there to another position
abbrev pub GoesUpTo : {A : Type 0} → Home → Query A → ℕ → (at : Position) (kept : List Datum) (later : Position) (more : List Datum) → Views → Views → Type 0
GoesUpTo h q limit at kept later more v u = Goes h (walk_of h Answers q) (up_to limit) (way v at kept) (way u later more)

-- visits, and then one that ran out of memory
abbrev pub StopsUpTo : {A : Type 0} → Home → Query A → ℕ → (at : Position) (kept : List Datum) (later : Position) (more : List Datum) → Views → Views → Type 0
StopsUpTo h q limit at kept later more v u = Stops h (walk_of h Answers q) (up_to limit) (way v at kept) later more u

-- visits for the answers of a query, up to a limit, from the walk's beginning, and then one that ran out of memory anywhere
abbrev pub StopsSelecting : {A : Type 0} → Home → Query A → ℕ → Views → Views → Type 0
StopsSelecting h q limit v u = StopsAnywhere h (walk_of h Answers q) (up_to limit) v u

-- a visit at the walk's position, with a target of `wanted` answers, failed
abbrev pub IsRefusedThere : {A : Type 0} → Home → Purpose → Query A → Position → ℕ → Fault → Views → Views → Type 0
IsRefusedThere h purpose q at wanted fault v u =
    Turned h (part_at (walk_of h purpose q) at) (Visit purpose q.code (scope_at (walk_of h purpose q) at) wanted)
    (option_map Refused (refusal_of fault)) v u

-- whatever the session sees, no walk with the query can be at this position
abbrev pub IsForeign : {A : Type 0} → Home → Purpose → Query A → (Views → Type 0) → Position → Type 0
IsForeign h purpose q sees at = (v : Views) → sees v → IsPosition (walk_of h purpose q) v at → ⊥

-- a whole walk that returns answers, to its end; and one, of any purpose, that ran out of memory on its way
abbrev pub Selects : {A : Type 0} → Home → Query A → List Datum → Views → Views → Type 0
Selects h q answers v u = Finishes h (walk_of h Answers q) (up_to most_counted) answers v u

abbrev pub GivesUpOn : {A : Type 0} → Home → Purpose → Query A → (ℕ → ℕ) → Views → Views → Type 0
GivesUpOn h purpose q wanted v u = GivesUp h (walk_of h purpose q) wanted v u

-- a visit that counts; visits that count; and visits that count followed by one that ran out of memory
abbrev pub TalliesOnce : {A : Type 0} → Home → Purpose → Query A → (at later : Position) → ℕ → Views → Views → Type 0
TalliesOnce h purpose q at later count v u = CountsMore h (walk_of h purpose q) at later count v u

abbrev pub TalliesTo : {A : Type 0} → Home → Purpose → Query A → (at later : Position) → ℕ → Views → Views → Type 0
TalliesTo h purpose q at later count v u = CountsTo h (walk_of h purpose q) at later count v u

abbrev pub StopsTallying : {A : Type 0} → Home → Purpose → Query A → (at later : Position) → ℕ → Views → Views → Type 0
StopsTallying h purpose q at later count v u = StopsAtCount h (walk_of h purpose q) at later count v u

-- a whole walk that counts, to its end; and one that ran out of memory on its way
abbrev pub Tallies : {A : Type 0} → Home → Purpose → Query A → ℕ → Views → Views → Type 0
Tallies h purpose q count v u = FinishesCount h (walk_of h purpose q) count v u

abbrev pub TalliesNoMore : {A : Type 0} → Home → Purpose → Query A → ℕ → Views → Views → Type 0
TalliesNoMore h purpose q count v u = GivesUpCount h (walk_of h purpose q) count v u
