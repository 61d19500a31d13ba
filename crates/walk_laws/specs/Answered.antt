-- What a session gets from a walk through a table whose parts have gates.
use Rattle.std.specs.Prelude.{ℕ, List}
use Rattle.term_core.specs.Datum.{Datum}
use Rattle.part_core.specs.Acts.Purpose.{Answers}
use Rattle.part_core.specs.Replies.{most_counted}
use Rattle.gate.specs.Views.{GateId, Ticket}
use Rattle.tables.specs.declared.options.Options.{Options}
use Rattle.tables.specs.Sessions.{Sees, session_home}
use Rattle.tables.specs.Turns.{Follows}
use Rattle.walk_core.specs.Goes.{up_to}
use Rattle.walk_query.specs.declared.query.Query.{Query}
use Rattle.walks.specs.Asked.{Selects, GivesUpOn}

-- Whatever other sessions did at the parts meanwhile, what the session's passes had seen is continued. The session made
-- only the entries of a whole walk: the parts of a set or bag that it didn't fix were fixed, the walk's visits were
-- made to its end, and these parts were released. In what the passes have seen at the end, the walk covered each key
-- once. If each object was inserted at its key's part, the answers are what the query means for each key's objects at
-- one moment of the walk. (The session was borrowed by some name, `table`.)
abbrev pub IsAnsweredBy : {A : Type 0} → Options → List GateId → ℕ → Query A → List Ticket → List Ticket → List Datum → Type 0
IsAnsweredBy o gates number query before after answers =
    (table : ℕ) × Follows (Sees before) (Sees after) (Selects (session_home o gates number table) query answers)

-- A walk that ran out of memory on its way: what is known of a walk that ended holds for the keys that were done until
-- then, and the parts that were fixed first are released, too.
abbrev pub IsGivenUpBy : {A : Type 0} → Options → List GateId → ℕ → Query A → List Ticket → List Ticket → Type 0
IsGivenUpBy o gates number query before after =
    (table : ℕ) × Follows (Sees before) (Sees after)
    (GivesUpOn (session_home o gates number table) Answers query (up_to most_counted))
