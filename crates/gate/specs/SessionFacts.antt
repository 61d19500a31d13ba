-- What a session guarantees is a fact: there is at most one proof of it.
use Rattle.std.specs.Prelude.{List}
use Rattle.part_core.specs.LegalFacts.{legal_prop}
use Rattle.gate.specs.Views.{Ticket}
use Rattle.gate.specs.Sessions.{AllLegal}

-- that each history is legal is a fact: there is at most one proof of it
pub all_legal_prop : (passes : List Ticket) → IsProp (AllLegal passes)
all_legal_prop passes = hlevel legal_prop
