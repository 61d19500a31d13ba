-- What a session's passes have seen, and a turn with one of them.
use Rattle.std.specs.Prelude.{ℕ, ◌≡◌, Option, Some, slice_get, slice_set, List}
use Rattle.part_core.specs.Acts.{Act, Answer, History}
use Rattle.part_core.specs.Legal.{IsLegal}
use Rattle.gate.specs.Views.{Ticket, IsTurn, ticket_with}

-- what each pass has seen is a legal history of its part
abbrev pub AllLegal : List Ticket → Type 0
AllLegal passes = (k : ℕ) (pass : Ticket) → slice_get passes k ≡ Some pass → IsLegal pass.settings pass.log

-- a turn with the pass of one part, with the other passes unchanged
pub record IsTurnAt (old : List Ticket) (part : ℕ) (act : Act) (answer : Option Answer) (new : List Ticket) : Type 0 where
  pub pass : Ticket
  pub there : slice_get old part ≡ Some pass
  pub log : History
  pub turn : IsTurn pass.settings pass.number pass.log act answer log
  pub now : new ≡ slice_set old part (ticket_with pass log)
