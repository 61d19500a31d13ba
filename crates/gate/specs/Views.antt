-- What a session sees of a part's history, and how this grows.
use Rattle.std.specs.Prelude.{ℕ, ◌≡◌, ◌==◌, Option, filter, [], ◌++◌}
use Rattle.atomic_table.specs.Seated.{TableId}
use Rattle.part_core.specs.declared.settings.Settings.{Settings}
use Rattle.part_core.specs.Acts.{Act, Answer, History}
use Rattle.part_core.specs.Legal.{IsLegal}
use Rattle.part_core.specs.Ops.{entries_of}

-- the entries of one session
abbrev pub own : ℕ → History → History
own n log = filter (λ e. e.session == n) log

-- the second history begins with the first
abbrev pub GoesOn : History → History → Type 0
GoesOn old new = (rest : History) × (new ≡ old ++ rest)

-- the identity of a gate, which no other gate shares with it
abbrev pub GateId : Type 0
GateId = TableId

-- A session's pass: the gate that it was made with, the part's settings, the session's number, and the history of the
-- part up to the session's last turn.
pub record Ticket : Type 0 where
  pub gate : GateId
  pub settings : Settings
  pub number : ℕ
  pub log : History

-- the pass with another history
abbrev pub ticket_with : Ticket → History → Ticket
ticket_with t log = record { gate = t.gate; settings = t.settings; number = t.number; log = log }

-- the pass of a session that has seen nothing
abbrev pub first_ticket : GateId → Settings → ℕ → Ticket
first_ticket gate o n = record { gate = gate; settings = o; number = n; log = [] }

-- A turn, in terms of the history: what the pass had seen is followed by entries of other sessions, and then by the
-- turn's entry. If the turn ran out of memory, it has no entry. The whole history is legal.
pub record IsTurn (o : Settings) (n : ℕ) (old : History) (act : Act) (answer : Option Answer) (new : History) : Type 0 where
  pub between : History
  pub others : own n between ≡ []
  pub grown : new ≡ (old ++ between) ++ entries_of n act answer
  pub legal : IsLegal o new

-- The part is in the state after a history that begins with what a pass had seen, and has no further entries of the
-- pass's session.
pub record IsLeft {P : Type 0} (IsAfter : P → History → Type 0) (n : ℕ) (seen : History) (part : P) : Type 0 where
  pub log : History
  pub goes_on : GoesOn seen log
  pub whole : own n log ≡ own n seen
  pub after : IsAfter part log
