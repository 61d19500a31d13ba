-- A session that owns a share of its table: its home, and what it sees.
use Rattle.std.specs.Prelude.{ℕ, ◌≡◌, Some, [], length, slice_get, List}
use Rattle.gate.specs.Views.{GateId}
use Rattle.tables.specs.declared.options.Options.{Options}
use Rattle.tables.specs.Sessions.{Sees, session_home}
use Rattle.tables.specs.Turns.{Home, Views, Follows}
use Rattle.table_sessions.specs.declared.own.OwnSession.{OwnSession}

-- the home of a session, by the name by which it is borrowed for a call, which means nothing else
abbrev pub home_by : {P A : Type 0} → OwnSession P A → ℕ → Home
home_by s name = session_home s.table.value.options s.table.value.gates.items s.seat.number name

abbrev pub home_of : {P A : Type 0} → OwnSession P A → Home
home_of s = home_by s 0

-- what a session sees of its table
abbrev pub SeenBy : {P A : Type 0} → OwnSession P A → Views → Type 0
SeenBy s = Sees s.seat.passes.items

-- the sessions of a table that was opened with these options, by their numbers: they have one table, and have seen nothing
pub record AreSessionsOf {P A : Type 0} (o : Options) (sessions : List (OwnSession P A)) : Type 0 where
  pub gates : List GateId
  pub count : length sessions ≡ o.sessions
  pub homes : (k : ℕ) (s : OwnSession P A) → slice_get sessions k ≡ Some s → home_of s ≡ session_home o gates k 0
  pub seen : (k : ℕ) (s : OwnSession P A) → slice_get sessions k ≡ Some s → SeenBy s (λ part. [])

-- what a session sees of its table follows what it saw before a call, in this relation
abbrev pub Does : {P A : Type 0} → (before now : OwnSession P A) → (Home → Views → Views → Type 0) → Type 0
Does before now R = (name : ℕ) × Follows (SeenBy before) (SeenBy now) (R (home_by before name))
