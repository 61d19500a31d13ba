-- A session of a table whose parts have gates: its passes, and what they have seen.
use Rattle.std.specs.Prelude.{ℕ, ◌≡◌, ◌<◌, false, Some, length, map, slice_get, List}
use Rattle.gate.specs.Views.{GateId, Ticket}
use Rattle.tables.specs.declared.options.Options.{Options}
use Rattle.tables.specs.Options.{settings_of}
use Rattle.tables.specs.Turns.{Home, Views}

-- a session sees of each part what its pass there has seen
abbrev pub Sees : List Ticket → Views → Type 0
Sees passes v = (k : ℕ) (pass : Ticket) → slice_get passes k ≡ Some pass → v k ≡ pass.log

-- A session was opened with a table: for each part there are a gate and a pass, which was made with that gate, these
-- options and this session's number.
pub record IsOpened (o : Options) (gates : List GateId) (number : ℕ) (passes : List Ticket) : Type 0 where
  pub some : 0 < o.parts
  pub count : length gates ≡ o.parts
  pub session : number < o.sessions
  pub made : map (λ pass. pass.gate) passes ≡ gates
  pub each : (k : ℕ) (pass : Ticket) → slice_get passes k ≡ Some pass
      → (pass.settings ≡ settings_of o) × (pass.number ≡ number)

-- the home of such a session
abbrev pub session_home : Options → List GateId → ℕ → ℕ → Home
session_home o gates number table = record { options = o; gates = gates; number = number; table = table; alone = false }
