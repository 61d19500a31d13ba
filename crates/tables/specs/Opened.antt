-- What is opened: a table of gates, and its sessions.
use Rattle.std.specs.Prelude.{ℕ, ◌≡◌, IsTrue, Some, [], length, map, slice_get, List}
use Rattle.part_core.specs.declared.settings.Settings.{Settings}
use Rattle.part_core.specs.Settings.{is_ordered}
use Rattle.part_core.specs.Served.{AreInRange}
use Rattle.gate.specs.Views.{GateId, Ticket, first_ticket}
use Rattle.tables.specs.declared.options.Options.{Options}
use Rattle.gate.specs.declared.session.Session.{Session}
use Rattle.tables.specs.Options.{settings_of}
use Rattle.tables.specs.Sessions.{IsOpened, Sees}

-- each session was opened with the table
abbrev pub AllOpened : {P A : Type 0} → Options → List GateId → List (Session P A) → Type 0
AllOpened o gates sessions =
    (k : ℕ) (s : Session _ _) → slice_get sessions k ≡ Some s → IsOpened o gates s.number s.passes.items

-- each session has its own number and was opened with the table, and has seen nothing
pub record AreOpened {P A : Type 0} (o : Options) (gates : List GateId) (sessions : List (Session P A)) : Type 0 where
  pub count : length sessions ≡ o.sessions
  pub numbered : (k : ℕ) (s : Session P A) → slice_get sessions k ≡ Some s → s.number ≡ k
  pub opened : AllOpened o gates sessions
  pub seen : (k : ℕ) (s : Session P A) → slice_get sessions k ≡ Some s → Sees s.passes.items (λ part. [])

-- the passes of a session at the given gates, which have seen nothing
abbrev pub first_passes : Settings → List GateId → ℕ → List Ticket
first_passes o gates number = map (λ gate. first_ticket gate o number) gates

-- each session has its own number and its passes at the given gates
abbrev pub AreDealt : {P A : Type 0} → Settings → List GateId → List (Session P A) → Type 0
AreDealt o gates sessions =
    (k : ℕ) (s : Session _ _) → slice_get sessions k ≡ Some s → (s.number ≡ k) × (s.passes.items ≡ first_passes o gates k)

-- the options fit this number of parts: each number is in its range, they have this number of parts, and an ordered set has one
pub record AreForParts (o : Options) (size : ℕ) : Type 0 where
  pub ranges : AreInRange (settings_of o)
  pub count : size ≡ o.parts
  pub whole : IsTrue (is_ordered o.kind) → o.parts ≡ 1
