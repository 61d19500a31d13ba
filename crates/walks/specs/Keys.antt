-- How the methods for keys change what a session sees.
use Rattle.std.specs.Prelude.{ℕ, ◌≡◌, ◌<◌, ◌≤◌, ◌+◌, ◌⊎◌, Bool, true, false, Option, Some, None}
use Rattle.term_core.specs.Datum.{Datum}
use Rattle.part_core.specs.declared.fault.Fault.{Fault}
use Rattle.part_core.specs.declared.fault.Fault.TheVariants as fault
use Rattle.part_core.specs.Settings.{part_of}
use Rattle.part_core.specs.Acts.{Answer}
use Rattle.part_core.specs.Acts.Act.{First, Next}
use Rattle.part_core.specs.Acts.Answer.{Replied, Refused}
use Rattle.part_core.specs.Acts.Refusal.{BadKey}
use Rattle.part_core.specs.Acts.Said.{AtKey}
use Rattle.tables.specs.Options.{settings_of}
use Rattle.tables.specs.Turns.{Home, Views, TurnedAt, Turned}

-- a turn at each part from `from` on, up to `to`, none of which has a key
pub record Passed (h : Home) (from to : ℕ) (v w : Views) : Type 0 where
  pub none : (k : ℕ) → from ≤ k → k < to → TurnedAt h (v k) First (Some (Replied (AtKey None))) (w k)
  pub rest : (k : ℕ) → (k < from) ⊎ (to ≤ k) → w k ≡ v k

-- turns at parts without a key, and then one more turn, with this answer
pub record Stopped (h : Home) (from : ℕ) (answer : Option Answer) (v w : Views) : Type 0 where
  pub part : ℕ
  pub inside : (from ≤ part) × (part < h.options.parts)
  pub between : Views
  pub passed : Passed h from part v between
  pub last : Turned h part First answer between w

-- the first key of the parts from `from` on: turns at these parts until one has a key
abbrev pub FoundFirst : Home → ℕ → Option Datum → Views → Views → Type 0
FoundFirst h from (Some k) v w = Stopped h from (Some (Replied (AtKey (Some k)))) v w
FoundFirst h from None v w = Passed h from h.options.parts v w

-- the key after another: a turn at its part, and if that has none, turns at the parts after it
abbrev pub FoundNext : Home → Datum → Option Datum → Views → Views → Type 0
FoundNext h k next v w =
    ((j : Datum) × (next ≡ Some j) × Turned h (part_of (settings_of h.options) k) (Next k) (Some (Replied (AtKey next))) v w)
    ⊎ ((u : Views) × Turned h (part_of (settings_of h.options) k) (Next k) (Some (Replied (AtKey None))) v u
    × FoundFirst h (part_of (settings_of h.options) k + 1) next u w)

-- why there is no key after another in its part: it has no row, or the turn ran out of memory
abbrev pub RefusedAt : Home → ℕ → Datum → Fault → Views → Views → Type 0
RefusedAt h part k fault.BadKey v w = Turned h part (Next k) (Some (Refused BadKey)) v w
RefusedAt h part k fault.Memory v w = Turned h part (Next k) None v w
RefusedAt h part k other v w = ⊥

-- why there is no key after another in the table: for a reason at its part, or a turn at a later part ran out of memory
abbrev pub RefusedNext : Home → Datum → Fault → Views → Views → Type 0
RefusedNext h k f v w =
    RefusedAt h (part_of (settings_of h.options) k) k f v w
    ⊎ ((f ≡ fault.Memory) × (u : Views) × Turned h (part_of (settings_of h.options) k) (Next k) (Some (Replied (AtKey None))) v u
    × Stopped h (part_of (settings_of h.options) k + 1) None u w)

-- a reply that is a key, or that there is none
abbrev pub is_at_key : Answer → Bool
is_at_key (Replied (AtKey k)) = true
is_at_key answer = false
