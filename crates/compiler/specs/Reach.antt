-- The states that a run comes to.
use Rattle.std.specs.Prelude.{ℕ, zero, suc, ◌≡◌, List}
use Rattle.term_core.specs.Datum.{Datum}
use Rattle.mcode.specs.Machine.{Bindings, State, Outcome, step}
use Rattle.mcode.specs.Machine.Outcome.{Goes}
use Rattle.mcode.specs.Program.{Program}

-- the state at an instruction, with this stack from its top and these slots
abbrev pub at : ℕ → List Datum → Bindings → State
at pc stack slots = record { pc = pc; stack = stack; slots = slots }

-- after n instructions from the first state, the run is in the second
abbrev pub ComesIn : Program → Datum → ℕ → State → State → Type 0
ComesIn p object zero s t = s ≡ t
ComesIn p object (suc n) s t =
    (u : State) × (step p object s ≡ Goes u) × ComesIn p object n u t

-- after some number of instructions from the first state, the run is in the second
abbrev pub Comes : Program → Datum → State → State → Type 0
Comes p object s t = (n : ℕ) × ComesIn p object n s t

-- an outcome is a state from which the run comes to this one
abbrev pub Lands : Program → Datum → Outcome → State → Type 0
Lands p object outcome t = (s : State) × (outcome ≡ Goes s) × Comes p object s t
