-- Laws of the machine, over whole runs.
use Rattle.std.specs.Prelude.{ℕ, ◌≡◌, ◌≢◌, ◌≤◌, Option}
use Rattle.term_core.specs.Datum.{Datum}
use Rattle.mcode.specs.Answer.{answer_of}
use Rattle.mcode.specs.Program.{Program}
use Rattle.mcode.specs.Run.{HasRun, after, begin}
use Rattle.mcode.specs.Run.Whole.{Lost}
use Rattle.budget.specs.Paths.{IsBudget}
use Rattle.verifier.specs.Typing.{IsTyped}

-- runs on one object execute as many instructions, and end alike
abbrev pub IsDeterministic : Type 0
IsDeterministic =
    (p : Program) (object : Datum) (n m : ℕ) (a b : Option Datum) → HasRun p object n a
    → HasRun p object m b → (n ≡ m) × (a ≡ b)

-- however far a run of typed code has come, which is seen from its main body, it is not lost: in whichever body it is,
-- it finds what the instruction there needs
abbrev pub TypedCodeIsNeverStuck : Type 0
TypedCodeIsNeverStuck =
    (p : Program) (object : Datum) → p.around.number ≡ 0 → IsTyped p → (n : ℕ)
    → after p object n (begin p) ≢ Lost

-- no run executes more instructions than the budget of its code
abbrev pub RunsAreWithinBudget : Type 0
RunsAreWithinBudget =
    (p : Program) (object : Datum) (n : ℕ) (a : Option Datum) (budget : ℕ) → IsBudget p budget
    → HasRun p object n a → n ≤ budget

-- there is a run of typed code on each object
abbrev pub TypedCodeEnds : Type 0
TypedCodeEnds =
    (p : Program) (object : Datum) → p.around.number ≡ 0 → IsTyped p → (n : ℕ)
    × (a : Option Datum) × HasRun p object n a

-- each run of typed code ends with the code's answer on the object
abbrev pub RunsEndWithTheAnswer : Type 0
RunsEndWithTheAnswer =
    (p : Program) (object : Datum) → p.around.number ≡ 0 → IsTyped p → (n : ℕ)
    (a : Option Datum) → HasRun p object n a → a ≡ answer_of p object
