-- How far a run over all bodies has come.
use Rattle.std.specs.Prelude.{ℕ, ◌≡◌, ◌+◌, ◌≤◌, Option, List, [], ◌∷◌, reverse}
use Rattle.term_core.specs.Datum.{Datum}
use Rattle.mcode.specs.Program.{Program, routine_at, body_of}
use Rattle.mcode.specs.Run as run
use Rattle.mcode.specs.Run.{EndsFrom, HasRun}
use Rattle.mcode.specs.Run.Whole.{Running}
use Rattle.budget.specs.Paths.{most_budget}
use Rattle.machine_bodies.specs.Stands.{Stands, IsWaiting, state_of}
use Rattle.machine_bodies.specs.declared.activation.Activation.{Activation}
use Rattle.machine_bodies.specs.declared.bodies.Turn.{Turn}
use Rattle.machine_bodies.specs.declared.bodies.Turn.TheVariants as turn

-- these wait for body b, the nearest first, in these states
abbrev pub AreWaiting : {A : Type 0} → Program → ℕ → List (Activation A) → List run.Activation
    → Type 0
AreWaiting p b [] [] = Unit {0}
AreWaiting p b (act ∷ acts) (w ∷ ws) =
    (act.body ≡ body_of p w.body) × IsWaiting (routine_at p b) act w.state
    × AreWaiting p w.body acts ws
AreWaiting p b acts ws = ⊥

-- The run of the code for an object has executed `executed` instructions, is in this body, and these wait, the nearest
-- last. It is the only run that there is, and `left` more instructions lead to its answer.
pub record Going {A : Type 0} (p : Program) (object : Datum) (current : Activation A) (waiting : List (Activation A)) (executed : ℕ) : Type 0 where
  pub body : ℕ
  pub states : List run.Activation
  pub left : ℕ
  pub answer : Option Datum
  pub main : p.around.number ≡ 0
  pub whole : HasRun p object (executed + left) answer
  pub few : executed + left ≤ most_budget
  pub seen : current.body ≡ body_of p body
  pub stands : Stands current
  pub waits : AreWaiting p body (reverse waiting) states
  pub ends : EndsFrom p object left
      (Running (record { body = body; state = state_of current stands.slots }) states) answer

-- after a turn the run has come further, or has ended so
abbrev pub IsTurn : {A : Type 0} → Program → Datum → Activation A → List (Activation A) → ℕ
    → Turn A → Type 0
IsTurn p object current waiting executed turn.On = Going p object current waiting executed
IsTurn p object current waiting executed (turn.Over answer) = HasRun p object executed answer
