-- Where a body stands that was entered.
use Rattle.std.specs.Prelude.{ℕ, ◌≡◌, ◌-◌, ◌<◌, ◌≤◌, Option, Some, None, List, length, slice_get}
use Rattle.term_core.specs.Datum.{Datum}
use Rattle.mcode.specs.Machine.{Bindings, State, Outcome}
use Rattle.mcode.specs.Machine.Outcome.{Goes, Ends, Enters, Leaves}
use Rattle.mcode.specs.Program.{Program, Routine, routine_at, own_routine, body_of}
use Rattle.mcode.specs.Run.{entry, resumed}
use Rattle.mcode.specs.declared.instr.Instr.{Instr}
use Rattle.mcode.specs.declared.instr.Instr.TheVariants as instr
use Rattle.verifier_types.specs.Shape.{Shape}
use Rattle.verifier.specs.Typing.{HasShapes, IsOwnDepthAt}
use Rattle.machine_stack.specs.Cells.{joined, MayJoin}
use Rattle.machine_stack.specs.Slots.{AreHeld}
use Rattle.machine_stack.specs.Stack.{stack_at}
use Rattle.machine_step.specs.Fits.{IsFit, IsSeen, IsResult, GoesOn}
use Rattle.machine_step.specs.Flow.{state_at}
use Rattle.machine_bodies.specs.declared.activation.Activation.{Activation}
use Rattle.machine_bodies.specs.declared.came.Came.{Came}
use Rattle.machine_bodies.specs.declared.came.Came.TheVariants as came

-- there is a state for each instruction of the body, of which none is deeper than this
pub record HasDepth (p : Program) (room : ℕ) : Type 0 where
  pub depths : List ℕ
  pub shapes : ℕ → Shape
  pub typing : HasShapes p depths shapes
  pub seen : IsSeen p
  pub deepest : (pc : ℕ) (i : Instr) (depth : ℕ) → slice_get p.instructions pc ≡ Some i
      → IsOwnDepthAt p shapes pc i depth → depth ≤ room
  pub few : room < 65536

-- the state in which an activation stands, with its slots bound so
abbrev pub state_of : {A : Type 0} → Activation A → Bindings → State
state_of act slots = state_at act.pc (joined act.cells (stack_at act.stack.terms act.height)) slots

-- the activation is in a state that fits its body, with room for whatever comes
pub record Stands {A : Type 0} (act : Activation A) : Type 0 where
  pub slots : Bindings
  pub are : AreHeld slots act.slots.terms
  pub within : act.height ≤ length act.stack.terms
  pub deep : act.cells ≤ act.height - 1
  pub may : MayJoin act.cells (stack_at act.stack.terms act.height)
  pub typed : HasDepth act.body (length act.stack.terms)
  pub fits : IsFit act.body typed.shapes (state_of act slots)

-- it is of this body, and hasn't begun
pub record IsNew {A : Type 0} (p : Program) (act : Activation A) : Type 0 where
  pub body : act.body ≡ p
  pub pc : act.pc ≡ 0
  pub height : act.height ≡ 0
  pub cells : act.cells ≡ 0
  pub slots : length act.slots.terms ≡ p.slots
  pub typed : IsSeen p → HasDepth act.body (length act.stack.terms)

-- the cells that were asked for are made
pub record IsSettled {A : Type 0} (old new : Activation A) : Type 0 where
  pub pc : new.pc ≡ old.pc
  pub cells : new.cells ≡ 0
  pub slots : new.slots.terms ≡ old.slots.terms
  pub places : length new.stack.terms ≡ length old.stack.terms
  pub height : new.height ≡ old.height - old.cells
  pub stack : stack_at new.stack.terms new.height
      ≡ joined old.cells (stack_at old.stack.terms old.height)

-- the outcome is that the activation continues, in its state
abbrev pub GoesTo : {A : Type 0} → Activation A → Outcome → Type 0
GoesTo act o = (stands : Stands act) × (o ≡ Goes (state_of act stands.slots))

-- what an instruction comes to is this outcome
abbrev pub IsCome : {A : Type 0} → Activation A → Came → Outcome → Type 0
IsCome act came.On o = GoesTo act o
IsCome act (came.Answer place) o =
    (place < length act.stack.terms) × (o ≡ Ends (slice_get act.stack.terms place))
IsCome act came.NoAnswer o = o ≡ Ends None

-- its next instruction invokes this routine
abbrev pub IsInvoking : {A : Type 0} → Activation A → ℕ → Type 0
IsInvoking act r = (target : ℕ) × (slice_get act.body.instructions act.pc ≡ Some (instr.Invoke r target))

-- its body is one of the code's, which is seen from its main body
abbrev pub IsBodyOf : {A : Type 0} → Activation A → Program → Type 0
IsBodyOf act p = (b : ℕ) × (act.body ≡ body_of p b)

-- it waits in this state, and whatever this routine ends with, it goes on
pub record IsWaiting {A : Type 0} (t : Option Routine) (act : Activation A) (s : State) : Type 0 where
  pub slots : Bindings
  pub here : s ≡ state_at act.pc (stack_at act.stack.terms act.height) slots
  pub are : AreHeld slots act.slots.terms
  pub within : act.height ≤ length act.stack.terms
  pub none : act.cells ≡ 0
  pub inside : act.pc < length act.body.instructions
  pub few : act.pc < 65535
  pub typed : HasDepth act.body (length act.stack.terms)
  pub goes : (o : Option Datum) → IsResult t o
      → GoesOn act.body typed.shapes act.pc (resumed act.body s o)

-- the outcome is that this routine is entered, which is at its beginning, and the other activation waits for it
pub record IsInvoked {A : Type 0} (r : ℕ) (waits entered : Activation A) (o : Outcome) : Type 0 where
  pub arguments : List Datum
  pub state : State
  pub is : o ≡ Enters r arguments state
  pub waiting : IsWaiting (routine_at waits.body r) waits state
  pub stands : Stands entered
  pub begins : state_of entered stands.slots ≡ entry entered.body arguments

-- an outcome is that the routine ends so, as it may
abbrev pub IsLeft : Program → Option Datum → Outcome → Type 0
IsLeft p given o = (o ≡ Leaves given) × IsResult (own_routine p) given
