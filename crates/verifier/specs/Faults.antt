-- What a fault of code says, and that it is the first.
use Rattle.std.specs.Prelude.{ℕ, suc, ◌≡◌, ◌<◌, ◌≤◌, ◌⊎◌, Option, Some, List, length, slice_get, All, take}
use Rattle.budget.specs.Paths.{IsBodyBudget, most_budget}
use Rattle.mcode.specs.Program.{Program, Frame, frame_at, body_of}
use Rattle.mcode.specs.declared.instr.Instr.{Instr}
use Rattle.verifier_types.specs.Shape.{Shape}
use Rattle.verifier_types.specs.Fit.{IsFrameFit}
use Rattle.verifier_types.specs.Faults.{IsFaultIn}
use Rattle.verifier_types.specs.declared.fault.Fault.{Fault}
use Rattle.verifier_types.specs.declared.fault.Fault.TheVariants as fault
use Rattle.verifier.specs.Typing.{Begins, falling_into, AreTypedBelow, HasShapes, AreTypedFrom}

-- There is no state in which the instruction can begin: none falls into it and it has no frame, or the state that falls
-- into it is not at or below its frame.
abbrev pub HasNoBeginning : Program → Option Shape → Option Frame → Type 0
HasNoBeginning p falling frame = (s : Shape) → ¬ Begins p falling frame s

-- the instruction is the first that is not typed, given the depths of all bodies, and the fault says why
pub record IsFirstUntyped (p : Program) (ds : List ℕ) (told : Fault) : Type 0 where
  pub pc : ℕ
  pub instr : Instr
  pub shapes : ℕ → Shape
  pub frames : All (IsFrameFit p) p.frames
  pub here : slice_get p.instructions pc ≡ Some instr
  pub before : AreTypedBelow p ds shapes pc
  pub why :
      ((told ≡ fault.Frame pc) × HasNoBeginning p (falling_into p shapes pc) (frame_at p.frames pc))
      ⊎ (Begins p (falling_into p shapes pc) (frame_at p.frames pc) (shapes pc)
      × IsFaultIn p ds pc instr (shapes pc) told)

-- the frame is the first that is not fit
pub record IsFirstUnfit (p : Program) (told : Fault) : Type 0 where
  pub place : ℕ
  pub frame : Frame
  pub here : slice_get p.frames place ≡ Some frame
  pub before : All (IsFrameFit p) (take place p.frames)
  pub unfit : ¬ IsFrameFit p frame
  pub is : told ≡ fault.Frame frame.pc

-- the frames are fit, and there is no instruction
pub record IsEmpty (p : Program) (told : Fault) : Type 0 where
  pub frames : All (IsFrameFit p) p.frames
  pub none : length p.instructions ≡ 0
  pub is : told ≡ fault.FallsOff 0

-- why a body is not typed, in this order: a frame is not fit, there is no instruction, or an instruction is not typed
abbrev pub IsBodyFault : Program → List ℕ → Fault → Type 0
IsBodyFault p ds told = IsFirstUnfit p told ⊎ (IsEmpty p told ⊎ IsFirstUntyped p ds told)

-- the body is typed, but its budget is above the limit
pub record IsBodyOver (p : Program) (ds budgets : List ℕ) (told : Fault) : Type 0 where
  pub shapes : ℕ → Shape
  pub typing : HasShapes p ds shapes
  pub budget : ℕ
  pub limit : IsBodyBudget p budgets budget
  pub over : most_budget < budget
  pub is : told ≡ fault.Budget

-- Why code is not typed: the bodies with higher numbers are typed, but this one is not, or its budget is above the
-- limit.
pub record IsFirstFault (p : Program) (b : ℕ) (told : Fault) : Type 0 where
  pub depths : List ℕ
  pub budgets : List ℕ
  pub inside : b ≤ length p.around.routines
  pub behind : AreTypedFrom p (suc b) depths budgets
  pub why :
      IsBodyFault (body_of p b) depths told ⊎ IsBodyOver (body_of p b) depths budgets told
