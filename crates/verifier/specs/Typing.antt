-- When code is typed: in each body there is a state for each instruction, such that each instruction finds what it
-- needs and leaves what the next one begins with.
use Rattle.std.specs.Prelude.{ℕ, zero, suc, ◌≡◌, ◌<◌, ◌≤◌, ◌⊎◌, false, IfSome, Option, Some, None, List, length, reverse, replicate, slice_get, slice_index, All}
use Rattle.std.specs.Option.{option_and_then}
use Rattle.budget.specs.Paths.{AreBudgets, most_budget}
use Rattle.mcode.specs.Program.{Program, Frame, alone, frame_at, own_routine, body_of, most_parts}
use Rattle.mcode.specs.declared.instr.Instr.{Instr}
use Rattle.verifier_types.specs.Shape.{Shape, shape_of, IsAtOrBelow}
use Rattle.verifier_types.specs.Effect.{arguments_of, left_shape, falling_shape}
use Rattle.verifier_types.specs.Inner.{inner_depth}
use Rattle.verifier_types.specs.Fit.{most_places, IsFrameFit, IsTypedAt}

-- ---- one body

-- the state in which a body begins: a routine with its arguments as its whole stack, the main body with nothing, and
-- both with no slot bound
abbrev pub entry_shape : Program → Shape
entry_shape p =
    record { kinds = reverse (arguments_of (own_routine p)); bound = replicate p.slots false }

-- An instruction with a frame begins in the state of the frame, and the state that falls into it is at or below the
-- frame. Without a frame, it begins in the state that falls into it.
abbrev pub Begins : Program → Option Shape → Option Frame → Shape → Type 0
Begins p falling None s = falling ≡ Some s
Begins p falling (Some f) s = (s ≡ shape_of p f) × IfSome falling (λ t. IsAtOrBelow t f)

-- the state that falls into an instruction, given the states of all
abbrev pub falling_into : Program → (ℕ → Shape) → ℕ → Option Shape
falling_into p shapes zero = Some (entry_shape p)
falling_into p shapes (suc pc) =
    option_and_then (λ i. falling_shape p i (shapes pc)) (slice_get p.instructions pc)

-- The instruction at pc begins in its state and is typed there, and the routine that it invokes, if any, has room,
-- given the depths of all bodies.
pub record IsTypedIn (p : Program) (ds : List ℕ) (shapes : ℕ → Shape) (pc : ℕ) (i : Instr) : Type 0 where
  pub begins : Begins p (falling_into p shapes pc) (frame_at p.frames pc) (shapes pc)
  pub typed : IsTypedAt p pc i (shapes pc)
  pub inner : inner_depth p ds i (shapes pc) ≤ most_places

-- each instruction before this one begins in its state and is typed there
abbrev pub AreTypedBelow : Program → List ℕ → (ℕ → Shape) → ℕ → Type 0
AreTypedBelow p ds shapes n =
    (pc : ℕ) (i : Instr) → pc < n → slice_get p.instructions pc ≡ Some i
    → IsTypedIn p ds shapes pc i

-- these are states for all instructions of the body, which has at least one
pub record HasShapes (p : Program) (ds : List ℕ) (shapes : ℕ → Shape) : Type 0 where
  pub frames : All (IsFrameFit p) p.frames
  pub some : 0 < length p.instructions
  pub each : AreTypedBelow p ds shapes (length p.instructions)

-- ---- depths

-- the depth of a state before or after an instruction
abbrev pub IsOwnDepthAt : Program → (ℕ → Shape) → ℕ → Instr → ℕ → Type 0
IsOwnDepthAt p shapes pc i n =
    (n ≡ length (shapes pc).kinds) ⊎ (n ≡ length (left_shape p i (shapes pc)).kinds)

-- the depth of a state before or after an instruction, or while the routine runs that it invokes
abbrev pub IsDepthAt : Program → List ℕ → (ℕ → Shape) → ℕ → Instr → ℕ → Type 0
IsDepthAt p ds shapes pc i n =
    IsOwnDepthAt p shapes pc i n ⊎ (n ≡ inner_depth p ds i (shapes pc))

-- n is the greatest of what is found at instructions of the body
pub record IsGreatest (p : Program) (At : ℕ → Instr → ℕ → Type 0) (n : ℕ) : Type 0 where
  pub reached : (pc : ℕ) × (i : Instr) × (slice_get p.instructions pc ≡ Some i) × At pc i n
  pub greatest : (pc : ℕ) (i : Instr) (m : ℕ) → slice_get p.instructions pc ≡ Some i
      → At pc i m → m ≤ n

-- the greatest depth of a state before or after an instruction of the body
pub record IsOwnDepth (p : Program) (n : ℕ) : Type 0 where
  pub depths : List ℕ
  pub shapes : ℕ → Shape
  pub typing : HasShapes p depths shapes
  pub most : IsGreatest p (IsOwnDepthAt p shapes) n

-- the greatest depth of a state before or after an instruction of the body, or while a routine runs that it invokes
pub record IsBodyDepth (p : Program) (ds : List ℕ) (n : ℕ) : Type 0 where
  pub shapes : ℕ → Shape
  pub typing : HasShapes p ds shapes
  pub most : IsGreatest p (IsDepthAt p ds shapes) n

-- from a body on, these are the depths of all bodies
pub record AreBodyDepths (p : Program) (from : ℕ) (ds : List ℕ) : Type 0 where
  pub count : length ds ≡ suc (length p.around.routines)
  pub each : (b : ℕ) → from ≤ b → b ≤ length p.around.routines
      → IsBodyDepth (body_of p b) ds (slice_index ds b)

-- the greatest depth of the main body
abbrev pub IsDepth : Program → ℕ → Type 0
IsDepth p n = (ds : List ℕ) × AreBodyDepths p 0 ds × (n ≡ slice_index ds 0)

-- ---- code

-- From a body on, there is a state for each instruction of each body, and these are the depths and the budgets of all,
-- none above the limit.
pub record AreTypedFrom (p : Program) (from : ℕ) (depths budgets : List ℕ) : Type 0 where
  pub bodies : (b : ℕ) → from ≤ b → b ≤ length p.around.routines
      → (shapes : ℕ → Shape) × HasShapes (body_of p b) depths shapes
  pub deep : AreBodyDepths p from depths
  pub limits : AreBudgets p from budgets
  pub few : (b : ℕ) → from ≤ b → slice_index budgets b ≤ most_budget

-- there is a state for each instruction of each body, and no body's budget is above the limit
pub record IsTyped (p : Program) : Type 0 where
  pub depths : List ℕ
  pub budgets : List ℕ
  pub bodies : (b : ℕ) → b ≤ length p.around.routines
      → (shapes : ℕ → Shape) × HasShapes (body_of p b) depths shapes
  pub deep : AreBodyDepths p 0 depths
  pub limits : AreBudgets p 0 budgets
  pub few : (b : ℕ) → slice_index budgets b ≤ most_budget

-- code without routines, with these states for all instructions of its body
pub record IsPlain (p : Program) (shapes : ℕ → Shape) : Type 0 where
  pub around : p.around ≡ alone
  pub few : length p.instructions ≤ most_parts
  pub frames : All (IsFrameFit p) p.frames
  pub some : 0 < length p.instructions
  pub begins : (pc : ℕ) (i : Instr) → slice_get p.instructions pc ≡ Some i
      → Begins p (falling_into p shapes pc) (frame_at p.frames pc) (shapes pc)
  pub typed : (pc : ℕ) (i : Instr) → slice_get p.instructions pc ≡ Some i
      → IsTypedAt p pc i (shapes pc)
