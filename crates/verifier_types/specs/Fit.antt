-- When a frame is fit, and when an instruction is typed in a state: it finds what it needs, and leaves what it is
-- allowed to leave.
use Rattle.std.specs.Prelude.{ℕ, suc, ◌≡◌, ◌<◌, ◌≤◌, IsTrue, IsSome, IfSome, length, All}
use Rattle.mcode.specs.Instr.{target_of, goes_on}
use Rattle.mcode.specs.Program.{Program, Frame, frame_at, place_number, routine_at}
use Rattle.mcode.specs.declared.instr.Instr.{Instr}
use Rattle.mcode.specs.declared.instr.Instr.TheVariants as instr
use Rattle.verifier_types.specs.Shape.{Shape, IsCutBelow}
use Rattle.verifier_types.specs.Effect.{needs, IsConstantFit, kinds_fit, passes, slot_fits, left_shape, jump_shape}

-- the largest number of places of the stack
abbrev pub most_places : ℕ
most_places = 16384

-- the frame is at an instruction other than the first, not deeper than allowed, with places within its depth and slots
-- within those of the code
pub record IsFrameFit (p : Program) (f : Frame) : Type 0 where
  pub later : 0 < f.pc
  pub inside : f.pc < length p.instructions
  pub depth : f.depth ≤ most_places
  pub places : All (λ place. place_number place < f.depth) f.places
  pub slots : All (λ slot. slot < p.slots) f.slots

-- the target of the jump of the instruction at pc is inside the code, after it, and has a frame
pub record IsTarget (p : Program) (pc target : ℕ) : Type 0 where
  pub inside : target < length p.instructions
  pub ahead : pc < target
  pub framed : IsSome (frame_at p.frames target)

abbrev pub IsTargetFit : Program → ℕ → Instr → Type 0
IsTargetFit p pc i = IfSome (target_of i) (λ target. IsTarget p pc target)

-- The instruction is allowed in the body that is viewed: ANSWER and NONE in the main body, RETURN and FAIL in a
-- routine, and INVOKE if its routine exists and has a higher number than the body.
abbrev pub IsPlaced : Program → Instr → Type 0
IsPlaced p (instr.Invoke r l) = (p.around.number < r) × IsSome (routine_at p r)
IsPlaced p instr.Answer = p.around.number ≡ 0
IsPlaced p instr.NoAnswer = p.around.number ≡ 0
IsPlaced p instr.Return = 0 < p.around.number
IsPlaced p instr.Fail = 0 < p.around.number
IsPlaced p i = Unit {0}

-- if the instruction may jump to a frame, the state of that jump is at or below it after the cut
abbrev pub IsJumpFit : Program → Instr → Shape → Type 0
IsJumpFit p i s =
    IfSome (target_of i) (λ target. IfSome (frame_at p.frames target)
    (λ f. IsCutBelow (jump_shape p i s) f))

-- the instruction at pc finds in this state what it needs, and leaves what it is allowed to leave
pub record IsTypedAt (p : Program) (pc : ℕ) (i : Instr) (s : Shape) : Type 0 where
  pub target : IsTargetFit p pc i
  pub placed : IsPlaced p i
  pub constant : IsConstantFit p i
  pub operands : needs p i ≤ length s.kinds
  pub kinds : IsTrue (kinds_fit i s.kinds)
  pub passed : IsTrue (passes p i s.kinds)
  pub slot : IsTrue (slot_fits p i s.bound)
  pub depth : length (left_shape p i s).kinds ≤ most_places
  pub jump : IsJumpFit p i s
  pub last : IsTrue (goes_on i) → suc pc < length p.instructions
