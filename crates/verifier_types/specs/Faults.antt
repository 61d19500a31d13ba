-- What a fault says about an instruction in its state: the first of its checks that fails.
use Rattle.std.specs.Prelude.{ℕ, suc, ◌≡◌, ◌<◌, ◌≤◌, ◌⊎◌, IsTrue, Some, None, List, length, false}
use Rattle.mcode.specs.Instr.{target_of, goes_on}
use Rattle.mcode.specs.Program.{Program, frame_at}
use Rattle.mcode.specs.declared.instr.Instr.{Instr}
use Rattle.verifier_types.specs.Shape.{Shape}
use Rattle.verifier_types.specs.Effect.{needs, IsConstantFit, kinds_fit, passes, slot_fits, left_shape}
use Rattle.verifier_types.specs.Inner.{inner_depth}
use Rattle.verifier_types.specs.Fit.{most_places, IsTargetFit, IsPlaced, IsJumpFit}
use Rattle.verifier_types.specs.declared.fault.Fault.{Fault}
use Rattle.verifier_types.specs.declared.fault.Fault.TheVariants as fault

-- the instruction may jump to this target
abbrev pub JumpsTo : Instr → ℕ → Type 0
JumpsTo i target = target_of i ≡ Some target

-- the instruction may jump to a target inside the code and after it that has no frame
pub record IsUnframed (p : Program) (pc : ℕ) (i : Instr) : Type 0 where
  pub target : ℕ
  pub jumps : JumpsTo i target
  pub inside : target < length p.instructions
  pub ahead : pc < target
  pub bare : frame_at p.frames target ≡ None

-- the target is right, the instruction is allowed in its body, and the constant is right
pub record IsNamingFit (p : Program) (pc : ℕ) (i : Instr) : Type 0 where
  pub target : IsTargetFit p pc i
  pub placed : IsPlaced p i
  pub constant : IsConstantFit p i

-- as `IsNamingFit`, and there are as many operands as are needed
pub record AreOperandsFit (p : Program) (pc : ℕ) (i : Instr) (s : Shape) : Type 0 where
  pub naming : IsNamingFit p pc i
  pub operands : needs p i ≤ length s.kinds

-- as `AreOperandsFit`, and the operands are of the kinds that are needed and that are passed
pub record AreKindsFit (p : Program) (pc : ℕ) (i : Instr) (s : Shape) : Type 0 where
  pub operands : AreOperandsFit p pc i s
  pub kinds : IsTrue (kinds_fit i s.kinds)
  pub passed : IsTrue (passes p i s.kinds)

-- as `AreKindsFit`, and the slot is right
pub record IsSlotFit (p : Program) (pc : ℕ) (i : Instr) (s : Shape) : Type 0 where
  pub kinds : AreKindsFit p pc i s
  pub slot : IsTrue (slot_fits p i s.bound)

-- as `IsSlotFit`, and neither the stack that is left nor that of a routine is too deep
pub record IsDepthFit (p : Program) (ds : List ℕ) (pc : ℕ) (i : Instr) (s : Shape) : Type 0 where
  pub slot : IsSlotFit p pc i s
  pub depth : length (left_shape p i s).kinds ≤ most_places
  pub inner : inner_depth p ds i s ≤ most_places

-- as `IsDepthFit`, and the state of the jump is at or below the frame
pub record IsLeavingFit (p : Program) (ds : List ℕ) (pc : ℕ) (i : Instr) (s : Shape) : Type 0 where
  pub depth : IsDepthFit p ds pc i s
  pub jump : IsJumpFit p i s

-- What a fault says about the instruction at pc in its state, given the depths of all bodies. It is the first in this
-- order that is wrong: the target, the body, the constant, the number of operands, their kinds, the slot, the depth,
-- the jump, or that the instruction goes on although it is the last.
abbrev pub IsFaultIn : Program → List ℕ → ℕ → Instr → Shape → Fault → Type 0
IsFaultIn p ds pc i s fault.Memory = ⊥
IsFaultIn p ds pc i s fault.Budget = ⊥
IsFaultIn p ds pc i s (fault.JumpOutside at) =
    (at ≡ pc) × ((target : ℕ) × JumpsTo i target × (length p.instructions ≤ target))
IsFaultIn p ds pc i s (fault.JumpBack at) =
    (at ≡ pc) × ((target : ℕ) × JumpsTo i target × (target < length p.instructions) × (target ≤ pc))
IsFaultIn p ds pc i s (fault.Frame at) =
    (at ≡ pc) × (IsUnframed p pc i ⊎ (IsDepthFit p ds pc i s × ¬ IsJumpFit p i s))
IsFaultIn p ds pc i s (fault.Routine at) = (at ≡ pc) × IsTargetFit p pc i × ¬ IsPlaced p i
IsFaultIn p ds pc i s (fault.Constant at) =
    (at ≡ pc) × IsTargetFit p pc i × IsPlaced p i × ¬ IsConstantFit p i
IsFaultIn p ds pc i s (fault.Underflow at) =
    (at ≡ pc) × IsNamingFit p pc i × (length s.kinds < needs p i)
IsFaultIn p ds pc i s (fault.Kind at) =
    (at ≡ pc) × AreOperandsFit p pc i s
    × ((kinds_fit i s.kinds ≡ false) ⊎ (passes p i s.kinds ≡ false))
IsFaultIn p ds pc i s (fault.Unbound at) =
    (at ≡ pc) × AreKindsFit p pc i s × (slot_fits p i s.bound ≡ false)
IsFaultIn p ds pc i s (fault.Depth at) =
    (at ≡ pc) × IsSlotFit p pc i s
    × ((most_places < length (left_shape p i s).kinds) ⊎ (most_places < inner_depth p ds i s))
IsFaultIn p ds pc i s (fault.FallsOff at) =
    (at ≡ pc) × IsLeavingFit p ds pc i s × IsTrue (goes_on i) × (length p.instructions ≤ suc pc)
