-- Instructions that are typed one after the other.
use Rattle.std.specs.Prelude.{ℕ, zero, suc, ◌≡◌, ◌≤◌, IsTrue, Some, length, slice_get}
use Rattle.mcode.specs.Program.{Program, frame_at}
use Rattle.mcode.specs.declared.instr.Instr.{Instr}
use Rattle.verifier_types.specs.Effect.{needs, IsConstantFit, kinds_fit, slot_fits, left_shape, falling_shape}
use Rattle.verifier_types.specs.Shape.{Shape}
use Rattle.verifier_types.specs.Fit.{IsTargetFit, IsJumpFit}
use Rattle.verifier.specs.Typing.{Begins}

-- the instruction at pc finds what it needs, leaves at most `most` places, and may jump where it does; what comes after
-- it is not examined
pub record IsFit (p : Program) (most pc : ℕ) (i : Instr) (s : Shape) : Type 0 where
  pub target : IsTargetFit p pc i
  pub constant : IsConstantFit p i
  pub operands : needs p i ≤ length s.kinds
  pub kinds : IsTrue (kinds_fit i s.kinds)
  pub slot : IsTrue (slot_fits p i s.bound)
  pub depth : length (left_shape p i s).kinds ≤ most
  pub jump : IsJumpFit p i s

-- from pc on, n instructions fit, the first in state s, and the one after them begins in state t
abbrev pub Flows : Program → ℕ → ℕ → Shape → ℕ → Shape → Type 0
Flows p most pc s zero t = s ≡ t
Flows p most pc s (suc n) t =
    (i : Instr) × (slice_get p.instructions pc ≡ Some i) × IsFit p most pc i s
    × ((u : Shape) × Begins p (falling_shape p i s) (frame_at p.frames (suc pc)) u
    × Flows p most (suc pc) u n t)
