-- The depth of the operand stack while routines run.
use Rattle.std.specs.Prelude.{ℕ, ◌+◌, ◌-◌, List, length, slice_index}
use Rattle.mcode.specs.Program.{Program, routine_at}
use Rattle.mcode.specs.declared.instr.Instr.{Instr}
use Rattle.mcode.specs.declared.instr.Instr.TheVariants as instr
use Rattle.verifier_types.specs.Shape.{Shape}
use Rattle.verifier_types.specs.Effect.{arguments_of}

-- the largest number of places in use while INVOKE's routine runs, given the depths of all bodies: those below the
-- arguments, and the routine's
abbrev pub inner_depth : Program → List ℕ → Instr → Shape → ℕ
inner_depth p ds (instr.Invoke r l) s =
    (length s.kinds - length (arguments_of (routine_at p r))) + slice_index ds r
inner_depth p ds i s = 0
