-- Instructions, depending on where they jump.
use Rattle.std.specs.Prelude.{ℕ, ◌≡◌, List, MatchOption}
use Rattle.std.proofs.Common.{refl}
use Rattle.term_core.specs.Datum.{Datum}
use Rattle.compiler_assembly.specs.Assembled.{instr_of, resolved}
use Rattle.compiler_assembly.specs.Assembling.{instr_to, target_named}
use Rattle.compiler_assembly.specs.Line.{SourceOp}
use Rattle.compiler_assembly.specs.declared.op.Op.TheVariants as op

-- the instruction that jumps to the number to which its target leads is the instruction of the code
pub instr_reached : (cs : List Datum) (behind pc to : ℕ) (o : SourceOp) → MatchOption (target_named o) (Unit {0}) (λ t. to ≡ resolved behind pc t) → instr_to cs to o ≡ instr_of cs behind pc o
instr_reached cs behind pc to op.Load h = refl
instr_reached cs behind pc to o h = cc
