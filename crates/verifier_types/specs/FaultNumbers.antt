-- The numbers that programs print for faults, and the instruction that a fault names.
use Rattle.std.specs.Prelude.{ℕ, Option, Some, None}
use Rattle.verifier_types.specs.declared.fault.Fault.{Fault}
use Rattle.verifier_types.specs.declared.fault.Fault.TheVariants.{Memory, Underflow, Kind, Unbound, JumpOutside, JumpBack, Frame, FallsOff, Constant, Depth, Routine, Budget}

-- the number that programs print for a fault
abbrev pub number_of : Fault → ℕ
number_of Memory = 1
number_of (Underflow pc) = 40
number_of (Kind pc) = 41
number_of (Unbound pc) = 42
number_of (JumpOutside pc) = 43
number_of (JumpBack pc) = 44
number_of (Frame pc) = 45
number_of (FallsOff pc) = 46
number_of (Constant pc) = 47
number_of (Depth pc) = 48
number_of (Routine pc) = 49
number_of Budget = 39

-- the number of the instruction at fault, None if the fault names none
abbrev pub pc_of : Fault → Option ℕ
pc_of Memory = None
pc_of (Underflow pc) = Some pc
pc_of (Kind pc) = Some pc
pc_of (Unbound pc) = Some pc
pc_of (JumpOutside pc) = Some pc
pc_of (JumpBack pc) = Some pc
pc_of (Frame pc) = Some pc
pc_of (FallsOff pc) = Some pc
pc_of (Constant pc) = Some pc
pc_of (Depth pc) = Some pc
pc_of (Routine pc) = Some pc
pc_of Budget = None
