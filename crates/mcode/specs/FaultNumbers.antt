-- The numbers that programs print for faults.
use Rattle.std.specs.Prelude.{ℕ}
use Rattle.mcode.specs.declared.fault.Fault.{Fault}
use Rattle.mcode.specs.declared.fault.Fault.TheVariants.{Memory, Limit, FrameOrder}

-- the number of a fault: out of memory 1, a count above its limit 36, a frame out of order 37
abbrev pub number_of : Fault → ℕ
number_of Memory = 1
number_of Limit = 36
number_of FrameOrder = 37
