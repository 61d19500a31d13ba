-- The numbers of faults.
use Rattle.std.specs.Prelude.{ℕ}
use Rattle.term_core.specs.declared.fault.Fault.{Fault}
use Rattle.term_core.specs.declared.fault.Fault.TheVariants as fault

-- the number that programs print for a fault
abbrev pub number_of : Fault → ℕ
number_of fault.Memory = 1
number_of fault.TooDeep = 2
number_of fault.TooLong = 3
number_of fault.DuplicateKey = 4
