-- The error codes of the refusals.
use Rattle.std.specs.Prelude.{ℕ}
use Rattle.part_core.specs.declared.fault.Fault.{Fault}
use Rattle.part_core.specs.declared.fault.Fault.TheVariants as fault
use Rattle.part_core.specs.declared.fault.OpenFault.{OpenFault}
use Rattle.part_core.specs.declared.fault.OpenFault.TheVariants as open_fault

abbrev pub fault_number : Fault → ℕ
fault_number fault.Memory = 1
fault_number fault.TooSmall = 50
fault_number fault.FixLimit = 51
fault_number fault.NotFixed = 52
fault_number fault.BadKey = 53
fault_number fault.CursorOutside = 54

abbrev pub open_fault_number : OpenFault → ℕ
open_fault_number open_fault.Memory = 1
open_fault_number open_fault.BadOptions = 60
