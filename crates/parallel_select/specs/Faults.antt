-- The error codes of the faults.
use Rattle.std.specs.Prelude.{ℕ}
use Rattle.parallel_select.specs.declared.fault.SelectFault.{SelectFault}
use Rattle.parallel_select.specs.declared.fault.SelectFault.TheVariants as fault

-- the error codes that programs print
abbrev pub select_fault_number : SelectFault → ℕ
select_fault_number fault.Memory = 1
select_fault_number fault.BadOptions = 60
