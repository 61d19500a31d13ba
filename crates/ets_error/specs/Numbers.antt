-- The numbers of errors, as in `E16`.
use Rattle.std.specs.Prelude.{ℕ}
use Rattle.term_core.specs.FaultNumbers as term
use Rattle.term_text.specs.FaultNumbers as text
use Rattle.mspec_syntax.specs.FaultNumbers as specification
use Rattle.code_file.specs.FaultNumbers as file
use Rattle.verifier_types.specs.FaultNumbers as code
use Rattle.part_core.specs.FaultNumbers.{fault_number, open_fault_number}
use Rattle.walks.specs.Query.{walk_fault_number}
use Rattle.parallel_select.specs.Faults.{select_fault_number}
use Rattle.ets_error.specs.declared.error.Error.{Error}
use Rattle.ets_error.specs.declared.error.Error.TheVariants as error

-- the number of an error: that of the refusal that it keeps, and 1 for out of memory
abbrev pub number_of : Error → ℕ
number_of error.Memory = 1
number_of (error.Term f) = term.number_of f
number_of (error.Text f) = text.number_of f
number_of (error.Spec f) = specification.number_of f
number_of (error.File f) = file.number_of f
number_of (error.Code f) = code.number_of f.fault
number_of (error.Open f) = open_fault_number f
number_of (error.Table f) = fault_number f
number_of (error.Walk f) = walk_fault_number f
number_of (error.Select f) = select_fault_number f
