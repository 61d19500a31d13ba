-- Which error each refusal becomes. Out of memory is `Memory`, whoever refused; every other refusal is kept whole.
use Rattle.term_core.specs.declared.fault.Fault as term_fault
use Rattle.term_core.specs.declared.fault.Fault.TheVariants as term
use Rattle.term_text.specs.declared.fault.TextFault.{TextFault}
use Rattle.term_text.specs.declared.fault.TextFault.TheVariants as text
use Rattle.mspec_syntax.specs.declared.fault.SpecFault.{SpecFault}
use Rattle.mspec_syntax.specs.declared.fault.SpecFault.TheVariants as specification
use Rattle.code_file.specs.declared.fault.FileFault.{FileFault}
use Rattle.code_file.specs.declared.fault.FileFault.TheVariants as file
use Rattle.verifier.specs.declared.fault.BodyFault.{BodyFault}
use Rattle.verifier_types.specs.declared.fault.Fault as code_fault
use Rattle.verifier_types.specs.declared.fault.Fault.TheVariants as code
use Rattle.part_core.specs.declared.fault.OpenFault.{OpenFault}
use Rattle.part_core.specs.declared.fault.OpenFault.TheVariants as opening
use Rattle.part_core.specs.declared.fault.Fault as part_fault
use Rattle.part_core.specs.declared.fault.Fault.TheVariants as part
use Rattle.walks.specs.declared.fault.WalkFault.{WalkFault}
use Rattle.walks.specs.declared.fault.WalkFault.TheVariants as walk
use Rattle.parallel_select.specs.declared.fault.SelectFault.{SelectFault}
use Rattle.parallel_select.specs.declared.fault.SelectFault.TheVariants as select
use Rattle.ets_error.specs.declared.error.Error.{Error}
use Rattle.ets_error.specs.declared.error.Error.TheVariants as error

-- a term that can't be made
abbrev pub of_term : term_fault.Fault → Error
of_term term.Memory = error.Memory
of_term f = error.Term f

-- a text that spells no terms
abbrev pub of_text : TextFault → Error
of_text text.Memory = error.Memory
of_text f = error.Text f

-- a term that is no specification
abbrev pub of_specification : SpecFault → Error
of_specification specification.Memory = error.Memory
of_specification f = error.Spec f

-- bytes that are no code file
abbrev pub of_file : FileFault → Error
of_file file.Memory = error.Memory
of_file f = error.File f

-- code that the verifier rejects; the fault decides, whichever body has it
abbrev pub of_code_at : BodyFault → code_fault.Fault → Error
of_code_at f code.Memory = error.Memory
of_code_at f g = error.Code f

abbrev pub of_code : BodyFault → Error
of_code f = of_code_at f f.fault

-- a table that can't be opened
abbrev pub of_opening : OpenFault → Error
of_opening opening.Memory = error.Memory
of_opening f = error.Open f

-- an operation that a table rejects
abbrev pub of_table : part_fault.Fault → Error
of_table part.Memory = error.Memory
of_table f = error.Table f

-- a walk that a table rejects
abbrev pub of_walk : WalkFault → Error
of_walk walk.Memory = error.Memory
of_walk f = error.Walk f

-- a selection by several workers that is rejected
abbrev pub of_selection : SelectFault → Error
of_selection select.Memory = error.Memory
of_selection f = error.Select f
