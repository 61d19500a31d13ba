-- Faults of texts, specifications, files and code as faults of the program. Each crate's out of memory becomes
-- `Memory`.
use Rattle.std.specs.Prelude.{ℕ}
use Rattle.term_text.specs.declared.fault.TextFault.{TextFault}
use Rattle.term_text.specs.declared.fault.TextFault.TheVariants as text
use Rattle.mspec_syntax.specs.declared.fault.SpecFault.{SpecFault}
use Rattle.mspec_syntax.specs.declared.fault.SpecFault.TheVariants as specification
use Rattle.code_file.specs.declared.fault.FileFault.{FileFault}
use Rattle.code_file.specs.declared.fault.FileFault.TheVariants as file
use Rattle.verifier_types.specs.declared.fault.Fault as code_fault
use Rattle.verifier_types.specs.declared.fault.Fault.TheVariants as code
use Rattle.tool_io.specs.declared.fault.ToolFault.{ToolFault}
use Rattle.tool_io.specs.declared.fault.ToolFault.TheVariants as fault

abbrev pub of_text : TextFault → ToolFault
of_text text.Memory = fault.Memory
of_text f = fault.Text f

abbrev pub of_specification : SpecFault → ToolFault
of_specification specification.Memory = fault.Memory
of_specification f = fault.Specification f

abbrev pub of_file : FileFault → ToolFault
of_file file.Memory = fault.Memory
of_file f = fault.File f

-- a fault of code in the body of this number
abbrev pub of_code : code_fault.Fault → ℕ → ToolFault
of_code code.Memory b = fault.Memory
of_code f b = fault.Code f b
