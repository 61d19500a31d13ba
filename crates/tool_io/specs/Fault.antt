-- The exit status and the error line of a fault.
use Rattle.std.specs.Prelude.{ℕ, zero, suc, Option, Some, None, List, [], ◌∷◌, ◌++◌, codes, ◌==◌, nat_le, if◌then◌else◌}
use Rattle.std.specs.List.{flat_map}
use Rattle.std.specs.Option.{option_to_list}
use Rattle.std.specs.Fmt.{decimal}
use Rattle.term_text.specs.FaultNumbers as text
use Rattle.mspec_syntax.specs.FaultNumbers as specification
use Rattle.code_file.specs.FaultNumbers as file
use Rattle.verifier_types.specs.FaultNumbers as code
use Rattle.tool_io.specs.declared.fault.ToolFault.{ToolFault}
use Rattle.tool_io.specs.declared.fault.ToolFault.TheVariants as fault

-- the error code of a fault, as in `E16`
abbrev pub number_of : ToolFault → ℕ
number_of fault.Memory = 1
number_of (fault.Text f) = text.number_of f
number_of fault.BadInput = 65
number_of (fault.Specification f) = specification.number_of f
number_of (fault.File f) = file.number_of f
number_of (fault.Code f b) = code.number_of f
number_of fault.TooSmall = 50
number_of fault.BadOptions = 60
number_of fault.ReadFailed = 70
number_of fault.WriteFailed = 71

-- the argument that names a body of code: its number, or nothing for the main body (0)
abbrev pub routine_of : ℕ → List ℕ
routine_of zero = []
routine_of (suc b) = suc b ∷ []

-- the arguments of a fault of code: the instruction, then the body unless it is the main one; the body alone where no
-- instruction is at fault
abbrev pub arguments_of_code : Option ℕ → ℕ → List ℕ
arguments_of_code None b = b ∷ []
arguments_of_code (Some pc) b = pc ∷ routine_of b

-- what follows the error code: a byte offset in the text or in the file; an instruction, then its body; a clause, then
-- a variable
abbrev pub arguments_of : ToolFault → List ℕ
arguments_of (fault.Text f) = option_to_list (text.place_of f)
arguments_of (fault.Specification f) =
    option_to_list (specification.clause_of f) ++ option_to_list (specification.variable_of f)
arguments_of (fault.File f) = option_to_list (file.place_of f)
arguments_of (fault.Code f b) = arguments_of_code (code.pc_of f) b
arguments_of f = []

-- the exit status for an error code: 3 if memory ran out (1), 4 if reading or writing failed (70 and above), else 2
abbrev pub status_by : ℕ → ℕ
status_by number = if number == 1 then 3 else if nat_le 70 number then 4 else 2

abbrev pub status_of : ToolFault → ℕ
status_of f = status_by (number_of f)

-- an argument as the error line has it: a blank and the decimal number
abbrev pub argument_text : ℕ → List ℕ
argument_text n = 32 ∷ decimal n

-- the error line: "error E", the error code, the arguments, and a line feed
abbrev pub line_of : ToolFault → List ℕ
line_of f =
    (codes "error E" ++ decimal (number_of f)) ++ flat_map argument_text (arguments_of f) ++ 10 ∷ []
