-- The listing of code: a line for each instruction of the main body, then of each routine.
use Rattle.std.specs.Prelude.{ℕ, suc, ◌-◌, List, [], ◌∷◌, ◌++◌, if◌then◌else◌, length, codes, decimal}
use Rattle.term_core.specs.Datum.{Datum}
use Rattle.mcode.specs.Program.{Program, Routine}
use Rattle.mcode.specs.declared.instr.Instr.{Instr}
use Rattle.tool_io.specs.Lines.{text_of}
use Rattle.tool_explain.specs.Table.{mnemonic, operand_text, otherwise_text, is_long, blanks, in_column}

-- the number of an instruction, right-aligned in five columns, and its name
abbrev pub begun_line : ℕ → List ℕ → List ℕ
begun_line pc name = (blanks (5 - length (decimal pc)) ++ decimal pc) ++ codes "  " ++ name

-- The line of an instruction: its number, its name, its operand and where it jumps if it fails. The operand follows
-- column 18 and the jump column 36.
abbrev pub instruction_line : List ℕ → List Datum → ℕ → Instr → List ℕ
instruction_line variables constants pc i =
    in_column 36
    (in_column 18 (begun_line pc (mnemonic i)) (operand_text variables constants i))
    (otherwise_text i)
    ++ 10 ∷ []

-- the texts of things one after the other, numbered from `n` in ascending order
abbrev pub numbered : {X : Type 0} → (ℕ → X → List ℕ) → ℕ → List X → List ℕ
numbered text n [] = []
numbered text n (x ∷ xs) = text n x ++ numbered text (suc n) xs

-- the lines of a body's instructions
abbrev pub body_lines : List ℕ → List Datum → List Instr → List ℕ
body_lines variables constants is = numbered (instruction_line variables constants) 0 is

-- the heading of a routine, with its number and how many arguments it has
abbrev pub heading : ℕ → Routine → List ℕ
heading n t = codes "routine " ++ decimal n ++ codes ", arguments " ++ decimal (length t.arguments) ++ codes "\n"

-- a routine's heading and its lines
abbrev pub routine_text : List ℕ → List Datum → ℕ → Routine → List ℕ
routine_text variables constants n t = heading n t ++ body_lines variables constants t.body.instructions

-- the line of a constant that the instructions name by its number, or nothing
abbrev pub constant_line : ℕ → Datum → List ℕ
constant_line n d = if is_long (text_of d) then codes "constant " ++ decimal n ++ codes ": " ++ text_of d ++ codes "\n" else []

-- the routines of code, and the constants that are too long for the lines of instructions
abbrev pub rest_of_listing : List ℕ → Program → List ℕ
rest_of_listing variables p =
    numbered (routine_text variables p.constants) 1 p.around.routines ++ numbered constant_line 0 p.constants

-- The listing of code: its main body, and the rest. The slots are those of these variables, which are in ascending order.
abbrev pub listing : List ℕ → Program → List ℕ
listing variables p = body_lines variables p.constants p.instructions ++ rest_of_listing variables p
