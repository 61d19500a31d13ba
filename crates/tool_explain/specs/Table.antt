-- What the columns of a listing have for an instruction: its name, its operand, and where it jumps if it fails.
use Rattle.std.specs.Prelude.{ℕ, ◌-◌, ◌==◌, nat_lt, Bool, Option, Some, None, if◌then◌else◌, List, [], ◌∷◌, ◌++◌, length, slice_get, replicate, codes, decimal}
use Rattle.term_core.specs.Datum.{Datum}
use Rattle.prims_table.specs.Names.{name_of}
use Rattle.prims_table.specs.declared.prim.Primitive.{Primitive}
use Rattle.prims_table.specs.declared.prim.Primitive.TheVariants as prim
use Rattle.mcode.specs.Instr.{target_of}
use Rattle.mcode.specs.declared.instr.Instr.{Instr}
use Rattle.mcode.specs.declared.instr.Instr.TheVariants as instr
use Rattle.tool_io.specs.Lines.{text_of}

-- the name of an instruction
abbrev pub mnemonic : Instr → List ℕ
mnemonic instr.Load = codes "load"
mnemonic (instr.Const c) = codes "const"
mnemonic (instr.Get s) = codes "get"
mnemonic (instr.Bind s) = codes "bind"
mnemonic instr.Dup = codes "dup"
mnemonic instr.Drop = codes "drop"
mnemonic (instr.Tuple n l) = codes "tuple"
mnemonic (instr.Field i) = codes "field"
mnemonic (instr.Cons l) = codes "cons"
mnemonic instr.Head = codes "head"
mnemonic instr.Tail = codes "tail"
mnemonic (instr.Map l) = codes "map"
mnemonic (instr.Value k l) = codes "value"
mnemonic (instr.Equal l) = codes "equal"
mnemonic (instr.Jump l) = codes "jump"
mnemonic (instr.Call f n l) = codes "call"
mnemonic (instr.Int l) = codes "int"
mnemonic (instr.Arith f l) = codes "arith"
mnemonic (instr.Bool l) = codes "bool"
mnemonic (instr.Branch l) = codes "branch"
mnemonic (instr.MakeTuple n l) = codes "make_tuple"
mnemonic (instr.MakeCons l) = codes "make_cons"
mnemonic (instr.MakeMap k l) = codes "make_map"
mnemonic instr.Answer = codes "answer"
mnemonic instr.NoAnswer = codes "no_answer"
mnemonic (instr.Invoke r l) = codes "invoke"
mnemonic instr.Return = codes "return"
mnemonic instr.Fail = codes "fail"

-- the canonical text of a constant, or nothing if there is no constant
abbrev pub found_text : Option Datum → List ℕ
found_text None = []
found_text (Some d) = text_of d

-- a constant is long if its text has more than 60 bytes
abbrev pub is_long : List ℕ → Bool
is_long text = nat_lt 60 (length text)

-- a constant of this number stands for itself, or for its number if it is long
abbrev pub shown_text : ℕ → List ℕ → List ℕ
shown_text number text = if is_long text then codes "constant " ++ decimal number else text

abbrev pub constant_text : List Datum → ℕ → List ℕ
constant_text constants number = shown_text number (found_text (slice_get constants number))

-- a slot by its variable, as `$1`, or by its number if it has no variable, as `#0`
abbrev pub variable_text : Option ℕ → ℕ → List ℕ
variable_text None slot = 35 ∷ decimal slot
variable_text (Some variable) slot = 36 ∷ decimal variable

abbrev pub slot_text : List ℕ → ℕ → List ℕ
slot_text variables slot = variable_text (slice_get variables slot) slot

-- a function with its number of arguments, as `>/2`
abbrev pub function_text : Primitive → ℕ → List ℕ
function_text p arguments = name_of p ++ 47 ∷ decimal arguments

-- the operand of an instruction, or nothing if it has none
abbrev pub operand_text : List ℕ → List Datum → Instr → List ℕ
operand_text variables constants (instr.Const c) = constant_text constants c
operand_text variables constants (instr.Value k l) = constant_text constants k
operand_text variables constants (instr.MakeMap k l) = constant_text constants k
operand_text variables constants (instr.Get s) = slot_text variables s
operand_text variables constants (instr.Bind s) = slot_text variables s
operand_text variables constants (instr.Tuple n l) = decimal n
operand_text variables constants (instr.MakeTuple n l) = decimal n
operand_text variables constants (instr.Field i) = decimal i
operand_text variables constants (instr.Jump l) = decimal l
operand_text variables constants (instr.Invoke r l) = decimal r
operand_text variables constants (instr.Call f n l) = function_text (prim.Function f) n
operand_text variables constants (instr.Arith f l) = function_text (prim.Arithmetic f) 2
operand_text variables constants i = []

-- where an instruction jumps if it fails: its jump target, except for a jump, which never fails
abbrev pub otherwise_of : Instr → Option ℕ
otherwise_of (instr.Jump l) = None
otherwise_of i = target_of i

abbrev pub target_text : Option ℕ → List ℕ
target_text None = []
target_text (Some l) = codes "else " ++ decimal l

abbrev pub otherwise_text : Instr → List ℕ
otherwise_text i = target_text (otherwise_of i)

-- `n` blanks
abbrev pub blanks : ℕ → List ℕ
blanks n = replicate n 32

-- a line with a text that follows a column, and is at least one blank after the text before it; an empty text adds
-- nothing
abbrev pub in_column : ℕ → List ℕ → List ℕ → List ℕ
in_column column line text =
    if length text == 0 then line else (line ++ blanks (column - length line)) ++ 32 ∷ text
