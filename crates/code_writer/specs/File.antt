-- The code file of a program.
use Rattle.std.specs.Prelude.{ℕ, ◌≡◌, ◌<◌, ◌^◌, List, [], ◌∷◌, ◌++◌, suc, length, slice_index_or, ◌≤◌, All}
use Rattle.std.specs.List.{flat_map}
use Rattle.term_core.specs.Limits.{IsTerm}
use Rattle.mcode.specs.Program.{Program, Routine, Frame, IsWhole, seen_body}
use Rattle.mcode.specs.declared.kind.Kind.{Kind}
use Rattle.mcode.specs.declared.kind.Kind.TheVariants as kind
use Rattle.mcode.specs.declared.instr.Instr.{Instr}
use Rattle.mcode.specs.declared.instr.Instr.TheVariants as instr
use Rattle.code_writer.specs.Spelling.{u16_bytes, constants_bytes, instruction_bytes, instructions_bytes, frames_bytes, body_bytes, routine_bytes}

-- the magic: EMSC in ASCII
abbrev pub magic : List ℕ
magic = 69 ∷ 77 ∷ 83 ∷ 67 ∷ []

-- the version of the format for code without routines
abbrev pub version : ℕ
version = 1

-- the version of the format for code with routines
abbrev pub routine_version : ℕ
routine_version = 2

-- The one file of code, given its routines. Without routines: the magic, the version, the number of slots, and then the
-- constants, the instructions and the frames, each after their number. With routines: the magic, the version, the
-- constants, the number of bodies, the main body, and the routines.
abbrev pub file_of : Program → List Routine → List ℕ
file_of p [] =
    magic
    ++ (u16_bytes version
    ++ (u16_bytes p.slots
    ++ (constants_bytes p.constants
    ++ (instructions_bytes p.instructions ++ frames_bytes p.frames))))
file_of p (t ∷ ts) =
    magic
    ++ (u16_bytes routine_version
    ++ (constants_bytes p.constants
    ++ (u16_bytes (suc (length (t ∷ ts)))
    ++ (body_bytes (seen_body p) ++ flat_map routine_bytes (t ∷ ts)))))

-- the one file of code
abbrev pub file_bytes : Program → List ℕ
file_bytes p = file_of p p.around.routines

-- the largest number of an instruction
abbrev pub most_opcode : ℕ
most_opcode = 28

-- the largest number of an instruction in code without routines; only code with routines has instructions above it
abbrev pub plain_opcode : ℕ
plain_opcode = 25

-- the number of an instruction, with which its bytes begin
abbrev pub instruction_number : Instr → ℕ
instruction_number i = slice_index_or (instruction_bytes i) 0 0

-- an instruction whose number is at most this one
abbrev pub IsUpTo : ℕ → Instr → Type 0
IsUpTo most i = instruction_number i ≤ most

-- a number that fits two bytes
abbrev pub IsU16 : ℕ → Type 0
IsU16 n = n < 2 ^ 16

-- a number that fits one byte
abbrev pub IsU8 : ℕ → Type 0
IsU8 n = n < 2 ^ 8

-- each argument of an instruction fits its bytes
abbrev pub HoldsArguments : Instr → Type 0
HoldsArguments (instr.Const c) = IsU16 c
HoldsArguments (instr.Get v) = IsU8 v
HoldsArguments (instr.Bind v) = IsU8 v
HoldsArguments (instr.Tuple n l) = IsU16 n × IsU16 l
HoldsArguments (instr.Field i) = IsU16 i
HoldsArguments (instr.Cons l) = IsU16 l
HoldsArguments (instr.Map l) = IsU16 l
HoldsArguments (instr.Value c l) = IsU16 c × IsU16 l
HoldsArguments (instr.Equal l) = IsU16 l
HoldsArguments (instr.Jump l) = IsU16 l
HoldsArguments (instr.Call f n l) = IsU16 n × IsU16 l
HoldsArguments (instr.Int l) = IsU16 l
HoldsArguments (instr.Arith a l) = IsU16 l
HoldsArguments (instr.Bool l) = IsU16 l
HoldsArguments (instr.Branch l) = IsU16 l
HoldsArguments (instr.MakeTuple n l) = IsU16 n × IsU16 l
HoldsArguments (instr.MakeCons l) = IsU16 l
HoldsArguments (instr.MakeMap c l) = IsU16 c × IsU16 l
HoldsArguments (instr.Invoke r l) = IsU16 r × IsU16 l
HoldsArguments i = Unit {0}

-- the size that a kind names fits its bytes
abbrev pub HoldsSize : Kind → Type 0
HoldsSize (kind.Tuple n) = IsU16 n
HoldsSize k = Unit {0}

-- each number of a place fits its bytes
abbrev pub HoldsPlace : ℕ × Kind → Type 0
HoldsPlace place = IsU16 place.0 × HoldsSize place.1

-- each number of a frame fits its bytes
pub record HoldsFrame (f : Frame) : Type 0 where
  pub pc : IsU16 f.pc
  pub depth : IsU16 f.depth
  pub places : All HoldsPlace f.places
  pub slots : All IsU8 f.slots

-- each number of a routine fits its bytes
pub record HoldsRoutine (t : Routine) : Type 0 where
  pub arguments : All HoldsSize t.arguments
  pub result : HoldsSize t.result
  pub instructions : All HoldsArguments t.body.instructions
  pub frames : All HoldsFrame t.body.frames

-- Code that has a file: if it has no routines, it has no instruction that only code with routines may have.
abbrev pub HasFile : Program → Type 0
HasFile p = p.around.routines ≡ [] → All (IsUpTo plain_opcode) p.instructions

-- the bytes are what is written for this code, and all its numbers fit their bytes
pub record IsFileOf (p : Program) (bytes : List ℕ) : Type 0 where
  pub constants : All IsTerm p.constants
  pub instructions : All HoldsArguments p.instructions
  pub frames : All HoldsFrame p.frames
  pub routines : All HoldsRoutine p.around.routines
  pub spelling : bytes ≡ file_bytes p

-- The bytes are the code file of this code: it is code that has a file, its constants are terms, its numbers fit their
-- bytes, and the bytes spell it.
pub record Spells (bytes : List ℕ) (p : Program) : Type 0 where
  pub program : IsWhole p
  pub file : HasFile p
  pub constants : All IsTerm p.constants
  pub instructions : All HoldsArguments p.instructions
  pub frames : All HoldsFrame p.frames
  pub routines : All HoldsRoutine p.around.routines
  pub spelling : bytes ≡ file_bytes p
