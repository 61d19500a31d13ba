-- The code that symbolic code becomes.
use Rattle.std.specs.Prelude.{ℕ, suc, ◌+◌, ◌≤◌, if◌then◌else◌, Option, Some, None, IfSome, List, [], ◌∷◌, ◌++◌, length, All}
use Rattle.term_core.specs.Datum.{Datum}
use Rattle.term_operand.specs.Order.{is_same}
use Rattle.mcode.specs.Instr.{target_of}
use Rattle.mcode.specs.Program.{Program, Frame, alone, most_parts, IsProgram}
use Rattle.mcode.specs.declared.instr.Instr.{Instr}
use Rattle.mcode.specs.declared.instr.Instr.TheVariants as instr
use Rattle.compiler_assembly.specs.Line.{SourceOp, SourceLabel, SourceLine, Block}
use Rattle.compiler_assembly.specs.declared.line.Label.TheVariants as label
use Rattle.compiler_assembly.specs.declared.op.Op.TheVariants as op
use Rattle.compiler_assembly.specs.declared.op.Target.{Target}
use Rattle.compiler_assembly.specs.declared.op.Target.TheVariants as target

-- the number of terms before the given one, which is one of them
abbrev pub number_of : List Datum → Datum → ℕ
number_of [] d = 0
number_of (c ∷ cs) d = if is_same c d then 0 else suc (number_of cs d)

-- these constants, with the term appended unless it is one of them
abbrev pub with_term : List Datum → Datum → List Datum
with_term [] d = d ∷ []
with_term (c ∷ cs) d = if is_same c d then c ∷ cs else c ∷ with_term cs d

-- the constant that an instruction names
abbrev pub constant_of : SourceOp → Option Datum
constant_of (op.Const d) = Some d
constant_of (op.Value d t) = Some d
constant_of (op.MakeMap d t) = Some d
constant_of o = None

-- these constants, with the one that an instruction names
abbrev pub with_named : List Datum → Option Datum → List Datum
with_named cs None = cs
with_named cs (Some d) = with_term cs d

-- these constants, followed by those that the lines name, each once, in order of first use
abbrev pub constants_from : List Datum → List SourceLine → List Datum
constants_from cs [] = cs
constants_from cs (l ∷ ls) = constants_from (with_named cs (constant_of l.op)) ls

abbrev pub block_constants : List Datum → List Block → List Datum
block_constants cs [] = cs
block_constants cs (b ∷ bs) = block_constants (constants_from cs b.lines) bs

-- the number of the instruction to which the one at pc leads; `behind` is the number of the instruction after its block
abbrev pub resolved : ℕ → ℕ → Target → ℕ
resolved behind pc target.Failing = behind
resolved behind pc (target.Ahead n) = suc pc + n

-- the instruction at pc, in code with these constants; `behind` is the number of the instruction after its block
abbrev pub instr_of : List Datum → ℕ → ℕ → SourceOp → Instr
instr_of cs behind pc op.Load = instr.Load
instr_of cs behind pc (op.Const d) = instr.Const (number_of cs d)
instr_of cs behind pc (op.Get v) = instr.Get v
instr_of cs behind pc (op.Bind v) = instr.Bind v
instr_of cs behind pc op.Dup = instr.Dup
instr_of cs behind pc op.Drop = instr.Drop
instr_of cs behind pc (op.Tuple n t) = instr.Tuple n (resolved behind pc t)
instr_of cs behind pc (op.Field i) = instr.Field i
instr_of cs behind pc (op.Cons t) = instr.Cons (resolved behind pc t)
instr_of cs behind pc op.Head = instr.Head
instr_of cs behind pc op.Tail = instr.Tail
instr_of cs behind pc (op.Map t) = instr.Map (resolved behind pc t)
instr_of cs behind pc (op.Value d t) = instr.Value (number_of cs d) (resolved behind pc t)
instr_of cs behind pc (op.Equal t) = instr.Equal (resolved behind pc t)
instr_of cs behind pc (op.Jump t) = instr.Jump (resolved behind pc t)
instr_of cs behind pc (op.Call f n t) = instr.Call f n (resolved behind pc t)
instr_of cs behind pc (op.Int t) = instr.Int (resolved behind pc t)
instr_of cs behind pc (op.Arith f t) = instr.Arith f (resolved behind pc t)
instr_of cs behind pc (op.Bool t) = instr.Bool (resolved behind pc t)
instr_of cs behind pc (op.Branch t) = instr.Branch (resolved behind pc t)
instr_of cs behind pc (op.MakeTuple n t) = instr.MakeTuple n (resolved behind pc t)
instr_of cs behind pc (op.MakeCons t) = instr.MakeCons (resolved behind pc t)
instr_of cs behind pc (op.MakeMap d t) = instr.MakeMap (number_of cs d) (resolved behind pc t)
instr_of cs behind pc op.Answer = instr.Answer
instr_of cs behind pc op.NoAnswer = instr.NoAnswer

-- the frame of a label at pc, in a block with these bound slots
abbrev pub frame_of : List ℕ → ℕ → SourceLabel → Frame
frame_of slots pc (label.Inside depth integers) =
    record { pc = pc; depth = depth; places = integers; slots = slots }
frame_of slots pc label.Clean = record { pc = pc; depth = 0; places = []; slots = [] }

-- the instructions of lines, of which the first is at pc
abbrev pub line_instructions : List Datum → ℕ → ℕ → List SourceLine → List Instr
line_instructions cs behind pc [] = []
line_instructions cs behind pc (l ∷ ls) =
    instr_of cs behind pc l.op ∷ line_instructions cs behind (suc pc) ls

-- a list of frames, with one of the label at its front if there is a label
abbrev pub with_label : List ℕ → ℕ → Option SourceLabel → List Frame → List Frame
with_label slots pc None fs = fs
with_label slots pc (Some l) fs = frame_of slots pc l ∷ fs

-- the frames of the labels, each at the instruction after its line
abbrev pub line_frames : List ℕ → ℕ → List SourceLine → List Frame
line_frames slots pc [] = []
line_frames slots pc (l ∷ ls) =
    with_label slots (suc pc) l.label (line_frames slots (suc pc) ls)

-- the instructions and the frames of blocks, one after the other
abbrev pub block_instructions : List Datum → ℕ → List Block → List Instr
block_instructions cs pc [] = []
block_instructions cs pc (b ∷ bs) =
    let behind = pc + length b.lines in
    line_instructions cs behind pc b.lines ++ block_instructions cs behind bs

abbrev pub block_frames : ℕ → List Block → List Frame
block_frames pc [] = []
block_frames pc (b ∷ bs) =
    line_frames b.slots pc b.lines ++ block_frames (pc + length b.lines) bs

-- The code of these blocks over this number of slots: each constant once, in order of first use; each target as the
-- number of the instruction to which it leads; a frame at each label.
unfoldable pub assembled : ℕ → List Block → Program
assembled slots bs =
    let constants = block_constants [] bs in
    record {
      slots =
          slots;
      constants = constants;
      instructions = block_instructions constants 0 bs;
      frames =
          block_frames 0 bs;
      around = alone;
    }

-- an instruction that neither invokes a routine nor ends one
abbrev pub IsPlain : Instr → Type 0
IsPlain (instr.Invoke r l) = ⊥
IsPlain instr.Return = ⊥
IsPlain instr.Fail = ⊥
IsPlain i = Unit {0}

-- the target of an instruction, if it has one, is a number that an instruction may have
abbrev pub IsTargetInRange : Instr → Type 0
IsTargetInRange i = IfSome (target_of i) (λ t. t ≤ most_parts)

-- a program that can be code: counts within their limits, frames in order, and each target in range
pub record IsCode (p : Program) : Type 0 where
  pub program : IsProgram p
  pub targets : All IsTargetInRange p.instructions
