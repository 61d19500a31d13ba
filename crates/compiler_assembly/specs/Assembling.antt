-- The code that results while it is assembled.
use Rattle.std.specs.Prelude.{ℕ, suc, ◌≡◌, Option, Some, None, List, ◌∷◌, ◌++◌, ◌⊎◌}
use Rattle.term_core.specs.Datum.{Datum}
use Rattle.mcode.specs.Building.{with_frame, IsFrameTooMany, IsNextFrame}
use Rattle.mcode.specs.Program.{Program}
use Rattle.mcode.specs.declared.instr.Instr.{Instr}
use Rattle.mcode.specs.declared.instr.Instr.TheVariants as instr
use Rattle.compiler_assembly.specs.Assembled.{number_of, constants_from, block_constants, line_instructions, block_instructions, line_frames, block_frames, frame_of, IsCode}
use Rattle.compiler_assembly.specs.Line.{SourceOp, SourceLabel, SourceLine, Block}
use Rattle.compiler_assembly.specs.declared.op.Op.TheVariants as op
use Rattle.compiler_assembly.specs.declared.op.Target.{Target}

-- the target to which an instruction may jump
abbrev pub target_named : SourceOp → Option Target
target_named (op.Tuple n t) = Some t
target_named (op.Cons t) = Some t
target_named (op.Map t) = Some t
target_named (op.Value d t) = Some t
target_named (op.Equal t) = Some t
target_named (op.Jump t) = Some t
target_named (op.Call f n t) = Some t
target_named (op.Int t) = Some t
target_named (op.Arith f t) = Some t
target_named (op.Bool t) = Some t
target_named (op.Branch t) = Some t
target_named (op.MakeTuple n t) = Some t
target_named (op.MakeCons t) = Some t
target_named (op.MakeMap d t) = Some t
target_named o = None

-- the instruction that jumps to this number, in code with these constants
abbrev pub instr_to : List Datum → ℕ → SourceOp → Instr
instr_to cs to op.Load = instr.Load
instr_to cs to (op.Const d) = instr.Const (number_of cs d)
instr_to cs to (op.Get v) = instr.Get v
instr_to cs to (op.Bind v) = instr.Bind v
instr_to cs to op.Dup = instr.Dup
instr_to cs to op.Drop = instr.Drop
instr_to cs to (op.Tuple n t) = instr.Tuple n to
instr_to cs to (op.Field i) = instr.Field i
instr_to cs to (op.Cons t) = instr.Cons to
instr_to cs to op.Head = instr.Head
instr_to cs to op.Tail = instr.Tail
instr_to cs to (op.Map t) = instr.Map to
instr_to cs to (op.Value d t) = instr.Value (number_of cs d) to
instr_to cs to (op.Equal t) = instr.Equal to
instr_to cs to (op.Jump t) = instr.Jump to
instr_to cs to (op.Call f n t) = instr.Call f n to
instr_to cs to (op.Int t) = instr.Int to
instr_to cs to (op.Arith f t) = instr.Arith f to
instr_to cs to (op.Bool t) = instr.Bool to
instr_to cs to (op.Branch t) = instr.Branch to
instr_to cs to (op.MakeTuple n t) = instr.MakeTuple n to
instr_to cs to (op.MakeCons t) = instr.MakeCons to
instr_to cs to (op.MakeMap d t) = instr.MakeMap (number_of cs d) to
instr_to cs to op.Answer = instr.Answer
instr_to cs to op.NoAnswer = instr.NoAnswer

-- The code that these constants and this program become if these lines of a block follow from pc on, and these blocks after it.
unfoldable pub with_lines : List Datum → Program → List ℕ → ℕ → ℕ → List SourceLine → List Block
    → Program
with_lines cs p slots behind pc ls bs =
    let constants = block_constants (constants_from cs ls) bs in
    record {
      slots =
          p.slots;
      constants = p.constants
          ++ constants;
      instructions = p.instructions
          ++ (line_instructions constants behind pc ls ++ block_instructions constants behind bs);
      frames = p.frames
          ++ (line_frames slots pc ls ++ block_frames behind bs);
      around = p.around;
    }

-- the code that these constants and this program become if these blocks follow from pc on
unfoldable pub with_blocks : List Datum → Program → ℕ → List Block → Program
with_blocks cs p pc bs =
    let constants = block_constants cs bs in
    record {
      slots =
          p.slots;
      constants = p.constants
          ++ constants;
      instructions = p.instructions
          ++ block_instructions constants pc bs;
      frames = p.frames
          ++ block_frames pc bs;
      around = p.around;
    }

-- `cs'` and `p'` are `cs` and `p` with the line added: whatever follows, they become the same code
abbrev pub IsLineAdded : List Datum → Program → List Datum → Program → List ℕ → ℕ → ℕ → SourceLine → Type 0
IsLineAdded cs p cs' p' slots behind pc l =
    (ls : List SourceLine) (bs : List Block)
    → with_lines cs' p' slots behind (suc pc) ls bs ≡ with_lines cs p slots behind pc (l ∷ ls) bs

-- with the line, whatever follows, the result is not code
abbrev pub IsLineTooMuch : List Datum → Program → List ℕ → ℕ → ℕ → SourceLine → Type 0
IsLineTooMuch cs p slots behind pc l =
    (ls : List SourceLine) (bs : List Block) → ¬ IsCode (with_lines cs p slots behind pc (l ∷ ls) bs)

-- the program, with a frame at the label if there is one
abbrev pub with_labelled : Program → List ℕ → ℕ → Option SourceLabel → Program
with_labelled p slots pc None = p
with_labelled p slots pc (Some l) = with_frame p (frame_of slots pc l)

-- there is a label whose frame can't be appended to those that are there
abbrev pub IsLabelTooMuch : Program → List ℕ → ℕ → Option SourceLabel → Type 0
IsLabelTooMuch p slots pc None = ⊥
IsLabelTooMuch p slots pc (Some l) =
    IsFrameTooMany p.frames (frame_of slots pc l) ⊎ (¬ IsNextFrame p.frames (frame_of slots pc l))

-- `cs'` and `p'` are `cs` and `p` with the last lines of a block added: whatever follows, they become the same code
abbrev pub AreLinesAdded : List Datum → Program → List Datum → Program → List ℕ → ℕ → ℕ → List SourceLine → Type 0
AreLinesAdded cs p cs' p' slots behind pc ls =
    (bs : List Block) → with_blocks cs' p' behind bs ≡ with_lines cs p slots behind pc ls bs

-- with the lines, whatever follows, the result is not code
abbrev pub AreLinesTooMuch : List Datum → Program → List ℕ → ℕ → ℕ → List SourceLine → Type 0
AreLinesTooMuch cs p slots behind pc ls =
    (bs : List Block) → ¬ IsCode (with_lines cs p slots behind pc ls bs)

-- `cs'` and `p'` are `cs` and `p` with the block added: whatever follows, they become the same code
abbrev pub IsBlockAdded : List Datum → Program → List Datum → Program → ℕ → ℕ → Block → Type 0
IsBlockAdded cs p cs' p' pc behind b =
    (bs : List Block) → with_blocks cs' p' behind bs ≡ with_blocks cs p pc (b ∷ bs)

-- with the block, whatever follows, the result is not code
abbrev pub IsBlockTooMuch : List Datum → Program → ℕ → Block → Type 0
IsBlockTooMuch cs p pc b = (bs : List Block) → ¬ IsCode (with_blocks cs p pc (b ∷ bs))
