-- States in which the lines of expressions begin.
use Rattle.std.specs.Prelude.{ℕ, suc, ◌≡◌, ◌<◌, IsTrue, Some, List, [], length, slice_get, All}
use Rattle.mcode.specs.Program.{Program, Frame, frame_at}
use Rattle.mcode.specs.declared.instr.Instr.{Instr}
use Rattle.mcode.specs.declared.kind.Kind.{Kind}
use Rattle.verifier_types.specs.Effect.{falling_shape}
use Rattle.verifier_types.specs.Shape.{Shape, frame_kinds, is_bound, AreBelow}
use Rattle.verifier.specs.Typing.{Begins}
use Rattle.compiler_assembly.specs.Line.{SourceLine}
use Rattle.compiler.specs.Flow.{IsFit, Flows}

-- Code in which each frame is at an instruction, and a block in it: its slots are the code's, and after it there is a
-- frame of which nothing is known.
pub record IsBlock (p : Program) (frame_slots : List ℕ) (behind : ℕ) : Type 0 where
  pub inside : (n : ℕ) (f : Frame) → frame_at p.frames n ≡ Some f → n < length p.instructions
  pub slots : All (λ slot. slot < p.slots) frame_slots
  pub framed : frame_at p.frames behind
      ≡ Some (record { pc = behind; depth = 0; places = []; slots = [] })

-- a state with `deep` places, of which these are integers, in which the block's slots are bound
pub record IsReady (p : Program) (frame_slots : List ℕ) (s : Shape) (deep : ℕ)
    (integers : List (ℕ × Kind)) : Type 0 where
  pub kinds : AreBelow s.kinds (frame_kinds integers deep)
  pub count : length s.bound ≡ p.slots
  pub bound : All (λ slot. IsTrue (is_bound s.bound slot)) frame_slots

-- the instruction at pc fits in state s, and the one after it begins in state t
abbrev pub Steps : Program → ℕ → ℕ → Shape → Shape → Type 0
Steps p most pc s t =
    (i : Instr) × (slice_get p.instructions pc ≡ Some i) × IsFit p most pc i s
    × Begins p (falling_shape p i s) (frame_at p.frames (suc pc)) t

-- lines that are typed from a state on; after them `deep` places are ready
pub record FlowsTo (p : Program) (most : ℕ) (frame_slots : List ℕ) (pc : ℕ) (ls : List SourceLine)
    (s : Shape) (deep : ℕ) (integers : List (ℕ × Kind)) : Type 0 where
  pub state : Shape
  pub flows : Flows p most pc s (length ls) state
  pub ready : IsReady p frame_slots state deep integers
