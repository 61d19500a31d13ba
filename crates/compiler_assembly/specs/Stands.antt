-- The positions of lines in code.
use Rattle.std.specs.Prelude.{ℕ, suc, ◌≡◌, ◌+◌, Some, option_map, IfSome, List, [], ◌∷◌, length, slice_get}
use Rattle.mcode.specs.Program.{Program, frame_at}
use Rattle.compiler_assembly.specs.Assembled.{number_of, constant_of, instr_of, frame_of}
use Rattle.compiler_assembly.specs.Line.{SourceLine, Block}

-- The line is at pc, in a block with these slots, before the instruction number `behind`: its instruction is there, its
-- constant has its number, and there is a frame after it exactly if it has a label.
pub record IsAt (p : Program) (slots : List ℕ) (behind pc : ℕ) (l : SourceLine) : Type 0 where
  pub instruction : slice_get p.instructions pc ≡ Some (instr_of p.constants behind pc l.op)
  pub constant : IfSome (constant_of l.op)
      (λ d. slice_get p.constants (number_of p.constants d) ≡ Some d)
  pub frame : frame_at p.frames (suc pc) ≡ option_map (frame_of slots (suc pc)) l.label

-- the lines follow each other from pc on
abbrev pub Stands : Program → List ℕ → ℕ → ℕ → List SourceLine → Type 0
Stands p slots behind pc [] = Unit {0}
Stands p slots behind pc (l ∷ ls) =
    IsAt p slots behind pc l × Stands p slots behind (suc pc) ls

-- the blocks follow each other from pc on
abbrev pub AreStanding : Program → ℕ → List Block → Type 0
AreStanding p pc [] = Unit {0}
AreStanding p pc (b ∷ bs) =
    let behind = pc + length b.lines in
    Stands p b.slots behind pc b.lines × AreStanding p behind bs
