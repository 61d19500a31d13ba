-- Laws of code files.
use Rattle.std.specs.Prelude.{ℕ, ◌≡◌, List, All}
use Rattle.term_core.specs.Limits.{IsTerm}
use Rattle.mcode.specs.Program.{Program, IsWhole}
use Rattle.code_writer.specs.File.{Spells, HasFile, HoldsArguments, HoldsFrame, HoldsRoutine, file_bytes}

-- bytes spell at most one program
abbrev pub OneCode : Type 0
OneCode = (bytes : List ℕ) (p q : Program) → Spells bytes p → Spells bytes q → p ≡ q

-- The file of a program spells that program and no other. It requires that the program is code that has a file, its
-- constants are terms, and each of its numbers fits its bytes.
abbrev pub ReadBack : Type 0
ReadBack =
    (p : Program) → IsWhole p → HasFile p → All IsTerm p.constants
    → All HoldsArguments p.instructions → All HoldsFrame p.frames
    → All HoldsRoutine p.around.routines
    → Spells (file_bytes p) p × ((q : Program) → Spells (file_bytes p) q → q ≡ p)
