-- A law of the code of specifications.
use Rattle.std.specs.Prelude.{ℕ, ◌≡◌, ◌<◌, Option, Some, length, All}
use Rattle.term_core.specs.Datum.{Datum}
use Rattle.mcode.specs.Program.{Program, Frame, frame_at}
use Rattle.mcode.specs.Run.{HasRun}
use Rattle.mspec_syntax.specs.Sound.{IsSoundClause}
use Rattle.mspec_syntax.specs.Specification.{Specification}
use Rattle.mspec_meaning.specs.Meaning.{Means}
use Rattle.compiler_clauses.specs.Clauses.{code_of}

-- each frame is at an instruction
abbrev pub AreFramesInside : Program → Type 0
AreFramesInside p =
    (n : ℕ) (f : Frame) → frame_at p.frames n ≡ Some f → n < length p.instructions

-- If each frame of a specification's code is at an instruction, as in typed code, the code has a run for each object.
-- The run ends with what the specification means for the object.
abbrev pub CodeRunsAsMeant : Type 0
CodeRunsAsMeant =
    (spec : Specification) → All IsSoundClause spec → AreFramesInside (code_of spec) → (o : Datum)
    → (answer : Option Datum) × (n : ℕ) × Means spec o answer × HasRun (code_of spec) o n answer
