-- Properties of assembled code.
use Rattle.std.specs.Prelude.{ℕ, ◌≡◌, None, List}
use Rattle.mcode.specs.Program.{frame_at}
use Rattle.compiler_assembly.specs.Assembled.{assembled}
use Rattle.compiler_assembly.specs.Line.{Block}
use Rattle.compiler_assembly.specs.Stands.{AreStanding}

-- in assembled code the blocks follow each other from 0 on, and no frame is at 0
abbrev pub AssembledStands : Type 0
AssembledStands = (slots : ℕ) (bs : List Block)
    → AreStanding (assembled slots bs) 0 bs × (frame_at (assembled slots bs).frames 0 ≡ None)
