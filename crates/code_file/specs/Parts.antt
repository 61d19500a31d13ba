-- Code with one more part.
use Rattle.std.specs.Prelude.{ℕ, ◌≡◌, List, [], ◌∷◌, ◌++◌, length}
use Rattle.term_core.specs.Datum.{Datum}
use Rattle.mcode.specs.Program.{Program, Body, Routine, Frame, Rise, frame_number, code_of, seen_body}
use Rattle.mcode.specs.Building.{with_routine, with_last_body, main_of, finished}
use Rattle.mcode.specs.declared.instr.Instr.{Instr}
use Rattle.code_writer.specs.Format.{Begins, such, rows}
use Rattle.code_writer.specs.Formats.{frame_format, body_format, routine_format}

-- code with these constants
abbrev pub with_constants : Program → List Datum → Program
with_constants p ds = record p { constants = ds }

-- code with these instructions
abbrev pub with_instructions : Program → List Instr → Program
with_instructions p is = record p { instructions = is }

-- code with these frames
abbrev pub with_frames : Program → List Frame → Program
with_frames p fs = record p { frames = fs }

-- one more frame, at this instruction, was read into code
pub record IsNextRead (old new : Program) (bytes : List ℕ) (pc : ℕ) (rest : List ℕ) : Type 0 where
  pub frame : Frame
  pub begins : Begins (such frame_format (λ f. Rise frame_number (old.frames ++ f ∷ []))) bytes frame rest
  pub new_is : new ≡ with_frames old (old.frames ++ frame ∷ [])
  pub pc_is : frame.pc ≡ pc

-- code with these instructions and frames
abbrev pub with_parts : Program → List Instr → List Frame → Program
with_parts p is fs = record p { instructions = is; frames = fs }

-- the main body of code with these constants was read
pub record IsMainRead (ds : List Datum) (new : Program) (bytes rest : List ℕ) : Type 0 where
  pub begins : Begins body_format bytes (seen_body new) rest
  pub new_is : new ≡ code_of ds (seen_body new) []

-- the code with one more routine, which is the one that is viewed
abbrev pub with_whole : Program → Routine → Program
with_whole p t =
    with_parts (with_routine p t.arguments t.result t.body.slots) t.body.instructions t.body.frames

-- one more routine was read into code
pub record IsRoutineRead (old new : Program) (bytes rest : List ℕ) : Type 0 where
  pub routine : Routine
  pub begins : Begins routine_format bytes routine rest
  pub new_is : new ≡ with_whole old routine

-- code that is being built has this main body and these routines
pub record IsBuilt (p : Program) (ds : List Datum) (main : Body) (ts : List Routine) : Type 0 where
  pub main_is : main_of p.around.main (seen_body p) ≡ main
  pub routines_are : with_last_body p.around.routines (seen_body p) ≡ ts
  pub whole : finished p ≡ code_of ds main ts
  pub constants_are : p.constants ≡ ds
  pub number_is : p.around.number ≡ length ts

-- n routines were read into code
pub record AreRoutinesRead (old new : Program) (bytes : List ℕ) (n : ℕ) (rest : List ℕ) : Type 0 where
  pub routines : List Routine
  pub begins : Begins (rows routine_format n) bytes routines rest
  pub built : (ds : List Datum) (main : Body) → IsBuilt old ds main [] → IsBuilt new ds main routines
