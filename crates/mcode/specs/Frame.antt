-- How frames and bodies of the program are represented.
use Rattle.std.specs.Prelude.{ℕ, List, map}
use Rattle.mcode.specs.Program as program
use Rattle.mcode.specs.declared.frame.Frame.{Frame}
use Rattle.mcode.specs.declared.instr.Instr.{Instr}

-- the frame with these fields
abbrev pub frame_of : {A : Type 0} → Frame A → program.Frame
frame_of f = record { pc = f.pc; depth = f.depth; places = f.places; slots = f.slots }

-- the body of these parts
abbrev pub body_with : {A : Type 0} → ℕ → List Instr → List (Frame A) → program.Body
body_with slots instructions frames =
    record { slots = slots; instructions = instructions; frames = map frame_of frames }
