-- Code with a part added.
use Rattle.std.specs.Prelude.{ℕ, zero, suc, ◌≡◌, ◌<◌, ◌≤◌, ◌⊎◌, ◌↔◌, Option, Some, None, List, [], ◌∷◌, ◌++◌, length}
use Rattle.term_core.specs.Datum.{Datum}
use Rattle.mcode.specs.Program.{Program, Body, Routine, Frame, most_slots, most_parts, most_routines, most_arguments, IsOrdered, Rise, frame_number, alone, routine_of, code_of, seen_body, seen_from}
use Rattle.mcode.specs.declared.fault.Fault.{Fault}
use Rattle.mcode.specs.declared.fault.Fault.TheVariants.{Memory, Limit, FrameOrder}
use Rattle.mcode.specs.declared.instr.Instr.{Instr}
use Rattle.mcode.specs.declared.kind.Kind.{Kind}

-- a body without parts
abbrev pub empty_body : ℕ → Body
empty_body slots = record { slots = slots; instructions = []; frames = [] }

-- the body with one more instruction
abbrev pub one_instruction_more : Body → Instr → Body
one_instruction_more b i =
    record {
      slots = b.slots;
      instructions = b.instructions ++ i ∷ [];
      frames = b.frames;
    }

-- the body with one more frame
abbrev pub one_frame_more : Body → Frame → Body
one_frame_more b f =
    record {
      slots = b.slots;
      instructions = b.instructions;
      frames = b.frames ++ f ∷ [];
    }

-- code without parts
abbrev pub empty_program : ℕ → Program
empty_program slots =
    record { slots = slots; constants = []; instructions = []; frames = []; around = alone }

-- the code with one more constant
abbrev pub with_constant : Program → Datum → Program
with_constant p d =
    record {
      slots =
          p.slots;
      constants = p.constants ++ d ∷ [];
      instructions = p.instructions;
      frames =
          p.frames;
      around = p.around;
    }

-- the code with one more instruction
abbrev pub with_instruction : Program → Instr → Program
with_instruction p i =
    record {
      slots =
          p.slots;
      constants = p.constants;
      instructions = p.instructions
          ++ i ∷ [];
      frames = p.frames;
      around = p.around;
    }

-- the code with one more frame
abbrev pub with_frame : Program → Frame → Program
with_frame p f =
    record {
      slots =
          p.slots;
      constants = p.constants;
      instructions = p.instructions;
      frames = p.frames
          ++ f ∷ [];
      around = p.around;
    }

-- why a part is rejected if there are already this many: out of memory only if one more is allowed
abbrev pub IsPartRefused : ℕ → Fault → Type 0
IsPartRefused count Memory = count < most_parts
IsPartRefused count Limit = most_parts ≤ count
IsPartRefused count FrameOrder = ⊥

-- there are as many frames as allowed, or this frame has too many places
abbrev pub IsFrameTooMany : List Frame → Frame → Type 0
IsFrameTooMany fs f = (most_parts ≤ length fs) ⊎ (most_parts < length f.places)

-- the frame is above those that are there, and its places and slots are in order
pub record IsNextFrame (fs : List Frame) (f : Frame) : Type 0 where
  pub above : Rise frame_number (fs ++ f ∷ [])
  pub ordered : IsOrdered f

-- Why a frame is rejected. The counts are checked first, then the order, and out of memory comes last.
abbrev pub IsFrameRefused : List Frame → Frame → Fault → Type 0
IsFrameRefused fs f Limit = IsFrameTooMany fs f
IsFrameRefused fs f FrameOrder = (¬ IsFrameTooMany fs f) × (¬ IsNextFrame fs f)
IsFrameRefused fs f Memory = (¬ IsFrameTooMany fs f) × IsNextFrame fs f

-- While code is built, it is viewed from its newest body. Until that body is complete, the last routine, which has its
-- number, has no parts in its own body.

-- the routines, with this body for the last one
abbrev pub with_last_body : List Routine → Body → List Routine
with_last_body [] b = []
with_last_body (t ∷ []) b = routine_of t.arguments t.result b ∷ []
with_last_body (t ∷ t' ∷ ts) b = t ∷ with_last_body (t' ∷ ts) b

-- the main body: the one given, or else the one that is viewed
abbrev pub main_of : Option Body → Body → Body
main_of None seen = seen
main_of (Some main) seen = main

-- the code after a routine was begun with these arguments, this kind of result and this number of slots: the body that
-- was viewed is stored, and the new one is viewed
abbrev pub with_routine : Program → List Kind → Kind → ℕ → Program
with_routine p arguments gives slots =
    seen_from p (empty_body slots)
    (record {
      number = suc p.around.number;
      main = Some (main_of p.around.main (seen_body p));
      routines = with_last_body p.around.routines (seen_body p)
          ++ routine_of arguments gives (empty_body slots) ∷ [];
    })

-- the code viewed from its main body, after the body that was viewed is stored
abbrev pub finished_from : Program → Option Body → Program
finished_from p None = p
finished_from p (Some main) =
    code_of p.constants main (with_last_body p.around.routines (seen_body p))

-- the code that was built, viewed from its main body
abbrev pub finished : Program → Program
finished p = finished_from p p.around.main

-- there are as many routines as allowed, or this one has too many arguments or slots
abbrev pub IsRoutineTooMuch : ℕ → List Kind → ℕ → Type 0
IsRoutineTooMuch routines arguments slots =
    (most_routines ≤ routines)
    ⊎ ((most_arguments < length arguments) ⊎ (most_slots < slots))

-- why a routine is rejected: out of memory only if one more is allowed
abbrev pub IsRoutineRefused : ℕ → List Kind → ℕ → Fault → Type 0
IsRoutineRefused routines arguments slots Limit = IsRoutineTooMuch routines arguments slots
IsRoutineRefused routines arguments slots Memory = ¬ IsRoutineTooMuch routines arguments slots
IsRoutineRefused routines arguments slots FrameOrder = ⊥

-- A builder keeps code as code viewed from its newest body, with the main body kept separately once a routine was
-- begun.

-- the code with one more routine
abbrev pub one_routine_more : Program → Routine → Program
one_routine_more p t =
    code_of p.constants (seen_body p) (p.around.routines ++ t ∷ [])

-- the code with another main body
abbrev pub with_body : Program → Body → Program
with_body p b = code_of p.constants b p.around.routines

-- the routines, with this body for the one at a place
abbrev pub with_body_at : List Routine → ℕ → Body → List Routine
with_body_at [] n b = []
with_body_at (t ∷ ts) zero b = routine_of t.arguments t.result b ∷ ts
with_body_at (t ∷ ts) (suc n) b = t ∷ with_body_at ts n b

-- the code with another body for the routine at a place
abbrev pub with_stored : Program → ℕ → Body → Program
with_stored p n b =
    code_of p.constants (seen_body p) (with_body_at p.around.routines n b)

-- the code that a builder's code and its separate main body, if any, represent
abbrev pub begun : Program → Option Body → Program
begun p main =
    seen_from p (seen_body p)
    (record {
      number = length p.around.routines;
      main = main;
      routines = p.around.routines;
    })

-- there is a separate main body exactly if a routine was begun
abbrev pub IsBegun : Program → Option Body → Type 0
IsBegun p main = (main ≡ None) ↔ (p.around.routines ≡ [])
