-- What a filter and a table own.
use Rattle.std.specs.Prelude.{Bool, true, false, []}
use base.Fml.{Fml, ftrue}
use denote.RawPtr.{Ptr}
use mir.Syntax.{Ty}
use Rattle.std.specs.declared.alloc.Global.{Global}
use Rattle.std.specs.contracts.impls.GlobalAllocator.TheImpl.{ghosts}
use Rattle.std.specs.Box.Ownership.{box_owns}
use Rattle.mcode.specs.Program.{Program, alone}
use Rattle.cutterash.specs.declared.kept.Kept.{Kept}
use Rattle.cutterash.specs.contracts.kept.Kept as kept
use Rattle.cutterash.specs.contracts.loaded.Loaded as loaded

-- the C library's heap, and the right to free a block there
abbrev pub heap : Global
heap = record { memory = record { seal = tt } }

abbrev pub token : Ty → Ptr → Fml
token = ghosts.dealloc_token heap

-- an open filter owns the box of its code, in that heap; a closed one owns nothing
abbrev pub held : Bool → Ptr → Program → Fml
held true at code = box_owns token loaded.the_row at code
held false at code = ftrue

-- an open table owns the box of its engine, in that heap; a closed one owns nothing
abbrev pub held_table : Bool → Ptr → Kept → Fml
held_table true at k = box_owns token kept.the_row at k
held_table false at k = ftrue

-- empty code, which a closed filter has as its code
abbrev pub no_code : Program
no_code = record { slots = 0; constants = []; instructions = []; frames = []; around = alone }
