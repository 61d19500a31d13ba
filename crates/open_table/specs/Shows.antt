-- A table of one thread, its state, and what calls do to it.
use Rattle.std.specs.Prelude.{◌≡◌, Option, Some, None}
use Rattle.part_core.specs.declared.part.Part.{Ghosts}
use Rattle.part_core.specs.Acts.{Answer}
use Rattle.tables.specs.Local.{local_home}
use Rattle.tables.specs.OneThread.{TableState}
use Rattle.tables.specs.Turns.{Home}
use Rattle.open_table.specs.declared.table.OpenTable.{OpenTable}
use Rattle.open_table.specs.Calls.{Call}
use Rattle.open_table.specs.Parts.{IsAt, Sees, options_in}

-- the table is in this state
abbrev pub Shows : {S O A : Type 0} {s : Ghosts S A} {o : Ghosts O A} → OpenTable S O A s o → TableState → Type 0
Shows x t = IsAt (options_in x.parts) (Sees x.parts) t

-- the options are the same, and the next call is made by the same session
abbrev pub IsSame : {S O A : Type 0} {s : Ghosts S A} {o : Ghosts O A} → (old new : OpenTable S O A s o) → Type 0
IsSame old new = (options_in new.parts ≡ options_in old.parts) × (new.session ≡ old.session)

-- whatever state the table was in, it is in that state
abbrev pub Stays : {S O A : Type 0} {s : Ghosts S A} {o : Ghosts O A} → (old new : OpenTable S O A s o) → Type 0
Stays old new = (t : TableState) → Shows old t → Shows new t

-- A call is made: it returns what the definition says, and leaves the table as it says. Where it has no answer, since memory ran out, the table
-- stays as it was.
abbrev pub Does : {S O A : Type 0} {s : Ghosts S A} {o : Ghosts O A} → (old new : OpenTable S O A s o) → Call → Option Answer → Type 0
Does old new call (Some answer) = (t : TableState) → Shows old t → (answer ≡ (call t).0) × Shows new (call t).1
Does old new call None = Stays old new

-- a call reads the table, in whatever state that is, and changes nothing
abbrev pub Reads : {S O A : Type 0} {s : Ghosts S A} {o : Ghosts O A} → (old new : OpenTable S O A s o) → (TableState → Type 0) → Type 0
Reads old new finds = (t : TableState) → Shows old t → finds t × Shows new t

-- the session that makes the next call, as the laws of tables have it
abbrev pub home_of : {S O A : Type 0} {s : Ghosts S A} {o : Ghosts O A} → OpenTable S O A s o → Home
home_of x = local_home (options_in x.parts) x.session 0
