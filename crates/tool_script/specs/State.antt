-- The tables and the script as the code has them in memory, and the states that they are in.
use Rattle.std.specs.Prelude.{ℕ, ◌≡◌, ◌≢◌, ◌<◌, true, Option, Some, Result, Ok, Err, List}
use Rattle.term_core.specs.Datum.{Datum}
use Rattle.term_operand.specs.Operand.{boolean}
use Rattle.part_core.specs.declared.fault.Fault.{Fault}
use Rattle.part_core.specs.declared.fault.Fault.TheVariants as fault
use Rattle.part_core.specs.FaultNumbers.{fault_number}
use Rattle.part_core.specs.Legal.{state_after}
use Rattle.tables.specs.declared.options.Options.{Options}
use Rattle.tables.specs.Options.{settings_of}
use Rattle.tables.specs.Turns.{Views}
use Rattle.tables.specs.OneThread.{TableState}
use Rattle.tool_script.specs.Command.{Ask, Selection}
use Rattle.tool_script.specs.declared.continuations.Continuations.{Continuations}
use Rattle.tool_script.specs.Continuations.{AreHeld}
use Rattle.tool_script.specs.Course.{Step, Takes}
use Rattle.tool_script.specs.Script.{error, asked}
use Rattle.tool_script.specs.Walks.{Walked, selecting}

-- A table is in a state, according to what is seen of it: the histories of its parts lead to their states.
pub record IsAt (o : Options) (sees : Views → Type 0) (t : TableState) : Type 0 where
  pub options : t.options ≡ o
  pub views : Views
  pub seen : sees views
  pub states : (k : ℕ) → k < o.parts → t.states k ≡ state_after (settings_of o) (views k)

-- the reply to a session's request, after which the table is in its new state
abbrev pub IsAnswered : Options → ℕ → (Views → Type 0) → (Views → Type 0) → Ask → Datum → Type 0
IsAnswered o n before now ask reply =
    (t : TableState) → IsAt o before t → (reply ≡ (asked t n ask).0) × IsAt o now (asked t n ask).1

-- A table with the walks of its script is in a state; it is one of `count` tables that were opened.
pub record AreAt {A : Type 0} (o : Options) (sees : Views → Type 0) (count : ℕ) (cs : Continuations A)
    (w : Walked) : Type 0
  where
    pub table : IsAt o sees w.table
    pub named : o.name < count
    pub walks : AreHeld (Some o) count cs w.walks

-- a step is made, from whatever state the table and the walks are in
abbrev pub IsDone : {A : Type 0} → Options → (before now : Views → Type 0) → (old new : Continuations A)
    → (Walked → Step Walked) → Datum → Type 0
IsDone o before now old new go reply =
    (count : ℕ) (w : Walked) → AreAt o before count old w
    → (reply ≡ (go w).0) × AreAt o now count new (go w).1

-- the reply to a session's request with a specification, or for a walk, after which the table and the walks are in
-- their new state
abbrev pub IsSelected : {A : Type 0} → Options → ℕ → (before now : Views → Type 0)
    → (old new : Continuations A) → Selection → Datum → Type 0
IsSelected o n before now old new selection reply =
    (count : ℕ) (w : Walked) → AreAt o before count old w
    → Takes (selecting w n selection) reply (AreAt o now count new)

-- the reply to a call that was made, or rejected for another reason than out of memory
abbrev pub IsReplied : {U : Type 0} → Result U Fault → Datum → Type 0
IsReplied (Ok u) reply = reply ≡ boolean true
IsReplied (Err f) reply = (f ≢ fault.Memory) × (reply ≡ error (fault_number f))
