-- A script as the code has it in memory, and the state that it is in.
use Rattle.std.specs.Prelude.{ℕ, ◌≡◌, ◌<◌, ◌≤◌, ◌+◌, ◌⊎◌, Option, Some, None, IfSome}
use Rattle.term_core.specs.Datum.{Datum}
use Rattle.part_core.specs.declared.part.Part.{Ghosts}
use Rattle.tables.specs.declared.options.Options.{Options}
use Rattle.tool_script.specs.declared.script.Current.{Current}
use Rattle.tool_script.specs.declared.script.Current.TheVariants as current
use Rattle.tool_script.specs.declared.script.Script as script_type
use Rattle.tool_script.specs.Command.{Command}
use Rattle.tool_script.specs.Continuations.{AreHeld}
use Rattle.tool_script.specs.Course.{Takes}
use Rattle.tool_script.specs.Script.{OpenTable, ScriptState}
use Rattle.tool_script.specs.Opened.{IsOpen}
use Rattle.tool_script.specs.Replied.{course, IsReply}

-- the open table in memory is in this state, or no table is open
abbrev pub HasTable : {S O A : Type 0} {s : Ghosts S A} {o : Ghosts O A} → Current S O A s o → Option OpenTable → Type 0
HasTable current.NoTable None = Unit {0}
HasTable (current.Unordered t) (Some state) = IsOpen t state
HasTable (current.Ordered t) (Some state) = IsOpen t state
HasTable t state = ⊥

-- the options of the open table, if there is one
abbrev pub open_options : {S O A : Type 0} {s : Ghosts S A} {o : Ghosts O A} → Current S O A s o → Option Options
open_options current.NoTable = None
open_options (current.Unordered t) = Some t.table.options
open_options (current.Ordered t) = Some t.table.options

-- A script in memory is in this state: the number of tables opened, one of which is the open one; its table; and its
-- walks.
pub record HasState {S O A : Type 0} {s : Ghosts S A} {o : Ghosts O A} (script : script_type.Script S O A s o) (st : ScriptState) : Type 0
  where
    pub count : st.count ≡ script.count
    pub current : HasTable script.current st.current
    pub named : IfSome (open_options script.current) (λ options. options.name < script.count)
    pub walks : AreHeld (open_options script.current) script.count script.walks st.walks

-- These many commands were taken up from one state of the script in memory to another. A count ends at 2^64 - 1, and
-- says nothing more then.
abbrev pub AreTaken : {S O A : Type 0} {s : Ghosts S A} {o : Ghosts O A} → script_type.Script S O A s o → script_type.Script S O A s o → ℕ → Type 0
AreTaken old new n = (new.taken ≡ old.taken + n) ⊎ (18446744073709551615 ≤ new.taken)

-- the reply to a command, after which the script is in its new state
abbrev pub IsStep : {S O A : Type 0} {s : Ghosts S A} {o : Ghosts O A} → script_type.Script S O A s o → script_type.Script S O A s o → Command → Datum → Type 0
IsStep old new command reply =
    (st : ScriptState) → HasState old st → Takes (course st st.current command) reply (HasState new)

-- the reply to a term, after which the script is in its new state
abbrev pub IsTermStep : {S O A : Type 0} {s : Ghosts S A} {o : Ghosts O A} → script_type.Script S O A s o → script_type.Script S O A s o → Datum → Datum → Type 0
IsTermStep old new term reply =
    (st : ScriptState) → HasState old st
    → (after : ScriptState) × IsReply st term reply after × HasState new after
