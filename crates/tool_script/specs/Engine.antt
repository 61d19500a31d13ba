-- What an engine makes of the texts of commands that it is given, one after the other.
use Rattle.std.specs.Prelude.{ℕ, ◌≡◌, ◌⊎◌, ◌+◌, flat_map, length, List, ◌++◌}
use Rattle.term_core.specs.Datum.{Datum}
use Rattle.term_text.specs.Text.{Spells}
use Rattle.term_text.specs.declared.fault.TextFault.{TextFault}
use Rattle.term_text.specs.declared.fault.TextFault.TheVariants as faults
use Rattle.part_core.specs.declared.part.Part.{Ghosts}
use Rattle.tool_io.specs.Lines.{line}
use Rattle.tool_io.specs.Terms.{IsNoText}
use Rattle.tool_script.specs.declared.engine.Engine as engine_type
use Rattle.tool_script.specs.declared.engine.Halt.{Halt}
use Rattle.tool_script.specs.declared.engine.Halt.TheVariants as halt
use Rattle.tool_script.specs.declared.script.Script as script_type
use Rattle.tool_script.specs.Script.{ScriptState, beginning}
use Rattle.tool_script.specs.Scripts.{AreTaken, HasState}
use Rattle.tool_script.specs.Shell.{Replies, FirstReplies}

-- the terms are replied to one after the other from the script's state, and the lines of the replies are appended
abbrev pub ArePut : {S O A : Type 0} {s : Ghosts S A} {o : Ghosts O A} → script_type.Script S O A s o → script_type.Script S O A s o → List Datum → (lines more : List ℕ) → Type 0
ArePut old new terms lines more =
    (st : ScriptState) → HasState old st
    → (replies : List Datum) × (after : ScriptState) × Replies st terms replies after × HasState new after
    × (more ≡ lines ++ flat_map line replies)

-- all terms before the one that was taken up last are replied to, and the lines of the replies are appended
abbrev pub ArePutFirst : {S O A : Type 0} {s : Ghosts S A} {o : Ghosts O A} → script_type.Script S O A s o → script_type.Script S O A s o → List Datum → (lines more : List ℕ) → Type 0
ArePutFirst old new terms lines more =
    (st : ScriptState) → HasState old st
    → (front rest replies : List Datum) × (after : ScriptState) × (terms ≡ front ++ rest) × Replies st front replies after
    × (more ≡ lines ++ flat_map line replies) × AreTaken old new (length front + 1)

-- an engine is in this state
abbrev pub IsIn : {S O A : Type 0} {s : Ghosts S A} {o : Ghosts O A} → engine_type.Engine S O A s o → ScriptState → Type 0
IsIn e st = HasState e.script st

-- the lines of the replies to the last text
abbrev pub lines_of : {S O A : Type 0} {s : Ghosts S A} {o : Ghosts O A} → engine_type.Engine S O A s o → List ℕ
lines_of e = e.replies.items

-- A text spells terms, which are replied to from the engine's state. The engine then has the lines of these replies,
-- and is in the state after them.
abbrev pub IsObeyed : {S O A : Type 0} {s : Ghosts S A} {o : Ghosts O A} → (old new : engine_type.Engine S O A s o) → (text : List ℕ) → Type 0
IsObeyed old new text =
    (st : ScriptState) → IsIn old st
    → (terms replies : List Datum) × (after : ScriptState) × Spells text terms × Replies st terms replies after × IsIn new after
    × (lines_of new ≡ flat_map line replies)

-- why a text is not read: out of memory, or what is wrong at the byte that the fault names
abbrev pub IsUnread : List ℕ → TextFault → Type 0
IsUnread text f = (f ≡ faults.Memory) ⊎ IsNoText text f

-- Memory ran out while the commands were obeyed: the engine is at its beginning again, and has the lines of the replies
-- to the first of the text's terms.
abbrev pub IsLost : {S O A : Type 0} {s : Ghosts S A} {o : Ghosts O A} → (old new : engine_type.Engine S O A s o) → (text : List ℕ) → Type 0
IsLost old new text = IsIn new beginning × ((st : ScriptState) → IsIn old st → FirstReplies st text (lines_of new))

-- a text that is not read changes nothing; else memory ran out while its commands were obeyed
abbrev pub IsHalted : {S O A : Type 0} {s : Ghosts S A} {o : Ghosts O A} → (old new : engine_type.Engine S O A s o) → (text : List ℕ) → Halt → Type 0
IsHalted old new text (halt.Unread f) = IsUnread text f × (new ≡ old)
IsHalted old new text halt.Lost = IsLost old new text
