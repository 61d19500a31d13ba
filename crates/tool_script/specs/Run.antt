-- What is written for a script, and how that ends early.
use Rattle.std.specs.Prelude.{ℕ, ◌≡◌, ◌+◌, ◌++◌, flat_map, length, Option, List}
use Rattle.std.specs.Io.KnownBytes.{Appends}
use Rattle.term_core.specs.Datum.{Datum}
use Rattle.part_core.specs.declared.part.Part.{Ghosts}
use Rattle.tool_io.specs.Lines.{line}
use Rattle.tool_io.specs.declared.fault.ToolFault.{ToolFault}
use Rattle.tool_io.specs.declared.fault.ToolFault.TheVariants as fault
use Rattle.tool_script.specs.declared.script.Script as script_type
use Rattle.tool_script.specs.Script.{ScriptState, beginning}
use Rattle.tool_script.specs.Replied.{IsReply, AreReplies}
use Rattle.tool_script.specs.Scripts.{AreTaken, HasState}

-- the line of the reply to a term is appended
abbrev pub IsPut : {S O A : Type 0} {s : Ghosts S A} {o : Ghosts O A} → script_type.Script S O A s o → script_type.Script S O A s o → Datum → List ℕ → List ℕ → Type 0
IsPut old new term lines more =
    (st : ScriptState) → HasState old st
    → (reply : Datum) × (after : ScriptState) × IsReply st term reply after × HasState new after × (more ≡ lines ++ line reply)

-- the writer gains the lines of the replies to these terms
pub record WritesReplies (terms : List Datum) (old new : Option (List ℕ)) : Type 0 where
  pub replies : List Datum
  pub replied : AreReplies beginning terms replies
  pub gained : Appends old new (flat_map line replies)

-- the writer gains the lines of the replies to the first of these terms, maybe none
pub record WritesFirstReplies (terms : List Datum) (old new : Option (List ℕ)) : Type 0 where
  pub front : List Datum
  pub rest : List Datum
  pub whole : terms ≡ front ++ rest
  pub written : WritesReplies front old new

-- how a script ends early, seen from the script in memory: out of memory at the command that was taken up last, with the
-- replies to all commands before it written
abbrev pub StopsAt : {S O A : Type 0} {s : Ghosts S A} {o : Ghosts O A} → (before after : script_type.Script S O A s o) → List Datum → (old new : Option (List ℕ)) → ToolFault → Type 0
StopsAt before after terms old new fault.Memory =
    (first : WritesFirstReplies terms old new) × AreTaken before after (length first.front + 1)
StopsAt before after terms old new fault.WriteFailed = Unit {0}
StopsAt before after terms old new f = ⊥

-- how a script ends early: out of memory, with the replies to the first terms written; or the writer failed, and its
-- contents are unspecified
abbrev pub StopsReplies : List Datum → (old new : Option (List ℕ)) → ToolFault → Type 0
StopsReplies terms old new fault.Memory = WritesFirstReplies terms old new
StopsReplies terms old new fault.WriteFailed = Unit {0}
StopsReplies terms old new f = ⊥
