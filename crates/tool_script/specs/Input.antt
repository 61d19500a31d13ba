-- The terms of a script, and how it ends early.
use Rattle.std.specs.Prelude.{ℕ, ◌⊎◌, Option, List}
use Rattle.std.specs.Io.KnownBytes.{Keeps}
use Rattle.term_core.specs.Datum.{Datum}
use Rattle.term_text.specs.Text.{Spells}
use Rattle.tool_io.specs.Terms.{OfInput, IsUnspelled}
use Rattle.tool_io.specs.declared.fault.ToolFault.{ToolFault}
use Rattle.part_core.specs.declared.part.Part.{Ghosts}
use Rattle.tool_script.specs.declared.script.Script as script_type
use Rattle.tool_script.specs.Run.{StopsAt, StopsReplies}

-- `P` is true of the terms that a reader gave, maybe none
abbrev pub OfScript : Option (List ℕ) → (List Datum → Type 0) → Type 0
OfScript known P = OfInput known (λ input. (terms : List Datum) × Spells input terms × P terms)

-- how a script ends early: its input spells no terms and nothing is written, or a fault occurs while its terms are
-- replied to
abbrev pub StopsScript : (known old new : Option (List ℕ)) → ToolFault → Type 0
StopsScript known old new f =
    (OfInput known (λ input. IsUnspelled input f) × Keeps old new)
    ⊎ OfScript known (λ terms. StopsReplies terms old new f)

-- how a script ends early, seen from the script in memory: out of memory leaves the replies to all commands before the one
-- that was taken up last
abbrev pub StopsScriptAt : {S O A : Type 0} {s : Ghosts S A} {o : Ghosts O A} → (before after : script_type.Script S O A s o) → (known old new : Option (List ℕ)) → ToolFault → Type 0
StopsScriptAt before after known old new f =
    (OfInput known (λ input. IsUnspelled input f) × Keeps old new)
    ⊎ OfScript known (λ terms. StopsAt before after terms old new f)
