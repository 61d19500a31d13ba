-- A shell as the code has it in memory: its script, the pending text, and the lines that are not written yet.
use Rattle.std.specs.Prelude.{ℕ, ◌≡◌, ◌≢◌, ◌+◌, ◌⊎◌, Bool, true, false, Option, IfSome, flat_map, List, [], ◌∷◌, ◌++◌, length}
use Rattle.std.specs.Io.KnownBytes.{Appends, Consumes}
use Rattle.term_core.specs.Datum.{Datum}
use Rattle.term_text.specs.declared.fault.TextFault.{TextFault}
use Rattle.term_text.specs.declared.fault.TextFault.TheVariants as faults
use Rattle.part_core.specs.declared.part.Part.{Ghosts}
use Rattle.tool_io.specs.Lines.{line, Passes}
use Rattle.tool_io.specs.Terms.{IsNoText}
use Rattle.tool_io.specs.declared.fault.ToolFault.{ToolFault}
use Rattle.tool_io.specs.declared.fault.ToolFault.TheVariants as fault
use Rattle.tool_script.specs.declared.line.Progress.{Progress}
use Rattle.tool_script.specs.declared.line.Progress.TheVariants as progress
use Rattle.tool_script.specs.declared.script.Script as script_type
use Rattle.tool_script.specs.Line.{IsLineBefore}
use Rattle.tool_script.specs.Script.{ScriptState, beginning}
use Rattle.tool_script.specs.Scripts.{AreTaken, HasState}
use Rattle.tool_script.specs.Shell.{Replies, Looked, Goes, IsLookedAtNext, FirstReplies, AreFirstReplies, IsAnsweredFirst, refusal}

-- terms are replied to, and the lines of the replies are appended to the gathered ones, of which some may have gone to
-- the writer
abbrev pub AreAnswered : {S O A : Type 0} {s : Ghosts S A} {o : Ghosts O A} → script_type.Script S O A s o → script_type.Script S O A s o → List Datum → (before after : Option (List ℕ)) → (lines more : List ℕ) → Type 0
AreAnswered old new terms before after lines more =
    (st : ScriptState) → HasState old st
    → (replies : List Datum) × (behind : ScriptState) × Replies st terms replies behind × HasState new behind
    × Passes before after (lines ++ flat_map line replies) more

-- memory ran out while terms were replied to: the lines of the replies to all terms before the one that was taken up last
-- are appended to the gathered ones
abbrev pub StopsTerms : {S O A : Type 0} {s : Ghosts S A} {o : Ghosts O A} → script_type.Script S O A s o → script_type.Script S O A s o → List Datum → (before after : Option (List ℕ)) → (lines more : List ℕ) → ToolFault → Type 0
StopsTerms old new terms before after lines more fault.Memory =
    (st : ScriptState) → HasState old st
    → (front rest replies : List Datum) × (behind : ScriptState) × (terms ≡ front ++ rest) × Replies st front replies behind
    × Passes before after (lines ++ flat_map line replies) more × AreTaken old new (length front + 1)
StopsTerms old new terms before after lines more fault.WriteFailed = Unit {0}
StopsTerms old new terms before after lines more f = ⊥

-- a rejected text is still pending, or its error reply is appended to the lines
abbrev pub IsRefused : TextFault → ℕ → (is_given_up is_kept : Bool) → (lines more : List ℕ) → Type 0
IsRefused f size is_given_up true lines more =
    (f ≡ faults.Syntax size) × (is_given_up ≡ false) × (more ≡ lines)
IsRefused f size is_given_up false lines more =
    (f ≢ faults.Memory) × (is_given_up ≡ false → f ≢ faults.Syntax size) × (more ≡ lines ++ line (refusal f))

-- a text is examined: it is still pending and nothing has changed, or nothing is pending any more
abbrev pub IsLookedAt : {S O A : Type 0} {s : Ghosts S A} {o : Ghosts O A} → script_type.Script S O A s o → script_type.Script S O A s o → (is_given_up : Bool) → (text : List ℕ) → (is_kept : Bool) → (before after : Option (List ℕ)) → (lines more : List ℕ) → Type 0
IsLookedAt old new is_given_up text true before after lines more =
    (is_given_up ≡ false) × IsNoText text (faults.Syntax (length text)) × ((st : ScriptState) → HasState old st → HasState new st)
    × Passes before after lines more
IsLookedAt old new is_given_up text false before after lines more =
    (st : ScriptState) → HasState old st
    → (now : List ℕ) × (behind : ScriptState) × Looked is_given_up st text now behind [] × HasState new behind
    × Passes before after (lines ++ now) more

-- memory ran out while a text was examined: the replies to its first terms may have been appended to the lines
abbrev pub StopsText : {S O A : Type 0} {s : Ghosts S A} {o : Ghosts O A} → script_type.Script S O A s o → (text : List ℕ) → (before after : Option (List ℕ)) → (lines more : List ℕ) → ToolFault → Type 0
StopsText old text before after lines more fault.Memory =
    (st : ScriptState) → HasState old st
    → (now : List ℕ) × ((now ≡ []) ⊎ FirstReplies st text now) × Passes before after (lines ++ now) more
StopsText old text before after lines more fault.WriteFailed = Unit {0}
StopsText old text before after lines more f = ⊥

-- whatever follows this line, the text that is examined next is this one
abbrev pub IsLookedAtBy : (begun line text : List ℕ) → Type 0
IsLookedAtBy begun line text = (rest : List ℕ) → IsLineBefore line rest → IsLookedAtNext begun (line ++ rest) text

-- memory ran out at a line that follows the pending text: the replies to the first terms of the text examined there may
-- have been appended to the lines
abbrev pub StopsLine : {S O A : Type 0} {s : Ghosts S A} {o : Ghosts O A} → script_type.Script S O A s o → (begun line : List ℕ) → (before after : Option (List ℕ)) → (lines more : List ℕ) → ToolFault → Type 0
StopsLine old begun line before after lines more fault.Memory =
    (st : ScriptState) → HasState old st
    → (now : List ℕ) × ((now ≡ []) ⊎ ((text : List ℕ) × IsLookedAtBy begun line text × FirstReplies st text now))
    × Passes before after (lines ++ now) more
StopsLine old begun line before after lines more fault.WriteFailed = Unit {0}
StopsLine old begun line before after lines more f = ⊥

-- whatever follows a line: if the rest of the input is processed from the state after the line, the line and the rest
-- are processed from the state before it
abbrev pub LeadsOn : ScriptState → (begun line now : List ℕ) → ScriptState → (left : List ℕ) → Type 0
LeadsOn st begun line now behind left =
    (rest out : List ℕ) (after : ScriptState) → IsLineBefore line rest → Goes behind left rest out after
    → Goes st begun (line ++ rest) (now ++ out) after

-- if the line joins the pending text, the text that is examined next is the same with the line pending or still to be
-- read
abbrev pub LooksOn : (begun line : List ℕ) → Type 0
LooksOn begun line =
    (rest text : List ℕ) → IsLineBefore line rest → IsLookedAtNext (begun ++ line) rest text → IsLookedAtNext begun (line ++ rest) text

-- a line is processed: it is pending, or nothing is pending any more
abbrev pub IsLineAnswered : {S O A : Type 0} {s : Ghosts S A} {o : Ghosts O A} → script_type.Script S O A s o → script_type.Script S O A s o → (begun line : List ℕ) → (is_kept : Bool) → (before after : Option (List ℕ)) → (lines more : List ℕ) → Type 0
IsLineAnswered old new begun line true before after lines more =
    ((st : ScriptState) → HasState old st → HasState new st × LeadsOn st begun line [] st (begun ++ line))
    × LooksOn begun line × Passes before after lines more
IsLineAnswered old new begun line false before after lines more =
    (st : ScriptState) → HasState old st
    → (now : List ℕ) × (behind : ScriptState) × HasState new behind × LeadsOn st begun line now behind []
    × Passes before after (lines ++ now) more

-- what may follow a line: anything, or nothing after the end of the input
abbrev pub MayFollow : Progress → List ℕ → Type 0
MayFollow progress.More rest = Unit {0}
MayFollow progress.End rest = rest ≡ []

-- what may follow the input processed so far: anything while a text is pending, else what may follow a line
abbrev pub MayStandBehind : Progress → (begun rest : List ℕ) → Type 0
MayStandBehind p [] rest = MayFollow p rest
MayStandBehind p (b ∷ begun) rest = Unit {0}

-- at the end of the input, `taken` is all that the reader had
abbrev pub IsAllAt : Progress → Option (List ℕ) → List ℕ → Type 0
IsAllAt progress.More known taken = Unit {0}
IsAllAt progress.End known taken = IfSome known (λ bytes. bytes ≡ taken)

-- A shell between two lines: the input so far is what was processed and what is pending; processing goes on from here
-- as from the beginning; and the output lines are written or gathered.
pub record Stands {S O A : Type 0} {s : Ghosts S A} {o : Ghosts O A} (script : script_type.Script S O A s o) (p : Progress) (known left old now : Option (List ℕ)) (begun lines : List ℕ) : Type 0
  where
    pub front : List ℕ
    pub out : List ℕ
    pub st : ScriptState
    pub state : HasState script st
    pub answered : (rest more : List ℕ) (after : ScriptState) → MayStandBehind p begun rest → Goes st [] rest more after
        → Goes beginning [] (front ++ rest) (out ++ more) after
    pub on : (rest more : List ℕ) (after : ScriptState) → MayFollow p rest → Goes st begun rest more after
        → Goes beginning [] ((front ++ begun) ++ rest) (out ++ more) after
    pub next : (rest text : List ℕ) → MayFollow p rest → IsLookedAtNext begun rest text → IsLookedAtNext [] (begun ++ rest) text
    pub lost : Consumes known left (front ++ begun)
    pub all : IsAllAt p known (front ++ begun)
    pub put : Passes old now out lines

-- the lines written and gathered are the output for the beginning of the input, and maybe the replies to the first
-- terms of the text that is examined next
pub record HoldsFirst (known old now : Option (List ℕ)) (lines : List ℕ) : Type 0 where
  pub front : List ℕ
  pub rest : List ℕ
  pub whole : IfSome known (λ bytes. bytes ≡ front ++ rest)
  pub out : List ℕ
  pub more : List ℕ
  pub st : ScriptState
  pub answered : IsAnsweredFirst front out st
  pub first : AreFirstReplies st rest more
  pub put : Passes old now (out ++ more) lines

abbrev pub StopsHolding : (known old now : Option (List ℕ)) → (lines : List ℕ) → ToolFault → Type 0
StopsHolding known old now lines fault.Memory = HoldsFirst known old now lines
StopsHolding known old now lines fault.ReadFailed = HoldsFirst known old now lines
StopsHolding known old now lines fault.WriteFailed = Unit {0}
StopsHolding known old now lines f = ⊥

-- the gathered lines are written and the fault stays, or writing fails and the fault is `WriteFailed`
abbrev pub IsToldBy : ToolFault → (old new : Option (List ℕ)) → (lines : List ℕ) → ToolFault → Type 0
IsToldBy f old new lines result = (result ≡ fault.WriteFailed) ⊎ ((result ≡ f) × Appends old new lines)
