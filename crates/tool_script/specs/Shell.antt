-- The output of a shell, which replies to the commands of its input as they arrive. The pending text is made of the
-- lines that are read and not yet obeyed.
use Rattle.std.specs.Prelude.{ℕ, ◌≡◌, ◌≢◌, ◌⊎◌, Bool, true, false, Option, Some, IfSome, flat_map, codes}
use Rattle.std.specs.Prelude.{List, [], ◌∷◌, ◌++◌, length}
use Rattle.std.specs.Io.KnownBytes.{Appends}
use Rattle.term_core.specs.Datum.{Datum}
use Rattle.term_text.specs.Text.{Spells}
use Rattle.term_text.specs.FaultNumbers.{number_of, place_of}
use Rattle.term_text.specs.declared.fault.TextFault.{TextFault}
use Rattle.term_text.specs.declared.fault.TextFault.TheVariants as faults
use Rattle.tool_io.specs.Lines.{line}
use Rattle.tool_io.specs.Terms.{IsNoText}
use Rattle.tool_io.specs.declared.fault.ToolFault.{ToolFault}
use Rattle.tool_io.specs.declared.fault.ToolFault.TheVariants as fault
use Rattle.tool_script.specs.declared.line.Effect.TheVariants as effect
use Rattle.tool_script.specs.Command.{called}
use Rattle.tool_script.specs.Line.{first_line, behind_line, effect_of}
use Rattle.tool_script.specs.Script.{ScriptState, beginning}
use Rattle.tool_script.specs.Replied.{IsReply}
use Rattle.tool_script.specs.Walks.{arguments}

-- the error reply to a text: the error code of its fault, and the byte offset of the fault if it has one
abbrev pub refusal : TextFault → Datum
refusal f = called (codes "error") (arguments (Some (number_of f)) ++ arguments (place_of f))

-- the replies to terms one after the other, from one state to another
abbrev pub Replies : ScriptState → List Datum → List Datum → ScriptState → Type 0
Replies st [] [] after = st ≡ after
Replies st (d ∷ ds) (reply ∷ replies) after =
    (next : ScriptState) × IsReply st d reply next × Replies next ds replies after
Replies st ds replies after = ⊥

-- A pending text is examined: the lines that are written, the script after them, and the text that is still pending.
pub data Looked (is_given_up : Bool) (st : ScriptState) (text : List ℕ) : List ℕ → ScriptState → List ℕ → Type 0 where
  -- it spells terms, which are replied to
  spelled : {ds : List Datum} (replies : List Datum) {after : ScriptState} → Spells text ds → Replies st ds replies after
      → Looked is_given_up st text (flat_map line replies) after []
  -- it ends too early and is not given up, so it may go on
  cut_short : is_given_up ≡ false → IsNoText text (faults.Syntax (length text)) → Looked is_given_up st text [] st text
  -- it is rejected, and none of its commands is obeyed
  refused : {f : TextFault} → IsNoText text f → (is_given_up ≡ false → f ≢ faults.Syntax (length text))
      → Looked is_given_up st text (line (refusal f)) st []

-- From a state and a pending text, an input is processed line by line: the lines that are written, and the script after
-- them.
pub data Goes : ScriptState → List ℕ → List ℕ → List ℕ → ScriptState → Type 0 where
  -- the input has ended, and nothing is pending
  ended : {st : ScriptState} → Goes st [] [] [] st
  -- a line of white space or of a comment is skipped if nothing is pending
  passed : {st after : ScriptState} {c : ℕ} {input out : List ℕ} → effect_of [] (first_line (c ∷ input)) ≡ effect.Passes
      → Goes st [] (behind_line (c ∷ input)) out after → Goes st [] (c ∷ input) out after
  -- a line without a dot is appended to the pending text
  goes_on : {st after : ScriptState} {begun input out : List ℕ} → effect_of begun (first_line input) ≡ effect.GoesOn
      → Goes st (begun ++ first_line input) (behind_line input) out after → Goes st begun input out after
  -- a line with a dot is appended to the pending text, which is then examined
  looked_at : {st behind after : ScriptState} {begun input now left out : List ℕ}
      → effect_of begun (first_line input) ≡ effect.LooksAt → Looked false st (begun ++ first_line input) now behind left
      → Goes behind left (behind_line input) out after → Goes st begun input (now ++ out) after
  -- an empty line, or the end of the input, gives up the pending text
  given_up : {st behind after : ScriptState} {begun input now left out : List ℕ}
      → effect_of begun (first_line input) ≡ effect.GivesUp → Looked true st begun now behind left
      → Goes behind left (behind_line input) out after → Goes st begun input (now ++ out) after

abbrev pub Answered : ScriptState → List ℕ → List ℕ → List ℕ → Type 0
Answered st begun input out = (after : ScriptState) × Goes st begun input out after

-- the writer gains the output for the input
abbrev pub WritesAnswers : List ℕ → (old new : Option (List ℕ)) → Type 0
WritesAnswers input old new = (out : List ℕ) × Answered beginning [] input out × Appends old new out

-- With this pending text, `text` is the next text of the input that is examined: the pending text and the lines up to
-- one that has a dot, or up to where an empty line or the end of the input gives it up. A text that ends too early when
-- it is examined goes on.
pub data IsLookedAtNext : List ℕ → List ℕ → List ℕ → Type 0 where
  by_dot : {begun input : List ℕ} → effect_of begun (first_line input) ≡ effect.LooksAt
      → IsLookedAtNext begun input (begun ++ first_line input)
  by_giving_up : {begun input : List ℕ} → effect_of begun (first_line input) ≡ effect.GivesUp
      → IsLookedAtNext begun input begun
  behind_line_begun : {begun input text : List ℕ} → effect_of begun (first_line input) ≡ effect.GoesOn
      → IsLookedAtNext (begun ++ first_line input) (behind_line input) text → IsLookedAtNext begun input text
  behind_cut_short : {begun input text : List ℕ} → effect_of begun (first_line input) ≡ effect.LooksAt
      → IsNoText (begun ++ first_line input) (faults.Syntax (length (begun ++ first_line input)))
      → IsLookedAtNext (begun ++ first_line input) (behind_line input) text → IsLookedAtNext begun input text

-- the lines of the replies to the first of the terms that a text spells, maybe none
pub record FirstReplies (st : ScriptState) (text lines : List ℕ) : Type 0 where
  pub front : List Datum
  pub rest : List Datum
  pub spelled : Spells text (front ++ rest)
  pub replies : List Datum
  pub after : ScriptState
  pub replied : Replies st front replies after
  pub written : lines ≡ flat_map line replies

-- no lines, or those of the replies to the first terms of the text that is examined next in an input
abbrev pub AreFirstReplies : ScriptState → List ℕ → List ℕ → Type 0
AreFirstReplies st input lines =
    (lines ≡ []) ⊎ ((text : List ℕ) × IsLookedAtNext [] input text × FirstReplies st text lines)

-- the beginning of an input is processed with this output, whatever follows it; so no text is pending there that could
-- go on
abbrev pub IsAnsweredFirst : (front out : List ℕ) → ScriptState → Type 0
IsAnsweredFirst front out st =
    (rest more : List ℕ) (after : ScriptState) → Goes st [] rest more after → Goes beginning [] (front ++ rest) (out ++ more) after

-- The writer gains the output for the beginning of the input, and maybe the replies to the first terms of the text that
-- is examined next in what follows.
pub record WritesFirst (known old new : Option (List ℕ)) : Type 0 where
  pub front : List ℕ
  pub rest : List ℕ
  pub whole : IfSome known (λ bytes. bytes ≡ front ++ rest)
  pub out : List ℕ
  pub more : List ℕ
  pub st : ScriptState
  pub answered : IsAnsweredFirst front out st
  pub first : AreFirstReplies st rest more
  pub gained : Appends old new (out ++ more)

-- how a shell ends early: if memory runs out or reading fails, the output up to then is written; if writing fails, the
-- writer's contents are unspecified
abbrev pub StopsShell : (known old new : Option (List ℕ)) → ToolFault → Type 0
StopsShell known old new fault.Memory = WritesFirst known old new
StopsShell known old new fault.ReadFailed = WritesFirst known old new
StopsShell known old new fault.WriteFailed = Unit {0}
StopsShell known old new f = ⊥
