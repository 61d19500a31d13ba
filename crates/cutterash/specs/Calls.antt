-- What each call does, and why it rejects its input.
use Rattle.std.specs.Prelude.{ℕ, ◌≡◌, ◌<◌, ◌⊎◌, true, false, Option, Some, None, List, [], ◌∷◌, length}
use Rattle.term_core.specs.Datum.{Datum}
use Rattle.term_text.specs.Text.{Spells}
use Rattle.mcode.specs.Answer.{answer_of}
use Rattle.mcode.specs.Program.{Program}
use Rattle.mspec_syntax.specs.Specification.{Specification}
use Rattle.budget.specs.Paths.{IsBudget}
use Rattle.verifier.specs.Typing.{IsDepth}
use Rattle.tool_io.specs.Lines.{text_of}
use Rattle.tool_io.specs.Terms.{IsTextFault}
use Rattle.tool_io.specs.declared.fault.ToolFault.{ToolFault}
use Rattle.tool_io.specs.declared.fault.ToolFault.TheVariants as fault
use Rattle.tool_query.specs.Code.{IsFileOf}
use Rattle.tool_query.specs.Query.{IsRead, IsLoaded, IsNoSpecification, IsUnloaded}
use Rattle.cutterash.specs.declared.filter.Filter.{Filter}
use Rattle.cutterash.specs.declared.reply.Reply.{Reply}
use Rattle.cutterash.specs.Reply.{Gives, nothing_reply, bounds_reply, refusal_reply}

-- why a text does not spell one term: out of memory, the fault at its byte, or more than one term
abbrev pub IsNoTerm : List ℕ → ToolFault → Type 0
IsNoTerm text fault.Memory = Unit {0}
IsNoTerm text (fault.Text f) = IsTextFault text f
IsNoTerm text fault.BadInput = (ds : List Datum) × Spells text ds × (1 < length ds)
IsNoTerm text f = ⊥

-- the bytes are the file of the specification that the text spells
pub record IsCompiled (text bytes : List ℕ) : Type 0 where
  pub term : Datum
  pub specification : Specification
  pub spelled : Spells text (term ∷ [])
  pub read : IsRead term specification
  pub file : IsFileOf specification bytes

-- why a text has no file: it does not spell one term, or its term is no specification
abbrev pub IsUncompiled : List ℕ → ToolFault → Type 0
IsUncompiled text f =
    IsNoTerm text f ⊎ ((d : Datum) × Spells text (d ∷ []) × IsNoSpecification d f)

-- the text of an answer, if there is one
abbrev pub answer_text : Option Datum → Option (List ℕ)
answer_text None = None
answer_text (Some d) = Some (text_of d)

pub record IsAnswered (p : Program) (text : List ℕ) (answer : Option (List ℕ)) : Type 0 where
  pub object : Datum
  pub spelled : Spells text (object ∷ [])
  pub answer_is : answer ≡ answer_text (answer_of p object)

-- ---- replies

-- an input is rejected with this reply, and the room is unchanged
pub record Refuses (Why : ToolFault → Type 0) (old new : List ℕ) (r : Reply) : Type 0 where
  pub why : ToolFault
  pub because : Why why
  pub room : new ≡ old
  pub reply : r ≡ refusal_reply why

-- the reply has the file of the specification that the text spells, or says why there is none
abbrev pub Compiles : List ℕ → (old new : List ℕ) → Reply → Type 0
Compiles text old new r =
    ((bytes : List ℕ) × IsCompiled text bytes × Gives bytes old new r)
    ⊎ Refuses (IsUncompiled text) old new r

-- the filter is open, and has this code
abbrev pub Keeps : Filter → Program → Type 0
Keeps f p = (f.is_open ≡ true) × (f.code ≡ p)

-- the filter has the code, and the reply has its budget and its depth
pub record IsOpened (code : Program) (new : Filter) (r : Reply) : Type 0 where
  pub kept : Keeps new code
  pub budget : ℕ
  pub depth : ℕ
  pub budget_is : IsBudget code budget
  pub depth_is : IsDepth code depth
  pub reply : r ≡ bounds_reply budget depth

-- the filter is opened with the typed code of which the bytes are the file; or it is closed, and the reply says why
abbrev pub Loads : List ℕ → (new : Filter) → Reply → Type 0
Loads bytes new r =
    ((code : Program) × IsLoaded bytes code × IsOpened code new r)
    ⊎ ((f : ToolFault) × IsUnloaded bytes f × (new.is_open ≡ false) × (r ≡ refusal_reply f))

-- the reply has the answer on an object, or says that there is none
abbrev pub Tells : Option (List ℕ) → (old new : List ℕ) → Reply → Type 0
Tells None old new r = (new ≡ old) × (r ≡ nothing_reply)
Tells (Some bytes) old new r = Gives bytes old new r

-- the reply has the answer of code on the object that the text spells, or says why the text spells none
abbrev pub Answers : Program → List ℕ → (old new : List ℕ) → Reply → Type 0
Answers p text old new r =
    ((answer : Option (List ℕ)) × IsAnswered p text answer × Tells answer old new r)
    ⊎ Refuses (IsNoTerm text) old new r
