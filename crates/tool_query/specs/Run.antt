-- What is written for the terms of an input, and how that ends early.
use Rattle.std.specs.Prelude.{ℕ, ◌≡◌, ◌⊎◌, Option, Some, None, List, ◌∷◌}
use Rattle.std.specs.Io.KnownBytes.{Appends, Keeps}
use Rattle.std.specs.Str.{chars}
use Rattle.term_core.specs.Datum.{Datum}
use Rattle.mspec_syntax.specs.Specification.{Specification}
use Rattle.term_text.specs.Text.{Front}
use Rattle.tool_io.specs.Terms.{OfInput, OfTerms, HasTerms, IsUnread, IsUnspelled}
use Rattle.tool_io.specs.declared.fault.ToolFault.{ToolFault}
use Rattle.tool_io.specs.declared.fault.ToolFault.TheVariants as fault
use Rattle.tool_query.specs.Answers.{Report, WritesLines}
use Rattle.tool_query.specs.Answers.Report.{answers, outcomes}
use Rattle.tool_query.specs.Query.{Query, Answers, IsRead, IsQuery, IsNoSpecification, IsNoQuery}

-- the query that a first term is: a specification or a code file if answers are written, a specification if outcomes
-- are
abbrev pub Asks : Report → Datum → Query → Type 0
Asks (answers f) d q = IsQuery d q
Asks (outcomes f) d q = (s : Specification) × (q ≡ Query.meant s) × IsRead d s

-- why a first term is no query: its fault, or out of memory
abbrev pub AsksNothing : Report → Datum → ToolFault → Type 0
AsksNothing (answers form) d f = IsNoQuery d f
AsksNothing (outcomes form) d f = IsNoSpecification d f

-- the terms are a query and the objects
pub record IsAsked (r : Report) (terms : List Datum) (q : Query) (objects : List Datum) : Type 0
  where
    pub first : Datum
    pub whole : terms ≡ first ∷ objects
    pub asks : Asks r first q

-- the writer gains the lines of the query, which is the first term, on the objects that follow it
pub record WritesAnswers (r : Report) (terms : List Datum) (old new : Option (List ℕ)) : Type 0
  where
    pub query : Query
    pub objects : List Datum
    pub asked : IsAsked r terms query objects
    pub answered : WritesLines r (Answers query) objects old new

-- How answering ends early, but for an object for which memory ran out. Nothing is written. If the writer failed, its
-- contents are unspecified.
abbrev pub StopsAnswers : Report → List Datum → (old new : Option (List ℕ)) → ToolFault → Type 0
StopsAnswers r terms old new fault.WriteFailed = Unit {0}
StopsAnswers r terms old new fault.Memory = Keeps old new
StopsAnswers r terms old new f =
    (first : Datum) × (objects : List Datum) × (terms ≡ first ∷ objects) × AsksNothing r first f
    × Keeps old new

-- A command ends early: the input has no terms and nothing is written, or a fault occurs with its terms.
abbrev pub Stops : (known old new : Option (List ℕ)) → ToolFault → (List Datum → Type 0) → Type 0
Stops known old new f Stopped =
    (OfInput known (λ input. IsUnread input f) × Keeps old new) ⊎ OfTerms known Stopped

-- `P` is true of the terms of this input
abbrev pub OfItsTerms : List ℕ → (List Datum → Type 0) → Type 0
OfItsTerms input P = (terms : List Datum) × HasTerms input terms × P terms

-- a command ends early on a known input: it has no terms and nothing is written, or a fault occurs with its terms
abbrev pub StopsAt : (input : List ℕ) → (old new : Option (List ℕ)) → ToolFault → (List Datum → Type 0) → Type 0
StopsAt input old new f Stopped = (IsUnread input f × Keeps old new) ⊎ OfItsTerms input Stopped

-- ---- out of memory at an object

-- The writer gains the lines of the query, which is the first term of an input, on the objects that follow it, up to
-- some place in the input.
pub record WritesFront (r : Report) (input : List ℕ) (old new : Option (List ℕ)) : Type 0 where
  pub first : Datum
  pub query : Query
  pub asks : Asks r first query
  pub objects : List Datum
  pub rest : List ℕ
  pub front : Front (chars input) (first ∷ objects) rest
  pub answered : WritesLines r (Answers query) objects old new

-- Memory ran out for an object of this input, and the lines on the objects before it are written. If the writer failed
-- then, its contents are unspecified.
abbrev pub IsCutShort : Report → (input : List ℕ) → (old new : Option (List ℕ)) → ToolFault → Type 0
IsCutShort r input old new fault.Memory = WritesFront r input old new
IsCutShort r input old new fault.WriteFailed = Unit {0}
IsCutShort r input old new f = ⊥

-- how answering ends early, on what a reader gave and on a known input
abbrev pub StopsReport : Report → (known old new : Option (List ℕ)) → ToolFault → Type 0
StopsReport r known old new f =
    Stops known old new f (λ terms. StopsAnswers r terms old new f)
    ⊎ OfInput known (λ input. IsCutShort r input old new f)

abbrev pub StopsReportAt : Report → (input : List ℕ) → (old new : Option (List ℕ)) → ToolFault → Type 0
StopsReportAt r input old new f =
    StopsAt input old new f (λ terms. StopsAnswers r terms old new f) ⊎ IsCutShort r input old new f

-- after an object for which memory ran out: the text has a fault and nothing is written; or the lines are written, and
-- the command ends for lack of memory
abbrev pub EndsCut : (text : List ℕ) → (old new : Option (List ℕ)) → (lines : List ℕ) → ToolFault → Type 0
EndsCut text old new lines fault.Memory = Appends old new lines
EndsCut text old new lines fault.WriteFailed = Unit {0}
EndsCut text old new lines f = IsUnspelled text f × Keeps old new

-- the lines can't be written, or memory ran out for an object
abbrev pub EndsReport : (text : List ℕ) → (old new : Option (List ℕ)) → (lines : List ℕ) → Option (List ℕ) → ToolFault → Type 0
EndsReport text old new lines None f = f ≡ fault.WriteFailed
EndsReport text old new lines (Some left) f = EndsCut text old new lines f
