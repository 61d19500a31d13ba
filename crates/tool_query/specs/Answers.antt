-- The lines of answers.
use Rattle.std.specs.Prelude.{ℕ, ◌≡◌, Option, Some, None, List, [], ◌∷◌, ◌++◌, codes}
use Rattle.std.specs.Io.KnownBytes.{Appends}
use Rattle.term_core.specs.Datum.{Datum}
use Rattle.term_core.specs.Datum.Datum.{atom, tuple}
use Rattle.term_core.specs.Datum.Items.{no_items, item}
use Rattle.term_text.specs.Text.{Front, Sentence, Sentences}
use Rattle.term_text.specs.declared.write.Form.{Form}
use Rattle.tool_io.specs.Lines.{line_in}

-- what is written for objects, in the given form: the answers alone, or an outcome for each object
pub data Report : Type 0 where
  answers : Form → Report
  outcomes : Form → Report

-- the line of an answer, or nothing if there is none
abbrev pub answer_line : Form → Option Datum → List ℕ
answer_line f None = []
answer_line f (Some d) = line_in f d

-- the atoms ok and false
abbrev pub ok_term : Datum
ok_term = atom (codes "ok")

abbrev pub false_term : Datum
false_term = atom (codes "false")

-- `{ok,A}` for an answer `A`, `false` if there is none
abbrev pub outcome_of : Option Datum → Datum
outcome_of None = false_term
outcome_of (Some d) = tuple (item ok_term (item d no_items))

-- what is written for an object, given its answer
abbrev pub report_line : Report → Option Datum → List ℕ
report_line (Report.answers f) answer = answer_line f answer
report_line (Report.outcomes f) answer = line_in f (outcome_of answer)

-- the lines on these objects, in their order, by the answer on each
abbrev pub AreLines : Report → (Datum → Option Datum → Type 0) → List Datum → List ℕ → Type 0
AreLines r Answered [] out = out ≡ []
AreLines r Answered (d ∷ ds) out =
    (answer : Option Datum) × (rest : List ℕ) × Answered d answer × AreLines r Answered ds rest
    × (out ≡ report_line r answer ++ rest)

-- the line on an object is appended
pub record Puts (r : Report) (Answered : Datum → Option Datum → Type 0) (object : Datum)
    (old new : List ℕ) : Type 0 where
  pub answer : Option Datum
  pub answered : Answered object answer
  pub grown : new ≡ old ++ report_line r answer

-- the lines on the terms that a text of characters spells
pub record AnswersText (r : Report) (Answered : Datum → Option Datum → Type 0) (text out : List ℕ)
    : Type 0 where
  pub objects : List Datum
  pub spelled : Sentences text objects
  pub lines : AreLines r Answered objects out

-- The lines on the first terms of a text, before a term for which memory ran out; `left` is left after that term.
pub record AnswersFront (r : Report) (Answered : Datum → Option Datum → Type 0) (text left out : List ℕ)
    : Type 0 where
  pub objects : List Datum
  pub now : List ℕ
  pub front : Front text objects now
  pub object : Datum
  pub last : Sentence now object left
  pub lines : AreLines r Answered objects out

-- the lines on all terms of a text, or on those before the one for which memory ran out
abbrev pub AreReported : Report → (Datum → Option Datum → Type 0) → (text out : List ℕ) → Option (List ℕ) → Type 0
AreReported r Answered text out None = AnswersText r Answered text out
AreReported r Answered text out (Some left) = AnswersFront r Answered text left out

-- the writer gains the lines on all objects
pub record WritesLines (r : Report) (Answered : Datum → Option Datum → Type 0)
    (objects : List Datum) (old new : Option (List ℕ)) : Type 0 where
  pub out : List ℕ
  pub lines : AreLines r Answered objects out
  pub gained : Appends old new out
