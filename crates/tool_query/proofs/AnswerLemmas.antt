-- The lines on the terms of a text, one after the other.
use Rattle.std.proofs.Common.{ℕ, Option, Some, None, List, [], ◌∷◌, ◌++◌, refl, append_assoc}
use Rattle.std.proofs.lemmas.List.{append-nil}
use Rattle.term_core.specs.Datum.{Datum}
use Rattle.term_text.specs.Text.{Sentences, Sentence, Front}
use Rattle.term_text.specs.Text.Front.{at_first, behind}
use Rattle.term_text.proofs.Nexts.{front_whole, front_join}
use Rattle.tool_query.specs.Answers.{Report, AreLines, AnswersText, AnswersFront, AreReported, Puts, report_line}

-- which answer a query gives on an object
abbrev Relation : Type 1
Relation = Datum → Option Datum → Type 0

-- the line on one more object
lines_more : (r : Report) (R : Relation) (ds : List Datum) (d : Datum) (answer : Option Datum) (out : List ℕ) → AreLines r R ds out → R d answer → AreLines r R (ds ++ d ∷ []) (out ++ report_line r answer)
lines_more r R [] d answer out h m = (answer, [], m, refl, rw (h, append-nil))
lines_more r R (e ∷ ds) d answer out h m =
    (h.0, h.1 ++ report_line r answer, h.2, lines_more r R ds d answer h.1 h.3 m, rw h.4 (append_assoc (report_line r h.0) h.1 (report_line r answer)))

-- the lines on the terms between two places of a text
pub record Answered (r : Report) (R : Relation) (start now lines : List ℕ) : Type 0 where
  pub done : List Datum
  pub front : Front start done now
  pub answers : AreLines r R done lines

pub answered_none : (r : Report) (R : Relation) (start : List ℕ) → Answered r R start start []
answered_none r R start = record { done = []; front = at_first; answers = refl }

-- one more term
pub answered_more : (r : Report) (R : Relation) (start now after lines more : List ℕ) (d : Datum) → Answered r R start now lines → Sentence now d after → Puts r R d lines more → Answered r R start after more
answered_more r R start now after lines more d a s p =
    record {
      done = a.done ++ d ∷ [];
      front = behind a.front s;
      answers = rw p.grown (lines_more r R a.done d p.answer lines a.answers p.answered);
    }

-- the end of the terms
pub answered_all : (r : Report) (R : Relation) (start now lines : List ℕ) → Answered r R start now lines → Sentences now [] → AnswersText r R start lines
answered_all r R start now lines a end =
    record { objects = a.done; spelled = rw append-nil at (front_whole a.front end); lines = a.answers }

-- memory ran out for the next term
pub answered_cut : (r : Report) (R : Relation) (start now left lines : List ℕ) (object : Datum) → Answered r R start now lines → Sentence now object left → AnswersFront r R start left lines
answered_cut r R start now left lines object a last =
    record { objects = a.done; now = now; front = a.front; object = object; last = last; lines = a.answers }

-- what comes before the next term
pub answered_front : (r : Report) (R : Relation) (text start now lines : List ℕ) (ds : List Datum) → Front text ds start → (a : Answered r R start now lines) → Front text (ds ++ a.done) now
answered_front r R text start now lines ds front a = front_join front a.front

-- ---- another relation that is implied by this one

lines_as : (r : Report) (R S : Relation) → ((d : Datum) (a : Option Datum) → R d a → S d a) → (ds : List Datum) (out : List ℕ) → AreLines r R ds out → AreLines r S ds out
lines_as r R S so [] out h = h
lines_as r R S so (d ∷ ds) out h = (h.0, h.1, so d h.0 h.2, lines_as r R S so ds h.1 h.3, h.4)

pub answers_as : (r : Report) (R S : Relation) → ((d : Datum) (a : Option Datum) → R d a → S d a) → (text out : List ℕ) → AnswersText r R text out → AnswersText r S text out
answers_as r R S so text out a = record { objects = a.objects; spelled = a.spelled; lines = lines_as r R S so a.objects out a.lines }

pub cut_as : (r : Report) (R S : Relation) → ((d : Datum) (a : Option Datum) → R d a → S d a) → (text left out : List ℕ) → AnswersFront r R text left out → AnswersFront r S text left out
cut_as r R S so text left out a =
    record { objects = a.objects; now = a.now; front = a.front; object = a.object; last = a.last; lines = lines_as r R S so a.objects out a.lines }

pub reported_as : (r : Report) (R S : Relation) → ((d : Datum) (a : Option Datum) → R d a → S d a) → (text out : List ℕ) (left : Option (List ℕ)) → AreReported r R text out left → AreReported r S text out left
reported_as r R S so text out None a = answers_as r R S so text out a
reported_as r R S so text out (Some left) a = cut_as r R S so text left out a
