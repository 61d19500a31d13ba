-- What is known of terms, as what is known of an input.
use Rattle.std.proofs.Common.{◌≡◌, ◌<◌, inl, inr, ℕ, ◌-◌, Option, Some, None, List, [], ◌∷◌, ◌++◌, IfSome, IfErr, Result, Ok, Err, length, refl, sym, ap, ◌∙◌, get_or, drop, take, arith}
use Rattle.std.proofs.lemmas.List.{take_all}
use Rattle.std.proofs.lemmas.Option.{none-some}
use Rattle.std.specs.Str.{IsUtf8, chars}
use Rattle.std.specs.Io.KnownBytes.{Keeps, Appends}
use Rattle.term_core.specs.Datum.{Datum}
use Rattle.term_core.specs.Datum.Datum.{binary}
use Rattle.term_text.specs.Text.{Sentences, Sentence, Front}
use Rattle.term_text.specs.Text.Front.{at_first, behind}
use Rattle.term_text.proofs.Nexts.{sentence_first, front_join}
use Rattle.tool_io.specs.Terms.{OfInput, OfTerms, HasTerms, IsUnread, IsUnspelled}
use Rattle.tool_io.specs.declared.fault.ToolFault.{ToolFault}
use Rattle.tool_io.specs.declared.fault.ToolFault.TheVariants as fault
use Rattle.tool_io.proofs.TermsLemmas.{unspelled_is_unread}
use Rattle.tool_query.specs.Answers.{Report, AnswersText, AnswersFront, AreReported}
use Rattle.tool_query.specs.Code.{StopsVerdict}
use Rattle.tool_query.specs.Query.{Query, Answers, IsUnloaded}
use Rattle.tool_query.specs.Run.{Asks, AsksNothing, WritesAnswers, WritesFront, StopsAnswers, Stops, OfItsTerms, StopsAt, StopsReportAt, EndsCut, EndsReport}

-- a writer that is not called keeps its contents
pub kept : (known : Option (List ℕ)) → Keeps known known
kept None = tt
kept (Some bytes) = refl

-- terms that were read
pub of_terms : (known : Option (List ℕ)) (terms : List Datum) (P : List Datum → Type 0) → OfInput known (λ input. HasTerms input terms) → P terms → OfTerms known P
of_terms known terms P h p = (h.0, h.1, (terms, h.2, p))

-- there are no terms, so nothing is written
pub unread : (known old : Option (List ℕ)) (f : ToolFault) (Stopped : List Datum → Type 0) → OfInput known (λ input. IsUnread input f) → Stops known old old f Stopped
unread known old f Stopped h = inl (h, kept old)

-- ---- a query and objects

-- terms split into the first and the others
pub parted : (terms : List Datum) (first : Datum) → 0 < length terms → first ≡ get_or terms 0 first → terms ≡ first ∷ take (length terms - 1) (drop 1 terms)
parted [] first some is = absurd (omega (arith, some))
parted (d ∷ ds) first some is = ap (λ e. e ∷ ds) (sym is) ∙ ap (λ es. first ∷ es) (sym (take_all (length (d ∷ ds) - 1) ds (omega arith)))

-- terms of which the first was read separately
pub has_terms : (input text rest : List ℕ) (first : Datum) (objects : List Datum) → text ≡ input → IsUtf8 text → Sentence (chars text) first rest → Sentences rest objects → HasTerms input (first ∷ objects)
has_terms input text rest first objects is utf8 s more =
    let here : HasTerms text (first ∷ objects) = record { spelled = record { utf8 = utf8; sentences = sentence_first s more }; some = omega arith } in
    rw is at here

-- one term comes before what is left
pub one_front : {text rest : List ℕ} {d : Datum} → Sentence text d rest → Front text (d ∷ []) rest
one_front s = behind at_first s

-- the lines of a query are written
pub report_written : (r : Report) (input text rest lines : List ℕ) (first : Datum) (q : Query) (old new : Option (List ℕ)) → text ≡ input → IsUtf8 text → Sentence (chars text) first rest → Asks r first q → AnswersText r (Answers q) rest lines → Appends old new lines → OfItsTerms input (λ terms. WritesAnswers r terms old new)
report_written r input text rest lines first q old new is utf8 s asks a gained = (
  first ∷ a.objects,
  has_terms input text rest first a.objects is utf8 s a.spelled,
  record {
    query = q;
    objects = a.objects;
    asked = record { first = first; whole = refl; asks = asks };
    answered = record { out = lines; lines = a.lines; gained = gained };
  },
)

-- the lines on all terms are written, by the answers that the query gives
pub report_finished : (r : Report) (input text rest lines : List ℕ) (left : Option (List ℕ)) (first : Datum) (q : Query) (old new : Option (List ℕ)) → text ≡ input → IsUtf8 text → Sentence (chars text) first rest → Asks r first q → AreReported r (Answers q) rest lines left → left ≡ None → Appends old new lines → OfItsTerms input (λ terms. WritesAnswers r terms old new)
report_finished r input text rest lines None first q old new is utf8 s asks a none gained = report_written r input text rest lines first q old new is utf8 s asks a gained
report_finished r input text rest lines (Some left) first q old new is utf8 s asks a none gained = absurd (none-some left (sym none))

-- the lines before an object for which memory ran out are written
cut_written : (r : Report) (input text rest left lines : List ℕ) (first : Datum) (q : Query) (old new : Option (List ℕ)) → text ≡ input → Sentence (chars text) first rest → Asks r first q → AnswersFront r (Answers q) rest left lines → Appends old new lines → WritesFront r input old new
cut_written r input text rest left lines first q old new is s asks a gained =
    let here : WritesFront r text old new =
    record { first = first; query = q; asks = asks; objects = a.objects; rest = a.now; front = front_join (one_front s) a.front; answered = record { out = lines; lines = a.lines; gained = gained } } in
    rw is at here

-- what comes before what is left after such an object
pub cut_front : (r : Report) (R : Datum → Option Datum → Type 0) (text rest left lines : List ℕ) (first : Datum) → Sentence text first rest → (a : AnswersFront r R rest left lines) → Front text ((first ∷ a.objects) ++ a.object ∷ []) left
cut_front r R text rest left lines first s a = behind (front_join (one_front s) a.front) a.last

cut_unspelled : (r : Report) (input text : List ℕ) (old new : Option (List ℕ)) (f : ToolFault) → text ≡ input → IsUnspelled text f × Keeps old new → StopsReportAt r input old new f
cut_unspelled r input text old new f is e =
    let unread : IsUnread text f = unspelled_is_unread text f e.0 in
    inl (inl (rw is at unread, e.1))

cut_stops : (r : Report) (input text rest left lines : List ℕ) (first : Datum) (q : Query) (old new : Option (List ℕ)) (f : ToolFault) → text ≡ input → Sentence (chars text) first rest → Asks r first q → AnswersFront r (Answers q) rest left lines → EndsCut text old new lines f → StopsReportAt r input old new f
cut_stops r input text rest left lines first q old new fault.Memory is s asks a e = inr (cut_written r input text rest left lines first q old new is s asks a e)
cut_stops r input text rest left lines first q old new fault.WriteFailed is s asks a e = inr tt
cut_stops r input text rest left lines first q old new (fault.Text g) is s asks a e = cut_unspelled r input text old new (fault.Text g) is e
cut_stops r input text rest left lines first q old new fault.BadInput is s asks a e = cut_unspelled r input text old new fault.BadInput is e
cut_stops r input text rest left lines first q old new (fault.Specification g) is s asks a e = cut_unspelled r input text old new (fault.Specification g) is e
cut_stops r input text rest left lines first q old new (fault.File g) is s asks a e = cut_unspelled r input text old new (fault.File g) is e
cut_stops r input text rest left lines first q old new (fault.Code g b) is s asks a e = cut_unspelled r input text old new (fault.Code g b) is e
cut_stops r input text rest left lines first q old new fault.ReadFailed is s asks a e = cut_unspelled r input text old new fault.ReadFailed is e
cut_stops r input text rest left lines first q old new fault.TooSmall is s asks a e = cut_unspelled r input text old new fault.TooSmall is e
cut_stops r input text rest left lines first q old new fault.BadOptions is s asks a e = cut_unspelled r input text old new fault.BadOptions is e

-- the writer fails, or memory ran out for an object
pub report_stops : (r : Report) (input text rest lines : List ℕ) (left : Option (List ℕ)) (first : Datum) (q : Query) (old new : Option (List ℕ)) (f : ToolFault) → text ≡ input → IsUtf8 text → Sentence (chars text) first rest → Asks r first q → AreReported r (Answers q) rest lines left
    → ((ds : List Datum) → IfSome left (Front (chars text) ds) → EndsReport text old new lines left f) → StopsReportAt r input old new f
report_stops r input text rest lines None first q old new f is utf8 s asks a ends =
    inl (inr (first ∷ a.objects, has_terms input text rest first a.objects is utf8 s a.spelled, rw (ends [] tt) tt))
report_stops r input text rest lines (Some left) first q old new f is utf8 s asks a ends =
    cut_stops r input text rest left lines first q old new f is s asks a (ends ((first ∷ a.objects) ++ a.object ∷ []) (cut_front r (Answers q) (chars text) rest left lines first s a))

-- a refusal that is known for whatever comes before
pub ended_refused : {X : Type 0} {P : List Datum → Type 0} {R S : ToolFault → Type 0} (result : Result X ToolFault) → ((f : ToolFault) → ((ds : List Datum) → P ds → R f) → S f) → ((ds : List Datum) → P ds → IfErr result R) → IfErr result S
ended_refused (Ok x) so ends = tt
ended_refused (Err f) so ends = so f ends

-- the text is rejected, or has no term
pub report_unread : (input text : List ℕ) (old : Option (List ℕ)) (f : ToolFault) (Stopped : List Datum → Type 0) → text ≡ input → IsUnread text f → StopsAt input old old f Stopped
report_unread input text old f Stopped is h = inl (rw is at h, kept old)

pub report_unspelled : (input text : List ℕ) (old : Option (List ℕ)) (f : ToolFault) (Stopped : List Datum → Type 0) → text ≡ input → IsUnspelled text f → StopsAt input old old f Stopped
report_unspelled input text old f Stopped is h = report_unread input text old f Stopped is (unspelled_is_unread text f h)

-- the first term is no query
pub asked_nothing : (r : Report) (terms : List Datum) (first : Datum) (objects : List Datum) (old : Option (List ℕ)) (f : ToolFault) → terms ≡ first ∷ objects → AsksNothing r first f → StopsAnswers r terms old old f
asked_nothing r terms first objects old fault.Memory is h = kept old
asked_nothing r terms first objects old fault.WriteFailed is h = tt
asked_nothing r terms first objects old (fault.Text f) is h = (first, objects, is, h, kept old)
asked_nothing r terms first objects old fault.BadInput is h = (first, objects, is, h, kept old)
asked_nothing r terms first objects old (fault.Specification f) is h = (first, objects, is, h, kept old)
asked_nothing r terms first objects old (fault.File f) is h = (first, objects, is, h, kept old)
asked_nothing r terms first objects old (fault.Code f b) is h = (first, objects, is, h, kept old)
asked_nothing r terms first objects old fault.ReadFailed is h = (first, objects, is, h, kept old)
asked_nothing r terms first objects old fault.TooSmall is h = (first, objects, is, h, kept old)
asked_nothing r terms first objects old fault.BadOptions is h = (first, objects, is, h, kept old)

-- the first term of an input is no query
pub report_nothing : (r : Report) (input text rest : List ℕ) (first : Datum) (objects : List Datum) (old : Option (List ℕ)) (f : ToolFault) → text ≡ input → IsUtf8 text → Sentence (chars text) first rest → Sentences rest objects → AsksNothing r first f → StopsAt input old old f (λ terms. StopsAnswers r terms old old f)
report_nothing r input text rest first objects old f is utf8 s more h =
    inr (first ∷ objects, has_terms input text rest first objects is utf8 s more, asked_nothing r (first ∷ objects) first objects old f refl h)

-- ---- a file that can't be loaded

pub unloaded_stops : (terms : List Datum) (bytes : List ℕ) (old : Option (List ℕ)) (f : ToolFault) → terms ≡ binary bytes ∷ [] → IsUnloaded bytes f → StopsVerdict terms old old f
unloaded_stops terms bytes old fault.Memory is h = kept old
unloaded_stops terms bytes old fault.WriteFailed is h = tt
unloaded_stops terms bytes old fault.BadInput is h = absurd h
unloaded_stops terms bytes old (fault.Text f) is h = absurd h
unloaded_stops terms bytes old (fault.Specification f) is h = absurd h
unloaded_stops terms bytes old (fault.File f) is h = (bytes, is, h, kept old)
unloaded_stops terms bytes old (fault.Code f b) is h = (bytes, is, h, kept old)
unloaded_stops terms bytes old fault.ReadFailed is h = absurd h
unloaded_stops terms bytes old fault.TooSmall is h = absurd h
unloaded_stops terms bytes old fault.BadOptions is h = absurd h
