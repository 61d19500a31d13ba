-- The next term of the remaining text.
use Rattle.std.proofs.Common.{◌≡◌, ◌≢◌, ◌⊎◌, ◌<◌, inl, inr, false, ℕ, List, [], ◌∷◌, ◌++◌, length, Option, Some, None, Ok, Err, refl, sym, ◌∙◌, arith, append_assoc}
use Rattle.std.specs.Prelude.{IfOk}
use Rattle.std.proofs.lemmas.List.{append-nil}
use Rattle.std.specs.Str.{chars, IsUtf8}
use Rattle.term_core.specs.Datum.{Datum}
use Rattle.term_text.specs.Text.{Sentences, Sentence, Front, Next}
use Rattle.term_text.specs.Text.Sentences.{none, sentence}
use Rattle.term_text.specs.Text.Front.{at_first, behind}
use Rattle.term_text.specs.Laws.{IsRefusal}
use Rattle.term_text.specs.Fault.{fault_of}
use Rattle.term_text.specs.declared.fault.TextFault.TheVariants as faults
use Rattle.term_text.specs.declared.stop.Cause.{Cause}
use Rattle.term_text.specs.declared.stop.Cause.TheVariants as causes
use Rattle.term_text.specs.declared.stop.Stop.{Stop}
use Rattle.term_text.specs.declared.stop.Stop.TheVariants as stops
use Rattle.term_text.specs.TokenReading.{Fault, Fails, after_gap}
use Rattle.term_text.specs.Reading.{sentence_at, next_from, next_at, text_at}
use Rattle.term_text.proofs.Steps.{bind_holds, holds_at}
use Rattle.term_text.proofs.Items.{gap_shorter}
use Rattle.term_text.proofs.Shorter.{spelled_shorter}
use Rattle.term_text.proofs.Tokens.{Behind, gap_holds, gap_again}
use Rattle.term_text.proofs.Whole.{IsFirst, spelled_first, gap_first}
use Rattle.term_text.proofs.Texts.{SentenceRead, sentence_holds, sentence_again, last_comment, no_more, to_some}
use Rattle.term_text.proofs.Blames.{whole_gap}
use Rattle.term_text.proofs.BlamesTerms.{has_cause}
use Rattle.term_text.proofs.Publics.{no_bad_utf8, not_both}
use Rattle.term_text.proofs.Readers.{failed_before}
use Rattle.term_text.proofs.Stops.{SentencesStop, text_stops, behind_dot_stops, at_sentence}

-- ---- what is read is what the text spells next

holds_from : (text g : List ℕ) → Behind text g → IfOk (next_from g) (Next text)
holds_from text [] b = no_more text [] refl b
holds_from text (c ∷ cs) b =
    bind_holds (λ (x : Datum × List ℕ). SentenceRead (c ∷ cs) x.0 x.1) (Next text) (sentence_at (c ∷ cs)) _ (sentence_holds (c ∷ cs))
    (λ x s. record { begin = c ∷ cs; end = s.behind; gap = to_some text (c ∷ cs) c cs refl b; term = s.spelled; dot = s.gap; ended = s.begins })

next_holds : (text : List ℕ) → IfOk (next_at text) (Next text)
unfolding next_at
next_holds text = holds_from text (after_gap false text) (gap_holds text)

pub next_is_there : (text : List ℕ) (there : Option (Datum × List ℕ)) → next_at text ≡ Ok there → Next text there
next_is_there text there e = holds_at (Next text) (next_at text) there (next_holds text) e

-- ---- what the text spells next is read

some_from : (g : List ℕ) (d : Datum) (rest : List ℕ) → IsFirst g → sentence_at g ≡ Ok (d, rest) → next_from g ≡ Ok (Some (d, rest))
some_from [] d rest f e = absurd f
some_from (c ∷ cs) d rest f e = rw e refl

nothing_again : (text : List ℕ) → Sentences text [] → after_gap false text ≡ []
nothing_again text (none {rest} g l) = gap_again g ∙ last_comment rest l

next_again : (text : List ℕ) (there : Option (Datum × List ℕ)) → Next text there → next_at text ≡ Ok there
unfolding next_at
next_again text None h = rw (nothing_again text h) refl
next_again text (Some x) h =
    let first = spelled_first h.term in
    rw (gap_first h.gap first) (some_from h.begin x.0 x.1 first (sentence_again h.begin x.1 x.0 h.term h.dot h.ended))

pub next_is_read : (text : List ℕ) (there found : Option (Datum × List ℕ)) → Next text there → next_at text ≡ Ok found → found ≡ there
next_is_read text there found h e =
    let again = sym e ∙ next_again text there h in cc

pub next_stops_for : (text whole : List ℕ) (there : Option (Datum × List ℕ)) (stop : Stop) → Next text there → Fails stop (next_at text) → fault_of stop whole ≡ faults.Memory
next_stops_for text whole there stops.Memory h f = refl
next_stops_for text whole there (stops.At cause left) h f = let again = sym f ∙ next_again text there h in absurd cc

-- ---- the fault of the text

stops_from : (g : List ℕ) (f : Fault) → next_from g ≡ Err f → SentencesStop g f
stops_from [] f e = absurd cc
stops_from (c ∷ cs) f e = at_sentence c cs f (failed_before (stops.At f.0 f.1) (sentence_at (c ∷ cs)) e)

front_stops : {text rest : List ℕ} {ds : List Datum} → Front text ds rest → (f : Fault) → SentencesStop (after_gap false rest) f → text_at text ≡ Err f
front_stops {text} at_first f h = text_stops f (whole_gap text) h
front_stops (behind {t} {rest} front s) f h =
    let before = behind_dot_stops f s.term s.dot s.ended (whole_gap rest) h in
    let begun = gap_first s.gap (spelled_first s.term) in
    front_stops front f (rw begun before)

next_at_stops : (text rest : List ℕ) (ds : List Datum) (f : Fault) → Front text ds rest → next_at rest ≡ Err f → text_at text ≡ Err f
unfolding next_at
next_at_stops text rest ds f front e = front_stops front f (stops_from (after_gap false rest) f e)

no_memory : (cause : Cause) (left : ℕ) (text : List ℕ) → fault_of (stops.At cause left) text ≢ faults.Memory
no_memory causes.TooDeep left text e = absurd cc
no_memory causes.TooLong left text e = absurd cc
no_memory causes.DuplicateKey left text e = absurd cc
no_memory causes.Syntax left text e = absurd cc
no_memory causes.IntegerRange left text e = absurd cc
no_memory causes.UnsupportedEscape left text e = absurd cc

pub next_refusal : (bytes rest : List ℕ) (ds : List Datum) (stop : Stop) → IsUtf8 bytes → Front (chars bytes) ds rest → Fails stop (next_at rest) → (fault_of stop (chars bytes) ≡ faults.Memory) ⊎ IsRefusal bytes (fault_of stop (chars bytes))
next_refusal bytes rest ds stops.Memory utf8 front f = inl refl
next_refusal bytes rest ds (stops.At cause left) utf8 front f =
    let stopped : text_at (chars bytes) ≡ Err (cause, left) = next_at_stops (chars bytes) rest ds (cause, left) front f in
    inr (record {
      other = no_memory cause left (chars bytes);
      cause = has_cause bytes (chars bytes) (stops.At cause left) refl stopped;
      bad_utf8 = λ at. (λ e. absurd (no_bad_utf8 (stops.At cause left) (chars bytes) at e), λ v. absurd (not_both bytes at utf8 v));
    })

-- what follows a term and its dot is shorter
pub sentence_shorter : {text rest : List ℕ} {d : Datum} → Sentence text d rest → length rest < length text
sentence_shorter s = let a = gap_shorter s.gap in let b = spelled_shorter s.term in let c = gap_shorter s.dot in omega arith

-- the terms of a text that begins with a term
pub sentence_first : {text rest : List ℕ} {d : Datum} {ds : List Datum} → Sentence text d rest → Sentences rest ds → Sentences text (d ∷ ds)
sentence_first s more = sentence s.gap s.term s.dot s.ended more

-- terms at the beginning, and those that follow, are the terms of the text
pub front_whole : {text rest : List ℕ} {ds es : List Datum} → Front text ds rest → Sentences rest es → Sentences text (ds ++ es)
front_whole at_first more = more
front_whole {es = es} (behind {ds} {d} front s) more = rw (append_assoc ds (d ∷ []) es) (front_whole front (sentence_first s more))

pub front_join : {text t rest : List ℕ} {ds es : List Datum} → Front text ds t → Front t es rest → Front text (ds ++ es) rest
front_join {ds} front at_first = rw (append-nil ds) front
front_join {ds} front (behind {ds = es} {d} more s) = rw (← append_assoc ds es (d ∷ [])) (behind (front_join front more) s)
