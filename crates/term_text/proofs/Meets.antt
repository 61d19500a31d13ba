-- The reader comes to each place that is due: what it stops for there, it stops for in the whole text. So it stops for
-- each cause.
use Rattle.std.proofs.Common.{◌≡◌, ◌≢◌, ℕ, ◌+◌, ◌-◌, List, length, take, Err, refl, sym, ap, ◌∙◌, arith}
use Rattle.std.specs.Str.{chars}
use Rattle.std.proofs.lemmas.List.{length-append, take_at}
use Rattle.term_core.specs.Datum.{Datum}
use Rattle.term_text.specs.declared.fault.TextFault.{TextFault}
use Rattle.term_text.specs.declared.fault.TextFault.TheVariants as faults
use Rattle.term_text.specs.declared.stop.Cause.{Cause}
use Rattle.term_text.specs.declared.stop.Cause.TheVariants as causes
use Rattle.term_text.specs.declared.stop.Stop.TheVariants as stops
use Rattle.term_text.specs.Text.{Spells}
use Rattle.term_text.specs.Fault.{at_byte, fault_of}
use Rattle.term_text.specs.Laws.{IsRefusal, HasOneFault}
use Rattle.term_text.specs.Causes.{Due, Due as due, Place, IsTooDeep, IsTooLong, IsKeyTwice, IsOutOfRange, IsNoEscape, IsUnexpected, StandsAt, HasCause}
use Rattle.term_text.specs.Causes.Place.{a_sentence, a_term, an_element, a_pair, a_segment, a_character, a_letter}
use Rattle.term_text.specs.Causes.IsUnexpected.{no_character, no_escaped, no_term, no_element, no_key, no_segment, behind_element, behind_tail, after_key, behind_pair, behind_segment, no_dot}
use Rattle.term_text.specs.Causes.IsTooDeep.{deep_term, deep_element, deep_key, deep_character}
use Rattle.term_text.specs.Causes.IsTooLong.{one_element, one_pair, one_byte, one_character, one_letter}
use Rattle.term_text.specs.Causes.IsKeyTwice.{key_twice}
use Rattle.term_text.specs.Causes.IsOutOfRange.{wide_term, wide_segment, no_byte, no_byte_character}
use Rattle.term_text.specs.Causes.IsNoEscape.{no_escape}
use Rattle.term_text.specs.TokenReading.{Fault}
use Rattle.term_text.specs.Reading.{text_at}
use Rattle.term_text.proofs.Texts.{text_again}
use Rattle.term_text.proofs.Publics.{not_both}
use Rattle.term_text.proofs.Stops.{TermStops, RowStops, PairsStop, SegmentsStop, QuotesStop, WordStops, SentencesStop, text_stops, behind_dot_stops, outermost_stops, in_braces_stops, in_brackets_stops, next_element_stops, element_stops, tail_stops, in_map_stops, next_pair_stops, key_stops, value_stops, in_binary_stops, next_segment_stops, in_atom_stops, in_string_stops, in_segment_stops, behind_plain_stops, behind_escape_stops, in_word_stops, next_letter_stops, deep_stops, none_stops, none_alone, deep_alone, full_alone, wide_term_stops, wide_opens, at_element, at_pair, at_segment, full_segment, byte_stops, wide_byte, no_byte_opens, no_byte_stops, no_segment_stops, one_letter_stops, one_character_stops, deep_character_stops, no_byte_character_stops, no_escape_stops, no_character_stops, no_escaped_stops, twice_stops, behind_element_stops, behind_tail_stops, behind_key_stops, behind_pair_stops, behind_segment_stops, no_dot_stops}

-- what is due at a place stops the reader with this fault
abbrev Stopped : Place → List ℕ → Fault → Type 0
Stopped a_sentence text f = SentencesStop text f
Stopped (a_term n k) text f = TermStops n k text f
Stopped (an_element r n k) text f = RowStops r n k text f
Stopped (a_pair n es) text f = PairsStop n es text f
Stopped (a_segment k) text f = SegmentsStop k text f
Stopped (a_character q k) text f = QuotesStop q k text f
Stopped (a_letter k) text f = WordStops k text f

met : {text rest : List ℕ} {p : Place} → Due text p rest → (f : Fault) → Stopped p rest f → text_at text ≡ Err f
met (due.first g) f h = text_stops f g h
met (due.behind_dot d s g b w) f h = met d f (behind_dot_stops f s g b w h)
met (due.outermost {c} {t} d) f h = met d f (outermost_stops c t f h)
met (due.in_braces {n} {k} d g o) f h = met d f (in_braces_stops n k f g o h)
met (due.in_brackets {n} {k} d g o) f h = met d f (in_brackets_stops n k f g o h)
met (due.next_element {r} {n} {k} d l s g w) f h = met d f (next_element_stops r n k f l s g w h)
met (due.element {r} {n} {k} {t} d l) f h = met d f (element_stops r n k t f l h)
met (due.tail {n} {k} d l s g w) f h = met d f (tail_stops n k f l s g w h)
met (due.in_map {n} {k} d g o) f h = met d f (in_map_stops n k f g o h)
met (due.next_pair {n} {es} d l new p g w) f h = met d f (next_pair_stops n es f l new p g w h)
met (due.key {n} {es} {t} d l) f h = met d f (key_stops n es t f l h)
met (due.value {n} {es} d l new s g w) f h = met d f (value_stops n es f l new s g w h)
met (due.in_binary {n} {k} d g o) f h = met d f (in_binary_stops n k f g o h)
met (due.next_segment {k} d s l g w) f h = met d f (next_segment_stops k f s l g w h)
met (due.in_atom {n} {k} {t} d) f h = met d f (in_atom_stops n k t f h)
met (due.in_string {n} {k} {t} d) f h = met d f (in_string_stops n k t f h)
met (due.in_bytes {k} {t} d) f h = met d f (in_segment_stops k t f h)
met (due.behind_plain {q} {k} {c} {t} d n b l s) f h = met d f (behind_plain_stops q k c t f n b l s h)
met (due.behind_escape {q} {k} {e} {c} {t} d x l s) f h = met d f (behind_escape_stops q k e c t f x l s h)
met (due.in_word {n} {k} {c} {t} d l) f h = met d f (in_word_stops n k c t f l h)
met (due.next_letter {k} {c} {t} d l w) f h = met d f (next_letter_stops k c t f w h)

deep_met : (text rest : List ℕ) → IsTooDeep text rest → text_at text ≡ Err (causes.TooDeep, length rest)
deep_met text rest (deep_term {k} d b) = met d _ (deep_stops k rest b)
deep_met text rest (deep_element {r} {k} d b) = met d _ (at_element r 0 k rest _ (λ room e. deep_alone room rest b))
deep_met text rest (deep_key {es} d b) = met d _ (at_pair 0 es rest _ (λ room e. deep_alone room rest b))
deep_met text rest (deep_character {k} {c} {rest = t} d n) = met d _ (deep_character_stops k c t n)

long_met : (text rest : List ℕ) → IsTooLong text rest → text_at text ≡ Err (causes.TooLong, length rest)
long_met text rest (one_element {r} {n} {k} d some full b) = met d _ (at_element r n k rest _ (λ room e. full_alone n room rest some b (omega arith)))
long_met text rest (one_pair {n} {es} d some full b) = met d _ (at_pair n es rest _ (λ room e. full_alone n room rest some b (omega arith)))
long_met text rest (one_byte {k} d full i) = met d _ (at_segment k rest _ (λ bytes len. full_segment rest bytes (len ∙ full) i))
long_met text rest (one_character {q} {k} {c} {rest = t} d level full n) = met d _ (one_character_stops q k c t level full n)
long_met text rest (one_letter {k} {c} {rest = t} d full w) = met d _ (one_letter_stops k c t full w)

twice_met : (text rest : List ℕ) → IsKeyTwice text rest → text_at text ≡ Err (causes.DuplicateKey, length rest)
twice_met text rest (key_twice {n} {es} d room s c) = met d _ (twice_stops n es room s c)

range_met : (text rest : List ℕ) → IsOutOfRange text rest → text_at text ≡ Err (causes.IntegerRange, length rest)
range_met text rest (wide_term {n} {k} d some w) = met d _ (wide_term_stops n k rest some w)
range_met text rest (wide_segment {k} d room w) = met d _ (at_segment k rest _ (λ bytes len. byte_stops rest bytes _ (wide_opens rest w) (omega arith) (wide_byte rest w)))
range_met text rest (no_byte {k} d room i n) = met d _ (at_segment k rest _ (λ bytes len. byte_stops rest bytes _ (no_byte_opens i) (omega arith) (no_byte_stops i n)))
range_met text rest (no_byte_character {k} {c} {rest = t} d room l) = met d _ (no_byte_character_stops k c t room l)

escape_met : (text rest : List ℕ) → IsNoEscape text rest → text_at text ≡ Err (causes.UnsupportedEscape, length rest)
escape_met text rest (no_escape {q} {k} {e} {rest = t} d room level x) = met d _ (no_escape_stops q k e t room level x)

unexpected_met : (text rest : List ℕ) → IsUnexpected text rest → text_at text ≡ Err (causes.Syntax, length rest)
unexpected_met text rest (no_character {q} {k} d) = met d _ (no_character_stops q k)
unexpected_met text rest (no_escaped {q} {k} d l s) = met d _ (no_escaped_stops q k l s)
unexpected_met text rest (no_term {n} {k} d never) = met d _ (none_stops n k rest never)
unexpected_met text rest (no_element {r} {n} {k} d never) = met d _ (at_element r n k rest _ (λ room e. none_alone n room rest never))
unexpected_met text rest (no_key {n} {es} d never) = met d _ (at_pair n es rest _ (λ room e. none_alone n room rest never))
unexpected_met text rest (no_segment {k} d never quote) = met d _ (at_segment k rest _ (λ bytes len. no_segment_stops bytes rest never quote))
unexpected_met text rest (behind_element {r} {n} {k} d l s g never) = met d _ (behind_element_stops r n k l s g never)
unexpected_met text rest (behind_tail {n} {k} d s l g never) = met d _ (behind_tail_stops n k s l g never)
unexpected_met text rest (after_key {n} {es} d l new s g never) = met d _ (behind_key_stops n es l new s g never)
unexpected_met text rest (behind_pair {n} {es} d l new p g more end) = met d _ (behind_pair_stops n es l new p g more end)
unexpected_met text rest (behind_segment {k} d s l g more end) = met d _ (behind_segment_stops k s l g more end)
unexpected_met text rest (no_dot d s g never) = met d _ (no_dot_stops s g never)

-- ---- one fault

-- why a text is rejected: its bytes are no text, or the reader stops with a fault
data Why (bytes : List ℕ) (fault : TextFault) : Type 0 where
  for_bytes : {at : ℕ} → fault ≡ faults.BadUtf8 at → Why bytes fault
  for_text : {cause : Cause} {left : ℕ} → text_at (chars bytes) ≡ Err (cause, left) → fault ≡ fault_of (stops.At cause left) (chars bytes) → Why bytes fault

placed : (cause : Cause) (at : ℕ) (text : List ℕ) (IsSuch : List ℕ → Type 0) (s : StandsAt at text IsSuch) → at_byte cause at ≡ fault_of (stops.At cause (length s.rest)) text
placed cause at text IsSuch s =
    let len : length text ≡ length s.front + length s.rest = ap length s.whole ∙ length-append s.front s.rest in
    let front : take (length text - length s.rest) text ≡ s.front = ap (take (length text - length s.rest)) s.whole ∙ take_at s.front s.rest (length text - length s.rest) (omega arith) in
    rw (front, s.place) refl

why_in : (bytes : List ℕ) (fault : TextFault) → fault ≢ faults.Memory → HasCause bytes fault → Why bytes fault
why_in bytes faults.Memory other c = absurd (other refl)
why_in bytes (faults.BadUtf8 at) other c = for_bytes refl
why_in bytes (faults.TooDeep at) other c = for_text (deep_met (chars bytes) c.rest c.such) (placed causes.TooDeep at (chars bytes) (IsTooDeep (chars bytes)) c)
why_in bytes (faults.TooLong at) other c = for_text (long_met (chars bytes) c.rest c.such) (placed causes.TooLong at (chars bytes) (IsTooLong (chars bytes)) c)
why_in bytes (faults.DuplicateKey at) other c = for_text (twice_met (chars bytes) c.rest c.such) (placed causes.DuplicateKey at (chars bytes) (IsKeyTwice (chars bytes)) c)
why_in bytes (faults.Syntax at) other c = for_text (unexpected_met (chars bytes) c.rest c.such) (placed causes.Syntax at (chars bytes) (IsUnexpected (chars bytes)) c)
why_in bytes (faults.IntegerRange at) other c = for_text (range_met (chars bytes) c.rest c.such) (placed causes.IntegerRange at (chars bytes) (IsOutOfRange (chars bytes)) c)
why_in bytes (faults.UnsupportedEscape at) other c = for_text (escape_met (chars bytes) c.rest c.such) (placed causes.UnsupportedEscape at (chars bytes) (IsNoEscape (chars bytes)) c)

why : (bytes : List ℕ) (fault : TextFault) → IsRefusal bytes fault → Why bytes fault
why bytes fault r = why_in bytes fault r.other r.cause

abbrev refused_so : Fault → List ℕ → TextFault
refused_so f text = fault_of (stops.At f.0 f.1) text

one_of : (bytes : List ℕ) (fault other : TextFault) → IsRefusal bytes fault → IsRefusal bytes other → Why bytes fault → Why bytes other → fault ≡ other
one_of bytes fault other r s (for_bytes {at} e) w = e ∙ sym ((s.bad_utf8 at).1 ((r.bad_utf8 at).0 e))
one_of bytes fault other r s (for_text a e) (for_bytes {at} f) = (r.bad_utf8 at).1 ((s.bad_utf8 at).0 f) ∙ sym f
one_of bytes fault other r s (for_text {cause} {left} a e) (for_text {cause = another} {left = less} b f) =
    let same : (cause, left) ≡ (another, less) = let both = sym a ∙ b in cc in
    e ∙ ap (λ (g : Fault). refused_so g (chars bytes)) same ∙ sym f

none_of : (bytes : List ℕ) (ds : List Datum) (fault : TextFault) → Spells bytes ds → IsRefusal bytes fault → Why bytes fault → ⊥
none_of bytes ds fault h r (for_bytes {at} e) = not_both bytes at h.utf8 ((r.bad_utf8 at).0 e)
none_of bytes ds fault h r (for_text a e) = let again = sym (text_again (chars bytes) ds h.sentences) ∙ a in absurd cc

pub one_fault : HasOneFault
one_fault = record {
  one = λ bytes fault other r s. one_of bytes fault other r s (why bytes fault r) (why bytes other s);
  none = λ bytes ds fault h r. none_of bytes ds fault h r (why bytes fault r);
}
