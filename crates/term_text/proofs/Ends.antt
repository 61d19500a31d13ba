-- The remaining text is the end of the whole text.
use Rattle.std.proofs.Common.{◌≡◌, ℕ, ℤ, Bool, List, [], ◌∷◌, ◌++◌, refl, sym, ap, ◌∙◌, append_assoc}
use Rattle.std.proofs.lemmas.List.{append-nil}
use Rattle.term_core.specs.Datum.{Datum}
use Rattle.term_text.specs.Tokens.{Gap, Comment, Quoted, Run, Number, Integer}
use Rattle.term_text.specs.Text.{Segment, Segments, Spelled, Elements, Pair, Pairs}
use Rattle.term_text.specs.Tokens.Gap.{no_gap, white, comment}
use Rattle.term_text.specs.Tokens.Comment.{ended, passed}
use Rattle.term_text.specs.Tokens.Quoted.{closed, plain, escape}
use Rattle.term_text.specs.Tokens.Integer.{unsigned, positive, negative}
use Rattle.term_text.specs.Text.Segment.{a_byte, some_bytes}
use Rattle.term_text.specs.Text.Segments.{last_segment, more_segments}
use Rattle.term_text.specs.Text.Spelled.{an_integer, a_word, a_quoted_atom, an_empty_string, a_string, an_empty_tuple, a_tuple, an_empty_list, a_list, a_list_with_tail, an_empty_map, a_map, an_empty_binary, a_binary}
use Rattle.term_text.specs.Text.Elements.{last, more}
use Rattle.term_text.specs.Text.Pair.{arrow}
use Rattle.term_text.specs.Text.Pairs.{last_pair, more_pairs}
use Rattle.term_text.specs.Causes.{Place, Due, WholeGap}
use Rattle.term_text.specs.Causes.WholeGap.{up_to, to_the_end}
use Rattle.term_text.specs.Causes.{Due as due}

-- the text ends with the rest
pub record EndsIn (text rest : List ℕ) : Type 0 where
  pub front : List ℕ
  pub whole : text ≡ front ++ rest

pub here : (text : List ℕ) → EndsIn text text
here text = record { front = []; whole = refl }

pub past : (c : ℕ) {text rest : List ℕ} → EndsIn text rest → EndsIn (c ∷ text) rest
past c h = record { front = c ∷ h.front; whole = ap (λ (t : List ℕ). c ∷ t) h.whole }

pub then : {text t rest : List ℕ} → EndsIn text t → EndsIn t rest → EndsIn text rest
then {text} {t} {rest} h k = record { front = h.front ++ k.front; whole = h.whole ∙ ap (λ (u : List ℕ). h.front ++ u) k.whole ∙ sym (append_assoc h.front k.front rest) }

-- the text after the first character of an end is an end
pub behind : (c : ℕ) {text rest : List ℕ} → EndsIn text (c ∷ rest) → EndsIn text rest
behind c {text} {rest} h = then h (past c (here rest))

mutual
  pub gap_ends : {text rest : List ℕ} → Gap text rest → EndsIn text rest
  gap_ends (no_gap {text}) = here text
  gap_ends (white {c} h g) = past c (gap_ends g)
  gap_ends (comment k) = past _ (comment_ends k)

  comment_ends : {text rest : List ℕ} → Comment text rest → EndsIn text rest
  comment_ends (ended g) = past _ (gap_ends g)
  comment_ends (passed {c} n k) = past c (comment_ends k)

pub whole_gap_ends : {text rest : List ℕ} → WholeGap text rest → EndsIn text rest
whole_gap_ends (up_to g e) = gap_ends g
whole_gap_ends (to_the_end {text} g l) = record { front = text; whole = sym (append-nil text) }

quoted_ends : {mark : ℕ} {text cs rest : List ℕ} → Quoted mark text cs rest → EndsIn text rest
quoted_ends (closed {rest}) = past _ (here rest)
quoted_ends (plain {c} n b q) = past c (quoted_ends q)
quoted_ends (escape {e} h q) = past _ (past e (quoted_ends q))

run_ends : {p : ℕ → Bool} {text run rest : List ℕ} → Run p text run rest → EndsIn text rest
run_ends {p} {text} {run} r = record { front = run; whole = r.whole }

number_ends : {text rest : List ℕ} {n : ℕ} → Number text n rest → EndsIn text rest
number_ends h = record { front = h.digits; whole = h.run.whole }

integer_ends : {text rest : List ℕ} {z : ℤ} → Integer text z rest → EndsIn text rest
integer_ends (unsigned h l) = number_ends h
integer_ends (positive h l) = past _ (number_ends h)
integer_ends (negative h l) = past _ (number_ends h)

pub segment_ends : {text bs rest : List ℕ} → Segment text bs rest → EndsIn text rest
segment_ends (a_byte i l) = integer_ends i
segment_ends (some_bytes q l) = past _ (quoted_ends q)

segments_ends : {text bs rest : List ℕ} → Segments text bs rest → EndsIn text rest
segments_ends (last_segment s g) = then (segment_ends s) (gap_ends g)
segments_ends (more_segments s g h ss) = then (segment_ends s) (then (behind _ (gap_ends g)) (then (gap_ends h) (segments_ends ss)))

mutual
  pub spelled_ends : {n : ℕ} {text rest : List ℕ} {d : Datum} → Spelled n text d rest → EndsIn text rest
  spelled_ends (an_integer i) = integer_ends i
  spelled_ends (a_word h r l) = run_ends r
  spelled_ends (a_quoted_atom q l) = past _ (quoted_ends q)
  spelled_ends (an_empty_string {n} {rest}) = past _ (past _ (here rest))
  spelled_ends (a_string q l) = past _ (quoted_ends q)
  spelled_ends (an_empty_tuple g) = past _ (behind _ (gap_ends g))
  spelled_ends (a_tuple g es l) = past _ (then (gap_ends g) (behind _ (elements_end es)))
  spelled_ends (an_empty_list g) = past _ (behind _ (gap_ends g))
  spelled_ends (a_list g es l) = past _ (then (gap_ends g) (behind _ (elements_end es)))
  spelled_ends (a_list_with_tail g es h s k l) = past _ (then (gap_ends g) (then (behind _ (elements_end es)) (then (gap_ends h) (then (spelled_ends s) (behind _ (gap_ends k))))))
  spelled_ends (an_empty_map g) = past _ (past _ (behind _ (gap_ends g)))
  spelled_ends (a_map g ps l p r) = past _ (past _ (then (gap_ends g) (behind _ (pairs_end ps))))
  spelled_ends (an_empty_binary g) = past _ (past _ (behind _ (behind _ (gap_ends g))))
  spelled_ends (a_binary g ss l) = past _ (past _ (then (gap_ends g) (behind _ (behind _ (segments_ends ss)))))

  elements_end : {n : ℕ} {text rest : List ℕ} {ds : List Datum} → Elements n text ds rest → EndsIn text rest
  elements_end (last s g) = then (spelled_ends s) (gap_ends g)
  elements_end (more s g h es) = then (spelled_ends s) (then (behind _ (gap_ends g)) (then (gap_ends h) (elements_end es)))

  pub pair_ends : {n : ℕ} {text rest : List ℕ} {k v : Datum} → Pair n text k v rest → EndsIn text rest
  pair_ends (arrow s g h t) = then (spelled_ends s) (then (behind _ (behind _ (gap_ends g))) (then (gap_ends h) (spelled_ends t)))

  pairs_end : {n : ℕ} {text rest : List ℕ} {es : List (Datum × Datum)} → Pairs n text es rest → EndsIn text rest
  pairs_end (last_pair p g) = then (pair_ends p) (gap_ends g)
  pairs_end (more_pairs p g h ps) = then (pair_ends p) (then (behind _ (gap_ends g)) (then (gap_ends h) (pairs_end ps)))

-- what is due is due at an end of the text
pub due_ends : {text rest : List ℕ} {p : Place} → Due text p rest → EndsIn text rest
due_ends (due.first g) = whole_gap_ends g
due_ends (due.behind_dot d s g b h) = then (due_ends d) (then (spelled_ends s) (then (behind _ (gap_ends g)) (whole_gap_ends h)))
due_ends (due.outermost d) = due_ends d
due_ends (due.in_braces d g o) = then (behind _ (due_ends d)) (whole_gap_ends g)
due_ends (due.in_brackets d g o) = then (behind _ (due_ends d)) (whole_gap_ends g)
due_ends (due.next_element d l s g h) = then (due_ends d) (then (spelled_ends s) (then (behind _ (gap_ends g)) (whole_gap_ends h)))
due_ends (due.element d l) = due_ends d
due_ends (due.tail d l s g h) = then (due_ends d) (then (spelled_ends s) (then (behind _ (gap_ends g)) (whole_gap_ends h)))
due_ends (due.in_map d g o) = then (behind _ (behind _ (due_ends d))) (whole_gap_ends g)
due_ends (due.next_pair d l f p g h) = then (due_ends d) (then (pair_ends p) (then (behind _ (gap_ends g)) (whole_gap_ends h)))
due_ends (due.key d l) = due_ends d
due_ends (due.value d l f s g h) = then (due_ends d) (then (spelled_ends s) (then (behind _ (behind _ (gap_ends g))) (whole_gap_ends h)))
due_ends (due.in_binary d g o) = then (behind _ (behind _ (due_ends d))) (whole_gap_ends g)
due_ends (due.next_segment d s l g h) = then (due_ends d) (then (segment_ends s) (then (behind _ (gap_ends g)) (whole_gap_ends h)))
due_ends (due.in_atom d) = behind _ (due_ends d)
due_ends (due.in_string d) = behind _ (due_ends d)
due_ends (due.in_bytes d) = behind _ (due_ends d)
due_ends (due.behind_plain d n b l f) = behind _ (due_ends d)
due_ends (due.behind_escape {e} d h l f) = behind e (behind _ (due_ends d))
due_ends (due.in_word d l) = due_ends d
due_ends (due.next_letter d l w) = behind _ (due_ends d)
