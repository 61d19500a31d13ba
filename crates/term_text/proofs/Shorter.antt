-- What follows a token or a term is shorter than the text that begins with it.
use Rattle.std.proofs.Common.{◌≡◌, ℕ, ◌<◌, List, [], ◌∷◌, length, ℤ, sym, ap, subst, true, false, arith}
use Rattle.std.proofs.lemmas.List.{length-append}
use Rattle.std.specs.Char.{is_ascii_lowercase}
use Rattle.term_core.specs.Datum.{Datum}
use Rattle.term_text.specs.Character.{is_word}
use Rattle.term_text.specs.Tokens.{Quoted, Run, EndsRun, Number, Integer}
use Rattle.term_text.specs.Text.{Segment, Segments, Spelled, Elements, Pair, Pairs}
use Rattle.term_text.specs.Tokens.Quoted.{closed, plain, escape}
use Rattle.term_text.specs.Tokens.Integer.{unsigned, positive, negative}
use Rattle.term_text.specs.Text.Segment.{a_byte, some_bytes}
use Rattle.term_text.specs.Text.Segments.{last_segment, more_segments}
use Rattle.term_text.specs.Text.Spelled.{an_integer, a_word, a_quoted_atom, an_empty_string, a_string, an_empty_tuple, a_tuple, an_empty_list, a_list, a_list_with_tail, an_empty_map, a_map, an_empty_binary, a_binary}
use Rattle.term_text.specs.Text.Elements.{last, more}
use Rattle.term_text.specs.Text.Pair.{arrow}
use Rattle.term_text.specs.Text.Pairs.{last_pair, more_pairs}
use Rattle.term_text.proofs.Items.{gap_shorter}

pub quoted_shorter : {mark : ℕ} {text cs rest : List ℕ} → Quoted mark text cs rest → length rest < length text
quoted_shorter closed = omega arith
quoted_shorter (plain n b q) = omega (arith, quoted_shorter q)
quoted_shorter (escape h q) = omega (arith, quoted_shorter q)

number_shorter : {text rest : List ℕ} {n : ℕ} → Number text n rest → length rest < length text
number_shorter {text} {rest} h = let e = ap length h.run.whole in omega (arith, h.some, length-append h.digits rest)

pub integer_shorter : {text rest : List ℕ} {z : ℤ} → Integer text z rest → length rest < length text
integer_shorter (unsigned h l) = number_shorter h
integer_shorter (positive h l) = omega (arith, number_shorter h)
integer_shorter (negative h l) = omega (arith, number_shorter h)

no_word : (c : ℕ) → is_ascii_lowercase c ≡ true → is_word c ≡ false → ⊥
no_word c h e = grind arith

word_run : (c : ℕ) (text cs rest : List ℕ) → is_ascii_lowercase c ≡ true → Run is_word (c ∷ text) cs rest → length rest < length (c ∷ text)
word_run c text [] rest h r = absurd (no_word c h (subst (EndsRun is_word) (sym r.whole) r.ended))
word_run c text (x ∷ cs) rest h r = let e = ap length r.whole in omega (arith, length-append cs rest)

pub segment_shorter : {text bs rest : List ℕ} → Segment text bs rest → length rest < length text
segment_shorter (a_byte i l) = integer_shorter i
segment_shorter (some_bytes q l) = omega (arith, quoted_shorter q)

pub segments_shorter : {text bs rest : List ℕ} → Segments text bs rest → length rest < length text
segments_shorter (last_segment s g) = omega (arith, segment_shorter s, gap_shorter g)
segments_shorter (more_segments s g h ss) = omega (arith, segment_shorter s, gap_shorter g, gap_shorter h, segments_shorter ss)

mutual
  pub spelled_shorter : {n : ℕ} {text rest : List ℕ} {d : Datum} → Spelled n text d rest → length rest < length text
  spelled_shorter (an_integer i) = integer_shorter i
  spelled_shorter (a_word {n} {c} {text} {cs} {rest} h r l) = word_run c text cs rest h r
  spelled_shorter (a_quoted_atom q l) = omega (arith, quoted_shorter q)
  spelled_shorter an_empty_string = omega arith
  spelled_shorter (a_string q l) = omega (arith, quoted_shorter q)
  spelled_shorter (an_empty_tuple g) = omega (arith, gap_shorter g)
  spelled_shorter (a_tuple g es l) = omega (arith, gap_shorter g, elements_shorter es)
  spelled_shorter (an_empty_list g) = omega (arith, gap_shorter g)
  spelled_shorter (a_list g es l) = omega (arith, gap_shorter g, elements_shorter es)
  spelled_shorter (a_list_with_tail g es h s k l) = omega (arith, gap_shorter g, elements_shorter es, gap_shorter h, spelled_shorter s, gap_shorter k)
  spelled_shorter (an_empty_map g) = omega (arith, gap_shorter g)
  spelled_shorter (a_map g ps l p r) = omega (arith, gap_shorter g, pairs_shorter ps)
  spelled_shorter (an_empty_binary g) = omega (arith, gap_shorter g)
  spelled_shorter (a_binary g ss l) = omega (arith, gap_shorter g, segments_shorter ss)

  pub elements_shorter : {n : ℕ} {text rest : List ℕ} {ds : List Datum} → Elements n text ds rest → length rest < length text
  elements_shorter (last s g) = omega (arith, spelled_shorter s, gap_shorter g)
  elements_shorter (more s g h es) = omega (arith, spelled_shorter s, gap_shorter g, gap_shorter h, elements_shorter es)

  pub pair_shorter : {n : ℕ} {text rest : List ℕ} {k v : Datum} → Pair n text k v rest → length rest < length text
  pair_shorter (arrow s g h t) = omega (arith, spelled_shorter s, gap_shorter g, gap_shorter h, spelled_shorter t)

  pub pairs_shorter : {n : ℕ} {text rest : List ℕ} {es : List (Datum × Datum)} → Pairs n text es rest → length rest < length text
  pairs_shorter (last_pair p g) = omega (arith, pair_shorter p, gap_shorter g)
  pairs_shorter (more_pairs p g h ps) = omega (arith, pair_shorter p, gap_shorter g, gap_shorter h, pairs_shorter ps)
