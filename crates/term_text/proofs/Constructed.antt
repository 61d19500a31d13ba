-- Each term that the reader makes is within its limits.
use Rattle.std.proofs.Common.{◌≡◌, ℕ, suc, ◌+◌, ◌-◌, ◌≤◌, ◌<◌, Bool, true, false, List, [], ◌∷◌, ◌++◌, length, None, Ok, refl, ap, ◌∙◌, arith}
use Rattle.std.proofs.Common.{map as each}
use Rattle.std.proofs.lemmas.List.{length-append, length-map}
use Rattle.term_core.specs.Datum.{Datum, items_of, entries_of, cells, cell_count}
use Rattle.term_core.specs.Datum.Datum.{atom, tuple, map, nil, binary}
use Rattle.term_core.specs.declared.TheConstants.{MAX_CHARACTERS, MAX_TUPLE, MAX_LIST, MAX_DEPTH}
use Rattle.term_text.specs.Character.{is_word, greater, open_brace, close_brace, number_sign, less}
use Rattle.term_text.specs.Tokens.{Run}
use Rattle.term_text.specs.Text.{Spelled, code_point}
use Rattle.term_text.specs.declared.token.Opening.{Opening}
use Rattle.term_text.specs.declared.token.Opening.TheVariants as opens
use Rattle.term_text.specs.TokenReading.{after_gap, expect, expect_both, quoted_at, word_at, all_steps}
use Rattle.term_text.specs.Reading.{IsWithin, AreElements, enter, atom_marks, string_marks, segments_at, bytes_at, element_at, elements_at, items_at, separated, after_comma, pair_at, pairs_at, form_at, term_at, tail_at}
use Rattle.term_text.proofs.Steps.{bind_holds, holds_at, Hands, steps_hold}
use Rattle.term_text.proofs.Tokens.{Reads, quoted_holds}
use Rattle.term_text.proofs.Items.{gap_some}
use Rattle.term_text.proofs.Words.{Opens, word_holds}
use Rattle.term_text.proofs.Sound.{ElementRead, TailRead, enter_holds, element_holds, room_within, bytes_hold, items_hold, map_pairs_hold, form_holds, term_holds, tail_holds}
use Rattle.term_text.proofs.Readers.{tail_is, tail_form_is}
use Rattle.term_text.proofs.Within.{not_more, at_most, cells_count, codes_depth, append_depth, depth-cells, tail_depth-le, short_cells, spelled_depth, spelled_short, spelled_within, one_more_element}

atom_within : (cs : List ℕ) → length cs ≤ MAX_CHARACTERS → IsWithin (atom cs)
atom_within cs l = (omega arith, not_more (length cs) MAX_CHARACTERS l)

pub word_within : (text cs rest : List ℕ) → word_at text ≡ Ok (cs, rest) → IsWithin (atom cs)
word_within text cs rest e = let w = holds_at (λ (x : List ℕ × List ℕ). Run is_word text x.0 x.1 × (length x.0 ≤ MAX_CHARACTERS)) (word_at text) (cs, rest) (word_holds text) e in atom_within cs w.1

pub quoted_atom_within : (text cs rest : List ℕ) → quoted_at atom_marks text ≡ Ok (cs, rest) → IsWithin (atom cs)
quoted_atom_within text cs rest e =
    let r = holds_at (λ (x : List ℕ × List ℕ). Reads atom_marks [] text x.0 x.1) (quoted_at atom_marks text) (cs, rest) (quoted_holds atom_marks text) e in
    atom_within cs (r.within (omega arith))

pub string_within : (levels : ℕ) (front : List Datum) (text cs rest : List ℕ) → AreElements front → quoted_at (string_marks levels (length front)) text ≡ Ok (cs, rest) → IsWithin (cells (front ++ each code_point cs) nil)
string_within levels front text cs rest h e =
    let r = holds_at (λ (x : List ℕ × List ℕ). Reads (string_marks levels (length front)) [] text x.0 x.1) (quoted_at (string_marks levels (length front)) text) (cs, rest) (quoted_holds (string_marks levels (length front)) text) e in
    let few : length front + length cs ≤ MAX_LIST = room_within levels (length front) text cs rest r h.few in
    let count : cell_count (cells (front ++ each code_point cs) nil) ≡ length front + length cs = cells_count (front ++ each code_point cs) ∙ length-append front (each code_point cs) ∙ ap (λ (k : ℕ). length front + k) (length-map cs code_point) in
    let shallow = h.shallow in
    let one = codes_depth cs in
    let deep = depth-cells 254 (front ++ each code_point cs) nil (append_depth 254 front (each code_point cs) (omega arith) (omega arith)) (omega arith) in
    (omega arith, short_cells (front ++ each code_point cs) nil (at_most (cell_count (cells (front ++ each code_point cs) nil)) (length front + length cs) MAX_LIST count few) (λ long. long))

pub binary_made : (text bytes rest : List ℕ) → bytes_at None (after_gap false text) ≡ Ok (bytes, rest) → IsWithin (binary bytes)
binary_made text bytes rest made = spelled_within {n = 1} (omega arith) (holds_at (λ (x : List ℕ × List ℕ). Spelled 1 (less ∷ less ∷ text) (binary x.0) x.1) (bytes_at None (after_gap false text)) (bytes, rest) (bytes_hold 0 text (after_gap false text) None (gap_some text) tt) made)

pub binary_within : (text bytes t rest : List ℕ) → segments_at [] (after_gap false text) ≡ Ok (bytes, t) → expect_both greater greater t ≡ Ok rest → IsWithin (binary bytes)
binary_within text bytes t rest e f =
    let made : bytes_at None (after_gap false text) ≡ Ok (bytes, rest) = rw (e, f) refl in
    binary_made text bytes rest made

pub tuple_within : (n : ℕ) (text : List ℕ) (ds : List Datum) (t rest : List ℕ) → n < MAX_DEPTH → elements_at (term_at n) MAX_TUPLE [] (after_gap false text) ≡ Ok (ds, t) → expect close_brace t ≡ Ok rest → IsWithin (tuple (items_of ds))
tuple_within n text ds t rest l e f =
    let made : items_at (term_at n) None (after_gap false text) ≡ Ok (ds, rest) = rw (e, f) refl in
    spelled_within {n = suc n} (omega arith) (holds_at (λ (x : List Datum × List ℕ). Spelled (suc n) (open_brace ∷ text) (tuple (items_of x.0)) x.1) (items_at (term_at n) None (after_gap false text)) (ds, rest) (items_hold n (term_at n) (term_holds n) text (after_gap false text) None (gap_some text) tt) made)

pub map_within : (n : ℕ) (text : List ℕ) (es : List (Datum × Datum)) (t rest : List ℕ) → n < MAX_DEPTH → all_steps (separated (pair_at (term_at n))) [] (after_gap false text) ≡ Ok (es, t) → expect close_brace t ≡ Ok rest → IsWithin (map (entries_of es))
map_within n text es t rest l e f =
    let made : pairs_at (term_at n) None (after_gap false text) ≡ Ok (es, rest) = rw (e, f) refl in
    spelled_within {n = suc n} (omega arith) (holds_at (λ (x : List (Datum × Datum) × List ℕ). Spelled (suc n) (number_sign ∷ open_brace ∷ text) (map (entries_of x.0)) x.1) (pairs_at (term_at n) None (after_gap false text)) (es, rest) (map_pairs_hold n (term_at n) (term_holds n) text (after_gap false text) None (gap_some text) tt) made)

-- ---- lists

module _ (n : ℕ) (shallow : n < MAX_DEPTH) where
  -- elements that a list may begin with, after more were read
  abbrev Kept : List Datum → List ℕ → List Datum → List ℕ → Type 0
  Kept ds text es rest = AreElements ds → AreElements es

  kept : (ds : List Datum) (text : List ℕ) (es : List Datum) (t : List ℕ) → ElementRead n MAX_LIST ds text es t → AreElements ds → AreElements es
  kept ds text es t r h = rw r.made (one_more_element ds r.element r.room h.shallow (let deep = spelled_depth r.spelled in omega arith))

  kept_on : (ds : List Datum) (text : List ℕ) (es : List Datum) (t : List ℕ) → ElementRead n MAX_LIST ds text es t → (b : Bool) (rest : List ℕ) → Hands (separated (element_at (term_at n) MAX_LIST)) Kept ds text (b, es, rest)
  kept_on ds text es t r true rest = λ u end again h. again (kept ds text es t r h)
  kept_on ds text es t r false rest = λ h. kept ds text es t r h

  pub elements_are : (front : List Datum) (text : List ℕ) (ds : List Datum) (rest : List ℕ) → AreElements front → elements_at (term_at n) MAX_LIST front text ≡ Ok (ds, rest) → AreElements ds
  elements_are front text ds rest h e =
      holds_at (λ (x : List Datum × List ℕ). Kept front text x.0 x.1) (elements_at (term_at n) MAX_LIST front text) (ds, rest)
      (steps_hold (separated (element_at (term_at n) MAX_LIST)) Kept
      (λ s text. bind_holds (λ (x : List Datum × List ℕ). ElementRead n MAX_LIST s text x.0 x.1) (Hands (separated (element_at (term_at n) MAX_LIST)) Kept s text) (element_at (term_at n) MAX_LIST s text) _ (element_holds n (term_at n) (term_holds n) MAX_LIST s text)
      (λ x r. kept_on s text x.0 x.1 r (after_comma x.1).0 (after_comma x.1).1))
      (suc (length text)) front text) e h

pub tail_within : (levels : ℕ) (front : List Datum) (text : List ℕ) (o : Opening) (rest : List ℕ) (tail : Datum) (t : List ℕ) → levels < MAX_DEPTH → AreElements front → enter levels 1 text ≡ Ok (o, rest) → (o ≡ opens.String → ⊥) → (o ≡ opens.List → ⊥)
    → form_at (term_at (levels - 1)) (tail_at (levels - 1)) (levels - 1) o rest ≡ Ok (tail, t) → IsWithin (cells front tail)
tail_within levels front text o rest tail t l h e no_string no_list f =
    let opened = holds_at (λ (o : Opening × List ℕ). Opens o.0 text o.1 × (0 < levels) × (0 < 1)) (enter levels 1 text) (o, rest) (enter_holds levels 1 text) e in
    let some : 0 < levels = opened.1 in
    let spelled = holds_at (λ (x : Datum × List ℕ). Spelled (suc (levels - 1)) text x.0 x.1) (form_at (term_at (levels - 1)) (tail_at (levels - 1)) (levels - 1) o rest) (tail, t)
    (form_holds (levels - 1) (term_at (levels - 1)) (tail_at (levels - 1)) (term_holds (levels - 1)) (tail_holds (levels - 1)) o text rest opened.0) f in
    let made : tail_at levels front text ≡ Ok (cells front tail, t) = tail_is levels front text rest o e ∙ tail_form_is (term_at (levels - 1)) (tail_at (levels - 1)) (levels - 1) front o rest no_string no_list ∙ rw f refl in
    let read = holds_at (λ (x : Datum × List ℕ). TailRead levels front text x.0 x.1) (tail_at levels front text) (cells front tail, t) (tail_holds levels front text) made in
    let count : cell_count (cells front tail) ≤ MAX_LIST = at_most (cell_count (cells front tail)) (cell_count (cells front read.tail)) MAX_LIST (ap cell_count read.joined) (read.within h.few) in
    let deep = spelled_depth spelled in
    let less = tail_depth-le tail in
    let shallow = h.shallow in
    let all = depth-cells 254 front tail (omega arith) (omega arith) in
    (omega arith, short_cells front tail count (spelled_short spelled))
