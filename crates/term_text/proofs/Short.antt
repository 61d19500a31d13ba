-- Short words and integers, and the first elements of a row.
use Rattle.std.proofs.Common.{◌≡◌, ℕ, ◌-◌, ◌^◌, ◌≤◌, ◌<◌, inl, inr, Bool, true, false, List, [], ◌∷◌, ◌++◌, length, min, Option, Some, None, Result, Ok, ℤ, pos, refl, sym, subst, ◌∙◌, arith}
use Rattle.std.specs.Prelude.{◌==◌, if◌then◌else◌}
use Rattle.std.specs.Char.{is_ascii_digit, is_ascii_lowercase}
use Rattle.std.proofs.lemmas.Bool.{cases_Bool, cases_eq, eqb-true, eq-eqb, leb-true, ne_eqb}
use Rattle.term_core.specs.Datum.{Datum, items_of, cells}
use Rattle.term_core.specs.Datum.Datum.{tuple, nil}
use Rattle.term_core.specs.declared.TheConstants.{MAX_TUPLE, MAX_LIST}
use Rattle.term_text.specs.declared.stop.Stop.{Stop}
use Rattle.term_text.specs.Character.{open_brace, close_brace, close_bracket}
use Rattle.term_text.specs.declared.token.Opening.{Opening}
use Rattle.term_text.specs.declared.token.Opening.TheVariants as opens
use Rattle.term_text.specs.TokenReading.{Fault, Read, Fails, all_steps, after_gap, expect, behind, begins, opening, fits, signed, number_run, integer_at}
use Rattle.term_text.specs.Reading.{TermReader, TailReader, AreElements, separated, after_comma, element_at, elements_at, elements_from, pair_at, pairs_from, enter, form_at, term_at, tail_at, tuple_at, list_at, list_end, word_term_at, integer_term_at}
use Rattle.term_text.proofs.Steps.{ends, goes_on, is_done}
use Rattle.term_text.proofs.Words.{unsigned_sign, opening_word, opening_integer}
use Rattle.term_text.proofs.Sound.{term_holds, element_shrinks, pair_shrinks}
use Rattle.term_text.proofs.Readers.{bind_fails, element_fails, element_is, item_fails, item_is, term_is}

abbrev pub just : Datum → Result Datum Fault
just d = Ok d

-- ---- an integer or a word where a term is allowed

plain_by : (levels room : ℕ) (text rest : List ℕ) (o : Opening) (d : Datum) → 0 < levels → 0 < room → opening text ≡ Some (o, text) → form_at (term_at (levels - 1)) (tail_at (levels - 1)) (levels - 1) o text ≡ Ok (d, rest) → term_at levels room text ≡ Ok (d, rest)
unfolding enter
plain_by levels room text rest o d l r e form =
    let entered : enter levels room text ≡ Ok (o, text) = rw (e, ne_eqb levels 0 (λ z. omega arith), ne_eqb room 0 (λ z. omega arith)) refl in
    term_is levels room text text o entered ∙ form

pub plain_word : (levels room : ℕ) (text more rest : List ℕ) (c : ℕ) (d : Datum) → 0 < levels → 0 < room → text ≡ c ∷ more → is_ascii_lowercase c ≡ true → word_term_at text ≡ Ok (d, rest) → term_at levels room text ≡ Ok (d, rest)
plain_word levels room text more rest c d l r e h word = plain_by levels room text rest opens.Word d l r (rw e (opening_word c more h)) word

pub begun : (text more : List ℕ) (c : ℕ) → text ≡ c ∷ more → is_ascii_digit c ≡ true → begins is_ascii_digit text ≡ true
begun text more c e h = rw e h

pub plain_integer : (levels room : ℕ) (text more rest : List ℕ) (c : ℕ) (d : Datum) → 0 < levels → 0 < room → text ≡ c ∷ more → is_ascii_digit c ≡ true → integer_term_at text ≡ Ok (d, rest) → term_at levels room text ≡ Ok (d, rest)
plain_integer levels room text more rest c d l r e h number = plain_by levels room text rest opens.Integer d l r (opening_integer text (rw e (inl h))) number

brace_opens : (text rest : List ℕ) → Some rest ≡ behind open_brace text → opening text ≡ Some (opens.Tuple, rest)
brace_opens [] rest e = absurd cc
brace_opens (c ∷ cs) rest e = elim (cases_eq c open_brace) [
  | inl is ↦ let same : Some rest ≡ Some cs = rw (eq-eqb c open_brace is) at e in let rests : rest ≡ cs = cc in rw (is, rests) refl
  | inr other ↦ absurd (let none : Some rest ≡ None = rw (ne_eqb c open_brace other) at e in cc)
]

pub begins_tuple : (levels room : ℕ) (text rest : List ℕ) → 0 < levels → 0 < room → Some rest ≡ behind open_brace text → term_at levels room text ≡ tuple_at (term_at (levels - 1)) rest
unfolding enter
begins_tuple levels room text rest l r e =
    let entered : enter levels room text ≡ Ok (opens.Tuple, rest) = rw (brace_opens text rest e, ne_eqb levels 0 (λ z. omega arith), ne_eqb room 0 (λ z. omega arith)) refl in
    term_is levels room text rest opens.Tuple entered

abbrev pub signed_if : Bool → ℕ → Option ℤ
signed_if below m = if fits below m then Some (signed below m) else None

pub plain_number : (text rest : List ℕ) (m : ℕ) (z : ℤ) → begins is_ascii_digit text ≡ true → m ≡ min (number_run 0 text).0 (2 ^ 64 - 1) → rest ≡ (number_run 0 text).1 → Some z ≡ signed_if false m → integer_at text ≡ Ok (z, rest)
unfolding integer_at
plain_number text rest m z b e r s = elim (cases_Bool (fits false m)) [
  | inl holds ↦
      let few : m ≤ 9223372036854775807 = leb-true m 9223372036854775807 holds in
      let same : m ≡ (number_run 0 text).0 = omega arith in
      let value : Some z ≡ Some (signed false m) = rw holds at s in
      let is : z ≡ pos m = cc in
      rw (unsigned_sign text b, ← same, holds, r, is) refl
  | inr fails ↦ absurd (let none = rw fails at s in cc)
]

-- ---- elements so far, and whether more follow

module _ (n limit : ℕ) (ds : List Datum) (text : List ℕ) (total : Read (List Datum)) (so_far : elements_at (term_at n) limit ds text ≡ total) (room : ℕ) (left : room ≡ limit - length ds) where
  pub element_stops : (e : Stop) → Fails e (term_at n room text) → Fails e total
  element_stops e f =
      ends (separated (element_at (term_at n) limit)) (element_shrinks n (term_at n) (term_holds n) limit) e ds text total
      (element_fails e (term_at n) limit room ds text left f) so_far

  pub element_more : (d : Datum) (rest : List ℕ) (goes : Bool) (t : List ℕ) → term_at n room text ≡ Ok (d, rest) → (goes, t) ≡ after_comma rest → elements_from (term_at n) limit goes (ds ++ d ∷ []) t ≡ total
  element_more d rest true t e b =
      goes_on (separated (element_at (term_at n) limit)) (element_shrinks n (term_at n) (term_holds n) limit) ds (ds ++ d ∷ []) text t total
      (element_is (term_at n) limit room ds text d rest true t left e b) so_far
  element_more d rest false t e b =
      sym (is_done (separated (element_at (term_at n) limit)) (element_shrinks n (term_at n) (term_holds n) limit) ds (ds ++ d ∷ []) text t total
      (element_is (term_at n) limit room ds text d rest false t left e b) so_far)

-- ---- pairs so far, and whether more follow

module _ (n : ℕ) (es : List (Datum × Datum)) (text : List ℕ) (total : Read (List (Datum × Datum))) (so_far : all_steps (separated (pair_at (term_at n))) es text ≡ total) where
  pub pair_stops : (e : Stop) → Fails e (pair_at (term_at n) es text) → Fails e total
  pair_stops e f = ends (separated (pair_at (term_at n))) (pair_shrinks n (term_at n) (term_holds n)) e es text total (item_fails e (pair_at (term_at n)) es text f) so_far

  pub pair_more : (fs : List (Datum × Datum)) (rest : List ℕ) (goes : Bool) (t : List ℕ) → pair_at (term_at n) es text ≡ Ok (fs, rest) → (goes, t) ≡ after_comma rest → pairs_from (term_at n) goes fs t ≡ total
  pair_more fs rest true t e b = goes_on (separated (pair_at (term_at n))) (pair_shrinks n (term_at n) (term_holds n)) es fs text t total (item_is (pair_at (term_at n)) es fs text rest true t e b) so_far
  pair_more fs rest false t e b = sym (is_done (separated (pair_at (term_at n))) (pair_shrinks n (term_at n) (term_holds n)) es fs text t total (item_is (pair_at (term_at n)) es fs text rest false t e b) so_far)

-- ---- tuples, by their elements and their end

module _ (read : TermReader) (text : List ℕ) (begun_here : None ≡ behind close_brace (after_gap false text)) where
  pub tuple_stops : (e : Stop) → Fails e (elements_at read MAX_TUPLE [] (after_gap false text)) → Fails e (tuple_at read text)
  unfolding tuple_at
  tuple_stops e h = rw (← begun_here) (bind_fails e _ _ (bind_fails e (elements_at read MAX_TUPLE [] (after_gap false text)) _ h))

  pub tuple_unclosed : (e : Stop) (ds : List Datum) (t : List ℕ) → elements_at read MAX_TUPLE [] (after_gap false text) ≡ Ok (ds, t) → Fails e (expect close_brace t) → Fails e (tuple_at read text)
  unfolding tuple_at
  tuple_unclosed e ds t is h = rw (← begun_here, is) (bind_fails e _ _ (bind_fails e (expect close_brace t) _ h))

  pub tuple_closed : (ds : List Datum) (t rest : List ℕ) (d : Datum) → elements_at read MAX_TUPLE [] (after_gap false text) ≡ Ok (ds, t) → expect close_brace t ≡ Ok rest → just (tuple (items_of ds)) ≡ just d → tuple_at read text ≡ Ok (d, rest)
  unfolding tuple_at
  tuple_closed ds t rest d is h made = let same : tuple (items_of ds) ≡ d = cc in rw (← begun_here, is, h, same) refl

module _ (read : TermReader) (read_tail : TailReader) (text : List ℕ) (begun_here : None ≡ behind close_bracket (after_gap false text)) where
  pub list_stops : (e : Stop) → Fails e (elements_at read MAX_LIST [] (after_gap false text)) → Fails e (list_at read read_tail [] text)
  unfolding list_at
  list_stops e h = rw (← begun_here) (bind_fails e (elements_at read MAX_LIST [] (after_gap false text)) _ h)

  pub list_goes_on : (ds : List Datum) (t : List ℕ) → elements_at read MAX_LIST [] (after_gap false text) ≡ Ok (ds, t) → list_at read read_tail [] text ≡ list_end read_tail ds t
  unfolding list_at
  list_goes_on ds t is = rw (← begun_here, is) refl

-- ---- the end of a list

abbrev some : List ℕ → Option (List ℕ)
some rest = Some rest

pub list_closes : (read_tail : TailReader) (ds : List Datum) (text rest : List ℕ) (d : Datum) → Some rest ≡ behind close_bracket text → just (cells ds nil) ≡ just d → list_end read_tail ds text ≡ Ok (d, rest)
unfolding list_end
list_closes read_tail ds [] rest d e made = absurd cc
list_closes read_tail ds (c ∷ cs) rest d e made = elim (cases_Bool (c == close_bracket)) [
  | inl here ↦
      let is : c ≡ close_bracket = eqb-true c close_bracket here in
      let same : some rest ≡ some cs = rw here at e in
      let left : rest ≡ cs = cc in
      let all : cells ds nil ≡ d = cc in
      rw (is, left, all) refl
  | inr other ↦ absurd (let none = rw other at e in cc)
]

pub fails_as : {Y : Type 0} (e : Stop) (r s : Result Y Fault) → r ≡ s → Fails e r → Fails e s
fails_as e r s h f = subst (Fails e) h f

pub no_elements : AreElements []
no_elements = record { few = omega arith; shallow = omega arith }
