-- Reading the beginning of a text, up to the end of a line: it does what reading the whole text does, or the beginning
-- ends too early.
use Rattle.std.proofs.Common.{◌≡◌, ◌≢◌, ◌&&◌, ◌==◌, ℕ, zero, suc, ◌+◌, ◌*◌, ◌-◌, ◌≤◌, ◌<◌, inl, inr, Bool, true, false, cond, List, [], ◌∷◌, ◌++◌, length, take, drop, Option, Some, None, Result, Ok, Err, ℤ, pos, negsuc, refl, sym, ap, subst, ◌∙◌, arith, true≢false}
use Rattle.std.specs.Prelude.{nat_lt, not, ◌||◌}
use Rattle.std.specs.List.{prefix_len}
use Rattle.std.specs.Char.{is_ascii_digit, is_ascii_lowercase, digit_value}
use Rattle.std.specs.Option.{option_map}
use Rattle.std.specs.BTreeMap.{insert_entry}
use Rattle.std.proofs.lemmas.Bool.{eq-eqb, ne_eqb, cases_Bool, cases_eq}
use Rattle.std.proofs.lemmas.List.{length-append}
use Rattle.term_core.specs.Datum.{Datum, items_of, entries_of, cells}
use Rattle.term_core.specs.Datum.Datum.{integer, atom, tuple, map, nil, binary}
use Rattle.term_core.specs.Order.{datum_cmp}
use Rattle.term_core.specs.Sizes.{atom_limit, tuple_limit, map_limit, list_limit, binary_limit, depth_limit}
use Rattle.term_text.specs.Character.{line_feed, percent, plus, minus, comma, dot, backslash, single_quote, double_quote, open_brace, close_brace, open_bracket, close_bracket, bar, number_sign, equals, less, greater, is_white_space, is_word, escaped}
use Rattle.term_text.specs.declared.stop.Cause.TheVariants as causes
use Rattle.term_text.specs.declared.token.Marks.{Marks}
use Rattle.term_text.specs.declared.token.Opening.{Opening}
use Rattle.term_text.specs.declared.token.Opening.TheVariants as opens
use Rattle.term_text.specs.TokenReading.{Fault, Read, ◌>>=◌, stop, after_gap, Step, steps, all_steps, expect, expect_both, begins, behind, is_sign, opening, signed, fits, number_run, number_at, after_sign, integer_at, word_at, escape_as, escape_at, is_allowed, character_at, next_quoted, pushed, quoted_step, quoted_at, after_both, dot_at}
use Rattle.term_text.specs.Reading.{comma_in, behind_item, separated, enter_as, enter, string_marks, atom_marks, byte_marks, string_at, byte_of, byte_at, one_byte_at, segment_as, segment_at, segments_at, bytes_at, binary_at, TermReader, TailReader, element_at, elements_at, items_at, tuple_at, list_end, list_from, list_at, has_key, pair_at, pairs_at, map_at, quoted_atom_at, word_term_at, integer_term_at, form_at, tail_form, term_at, tail_at, sentence_at}
use Rattle.tool_script.specs.Line.{AreWholeLines}

-- ---- whole lines

pub closed_tail : (c : ℕ) (t : List ℕ) → AreWholeLines (c ∷ t) → AreWholeLines t
closed_tail c [] h = tt
closed_tail c (d ∷ t) h = h

some_behind : (c : ℕ) (t : List ℕ) → AreWholeLines (c ∷ t) → c ≢ line_feed → 0 < length t
some_behind c [] h n = absurd (n h)
some_behind c (d ∷ t) h n = omega arith

closed_drop : (n : ℕ) (t : List ℕ) → AreWholeLines t → AreWholeLines (drop n t)
closed_drop zero t h = h
closed_drop (suc n) [] h = tt
closed_drop (suc n) (c ∷ t) h = closed_drop n t (closed_tail c t h)

no_end : false ≡ true → ⊥
no_end e = true≢false (sym e)

-- ---- what reading comes to

-- The beginning ends too early; or both are read, with results that are so related; or the whole text is rejected.
pub data Cut {A B : Type 0} (R : A → B → Type 0) (r : Result A Fault) (w : Result B Fault) : Type 0 where
  ends : r ≡ Err (causes.Syntax, 0) → Cut R r w
  both : (a : A) (b : B) → R a b → r ≡ Ok a → w ≡ Ok b → Cut R r w
  stops : (e : Fault) → w ≡ Err e → Cut R r w

-- both read the same value, and what is left of the whole text is what is left of its beginning followed by the rest
abbrev pub Leaves : {X : Type 0} → List ℕ → X × List ℕ → X × List ℕ → Type 0
Leaves rest a b = (b ≡ (a.0, a.1 ++ rest)) × AreWholeLines a.1

abbrev Rests : List ℕ → List ℕ → List ℕ → Type 0
Rests rest a b = (b ≡ a ++ rest) × AreWholeLines a

abbrev StepLeaves : {S : Type 0} → List ℕ → Bool × S × List ℕ → Bool × S × List ℕ → Type 0
StepLeaves rest a b = (b ≡ (a.0, a.1, a.2 ++ rest)) × AreWholeLines a.2

cut_bind : {A B C D : Type 0} (R : A → B → Type 0) (Q : C → D → Type 0) (r : Result A Fault) (w : Result B Fault) (f : A → Result C Fault) (g : B → Result D Fault) → Cut R r w → ((a : A) (b : B) → R a b → Cut Q (f a) (g b)) → Cut Q (r >>= f) (w >>= g)
cut_bind R Q r w f g (ends e) k = ends (rw e refl)
cut_bind R Q r w f g (both a b h e d) k = rw (e, d) (k a b h)
cut_bind R Q r w f g (stops x e) k = stops x (rw e refl)

read_bind : {X C D : Type 0} (rest : List ℕ) (Q : C → D → Type 0) (r w : Read X) (f : X × List ℕ → Result C Fault) (g : X × List ℕ → Result D Fault) → Cut (Leaves rest) r w → ((x : X) (t : List ℕ) → AreWholeLines t → Cut Q (f (x, t)) (g (x, t ++ rest))) → Cut Q (r >>= f) (w >>= g)
read_bind rest Q r w f g c k = cut_bind (Leaves rest) Q r w f g c (λ a b h. subst (λ y. Cut Q (f a) (g y)) (sym h.0) (k a.0 a.1 h.1))

text_bind : {C D : Type 0} (rest : List ℕ) (Q : C → D → Type 0) (r w : Result (List ℕ) Fault) (f : List ℕ → Result C Fault) (g : List ℕ → Result D Fault) → Cut (Rests rest) r w → ((t : List ℕ) → AreWholeLines t → Cut Q (f t) (g (t ++ rest))) → Cut Q (r >>= f) (w >>= g)
text_bind rest Q r w f g c k = cut_bind (Rests rest) Q r w f g c (λ a b h. subst (λ y. Cut Q (f a) (g y)) (sym h.0) (k a h.1))

cut_if : {A B : Type 0} (Q : A → B → Type 0) (b : Bool) (r s : Result A Fault) (w v : Result B Fault) → (b ≡ true → Cut Q r w) → (b ≡ false → Cut Q s v) → Cut Q (cond b r s) (cond b w v)
cut_if Q true r s w v h k = h refl
cut_if Q false r s w v h k = k refl

-- ---- gaps

-- after the gap nothing is left of the beginning, or what is left of it is also what the rest of the whole text begins
-- with
pub data GapCut (b : Bool) (text rest : List ℕ) : Type 0 where
  to_end : after_gap b text ≡ [] → after_gap b (text ++ rest) ≡ after_gap false rest → GapCut b text rest
  before : (c : ℕ) (t : List ℕ) → AreWholeLines (c ∷ t) → after_gap b text ≡ c ∷ t → after_gap b (text ++ rest) ≡ c ∷ (t ++ rest) → GapCut b text rest

gap_moved : (b d : Bool) (text more rest : List ℕ) → after_gap b text ≡ after_gap d more → after_gap b (text ++ rest) ≡ after_gap d (more ++ rest) → GapCut d more rest → GapCut b text rest
gap_moved b d text more rest e f (to_end x y) = to_end (e ∙ x) (f ∙ y)
gap_moved b d text more rest e f (before c t h x y) = before c t h (e ∙ x) (f ∙ y)

gap_from : (b : Bool) (text rest : List ℕ) → AreWholeLines text → (b ≡ true → 0 < length text) → GapCut b text rest
gap_from false [] rest h some = to_end refl refl
gap_from true [] rest h some = absurd (omega (arith, some refl))
gap_from true (c ∷ cs) rest h some = elim (cases_eq c line_feed) [
  | inl e ↦ gap_moved true false (c ∷ cs) cs rest (ap (λ (b : Bool). after_gap (not b) cs) (eq-eqb c line_feed e)) (ap (λ (b : Bool). after_gap (not b) (cs ++ rest)) (eq-eqb c line_feed e)) (gap_from false cs rest (closed_tail c cs h) (λ f. absurd (no_end f)))
  | inr n ↦ gap_moved true true (c ∷ cs) cs rest (ap (λ (b : Bool). after_gap (not b) cs) (ne_eqb c line_feed n)) (ap (λ (b : Bool). after_gap (not b) (cs ++ rest)) (ne_eqb c line_feed n)) (gap_from true cs rest (closed_tail c cs h) (λ _. some_behind c cs h n))
]
gap_from false (c ∷ cs) rest h some = elim (cases_eq c percent) [
  | inl e ↦ gap_moved false true (c ∷ cs) cs rest (rw (eq-eqb c percent e) refl) (rw (eq-eqb c percent e) refl) (gap_from true cs rest (closed_tail c cs h) (λ _. some_behind c cs h (λ f. omega (arith, e, f))))
  | inr n ↦ elim (cases_Bool (is_white_space c)) [
    | inl w ↦ gap_moved false false (c ∷ cs) cs rest (rw (ne_eqb c percent n, w) refl) (rw (ne_eqb c percent n, w) refl) (gap_from false cs rest (closed_tail c cs h) (λ f. absurd (no_end f)))
    | inr w ↦ before c cs h (rw (ne_eqb c percent n, w) refl) (rw (ne_eqb c percent n, w) refl)
  ]
]

pub gap_cut : (text rest : List ℕ) → AreWholeLines text → GapCut false text rest
gap_cut text rest h = gap_from false text rest h (λ f. absurd (no_end f))

-- reading after a gap
past_gap : {A B : Type 0} (Q : A → B → Type 0) (rest text : List ℕ) (f : List ℕ → Result A Fault) (g : List ℕ → Result B Fault) → AreWholeLines text → f [] ≡ Err (causes.Syntax, 0)
    → ((c : ℕ) (t : List ℕ) → AreWholeLines (c ∷ t) → Cut Q (f (c ∷ t)) (g (c ∷ (t ++ rest)))) → Cut Q (f (after_gap false text)) (g (after_gap false (text ++ rest)))
past_gap Q rest text f g h none some = by (gap_cut text rest h)
  where
    by : GapCut false text rest → Cut Q (f (after_gap false text)) (g (after_gap false (text ++ rest)))
    by (to_end e d) = ends (ap f e ∙ none)
    by (before c t k e d) =
        subst (λ x. Cut Q (f x) (g (after_gap false (text ++ rest)))) (sym e) (subst (λ y. Cut Q (f (c ∷ t)) (g y)) (sym d) (some c t k))

-- ---- characters that are expected

expect_cut : (rest : List ℕ) (a c : ℕ) (t : List ℕ) → AreWholeLines (c ∷ t) → Cut (Rests rest) (expect a (c ∷ t)) (expect a (c ∷ (t ++ rest)))
expect_cut rest a c t h =
    cut_if (Rests rest) (c == a) _ _ _ _ (λ _. both t (t ++ rest) (refl, closed_tail c t h) refl refl) (λ _. stops _ refl)

-- a value, and what follows it
abbrev with_value : {X : Type 0} → X → List ℕ → Read X
with_value y rest = Ok (y, rest)

value_cut : {X : Type 0} (rest : List ℕ) (y : X) (t : List ℕ) → AreWholeLines t → Cut (Leaves rest) (with_value y t) (with_value y (t ++ rest))
value_cut rest y t h = both (y, t) (y, t ++ rest) (refl, h) refl refl

first_closes : {X : Type 0} (rest : List ℕ) (a c : ℕ) (y : X) (t : List ℕ) → AreWholeLines (c ∷ t) → Cut (Leaves rest) (expect a (c ∷ t) >>= with_value y) (expect a (c ∷ (t ++ rest)) >>= with_value y)
first_closes rest a c y t h = text_bind rest (Leaves rest) _ _ _ _ (expect_cut rest a c t h) (λ u k. value_cut rest y u k)

closes : {X : Type 0} (rest : List ℕ) (a : ℕ) (y : X) (t : List ℕ) → AreWholeLines t → Cut (Leaves rest) (expect a t >>= with_value y) (expect a (t ++ rest) >>= with_value y)
closes rest a y [] h = ends refl
closes rest a y (c ∷ t) h = first_closes rest a c y t h

gap_closes : {X : Type 0} (rest : List ℕ) (a : ℕ) (y : X) (t : List ℕ) → AreWholeLines t → Cut (Leaves rest) (expect a (after_gap false t) >>= with_value y) (expect a (after_gap false (t ++ rest)) >>= with_value y)
gap_closes rest a y t h = past_gap (Leaves rest) rest t (λ g. expect a g >>= with_value y) (λ g. expect a g >>= with_value y) h refl (λ c u k. first_closes rest a c y u k)

both_cut : (rest : List ℕ) (a b : ℕ) (t : List ℕ) → (line_feed == a) ≡ false → AreWholeLines t → Cut (Rests rest) (expect_both a b t) (expect_both a b (t ++ rest))
both_cut rest a b [] n h = ends refl
both_cut [] a b (c ∷ []) n h = stops _ refl
both_cut (y ∷ ys) a b (c ∷ []) n h = stops (causes.Syntax, length (c ∷ y ∷ ys)) (rw (h, n) refl)
both_cut rest a b (c ∷ d ∷ t) n h =
    cut_if (Rests rest) (c == a && d == b) _ _ _ _ (λ _. both t (t ++ rest) (refl, closed_tail d t h) refl refl) (λ _. stops _ refl)

dot_cut : (rest : List ℕ) (t : List ℕ) → AreWholeLines t → Cut (Rests rest) (dot_at t) (dot_at (t ++ rest))
dot_cut rest [] h = ends refl
dot_cut rest (c ∷ []) h = stops (causes.Syntax, length (c ∷ rest)) (rw h refl)
dot_cut rest (c ∷ d ∷ t) h =
    cut_if (Rests rest) (c == dot && (is_white_space d || d == percent)) _ _ _ _ (λ _. both (d ∷ t) (d ∷ (t ++ rest)) (refl, h) refl refl) (λ _. stops _ refl)

-- ---- quotes

escape_cut : (rest start other : List ℕ) (o : Option ℕ) (t : List ℕ) → AreWholeLines t → Cut (Leaves rest) (escape_as o start t) (escape_as o other (t ++ rest))
escape_cut rest start other None t h = stops _ refl
escape_cut rest start other (Some c) t h = value_cut rest c t h

character_cut : (rest : List ℕ) (g : Bool) (c : ℕ) (t : List ℕ) → AreWholeLines (c ∷ t) → Cut (Leaves rest) (character_at g (c ∷ t)) (character_at g (c ∷ (t ++ rest)))
unfolding character_at
character_cut rest g c [] h =
    cut_if (Leaves rest) (c == backslash) _ _ _ _ (λ _. ends refl) (λ _. cut_if (Leaves rest) (is_allowed g c) _ _ _ _ (λ _. value_cut rest c [] tt) (λ _. stops _ refl))
character_cut rest g c (e ∷ t) h =
    cut_if (Leaves rest) (c == backslash) _ _ _ _ (λ _. escape_cut rest (c ∷ e ∷ t) (c ∷ e ∷ (t ++ rest)) (escaped e) t (closed_tail e t h))
    (λ _. cut_if (Leaves rest) (is_allowed g c) _ _ _ _ (λ _. value_cut rest c (e ∷ t) h) (λ _. stops _ refl))

next_cut : (rest : List ℕ) (m : Marks) (count : ℕ) (t : List ℕ) → AreWholeLines t → Cut (Leaves rest) (next_quoted m count t) (next_quoted m count (t ++ rest))
unfolding next_quoted
next_cut rest m count [] h = ends refl
next_cut rest m count (c ∷ t) h =
    cut_if (Leaves rest) (c == m.mark) _ _ _ _ (λ _. both (None, t) (None, t ++ rest) (refl, closed_tail c t h) refl refl)
    (λ _. cut_if (Leaves rest) (count == m.room) _ _ _ _ (λ _. stops _ refl)
    (λ _. read_bind rest (Leaves rest) _ _ _ _ (character_cut rest m.only_bytes c t h) (λ x u k. both (Some x, u) (Some x, u ++ rest) (refl, k) refl refl)))

abbrev pushed_on : List ℕ → Option ℕ × List ℕ → Result (Bool × List ℕ × List ℕ) Fault
pushed_on cs x = Ok (pushed cs x.0 x.1)

pushed_cut : (rest cs : List ℕ) (x : Option ℕ) (t : List ℕ) → AreWholeLines t → Cut (StepLeaves rest) (pushed_on cs (x, t)) (pushed_on cs (x, t ++ rest))
pushed_cut rest cs None t h = both (false, cs, t) (false, cs, t ++ rest) (refl, h) refl refl
pushed_cut rest cs (Some c) t h = both (true, cs ++ c ∷ [], t) (true, cs ++ c ∷ [], t ++ rest) (refl, h) refl refl

quoted_step_cut : (rest : List ℕ) (m : Marks) (cs t : List ℕ) → AreWholeLines t → Cut (StepLeaves rest) (quoted_step m cs t) (quoted_step m cs (t ++ rest))
unfolding quoted_step
quoted_step_cut rest m cs t h = read_bind rest (StepLeaves rest) _ _ _ _ (next_cut rest m (length cs) t h) (λ x u k. pushed_cut rest cs x u k)

steps_cut : {S : Type 0} (rest : List ℕ) (step : Step S) → ((s : S) (t : List ℕ) → AreWholeLines t → Cut (StepLeaves rest) (step s t) (step s (t ++ rest)))
    → (n m : ℕ) → n ≤ m → (s : S) (t : List ℕ) → AreWholeLines t → Cut (Leaves rest) (steps step n s t) (steps step m s (t ++ rest))
unfolding steps
steps_cut rest step each zero m le s t h = ends refl
steps_cut rest step each (suc n) zero le s t h = absurd (omega (arith, le))
steps_cut rest step each (suc n) (suc m) le s t h =
    cut_bind (StepLeaves rest) (Leaves rest) _ _ _ _ (each s t h)
    (λ a b k. subst (λ y. Cut (Leaves rest) (cond a.0 (steps step n a.1 a.2) (Ok (a.1, a.2))) (cond y.0 (steps step m y.1 y.2) (Ok (y.1, y.2)))) (sym k.0)
    (cut_if (Leaves rest) a.0 _ _ _ _ (λ _. steps_cut rest step each n m (omega (arith, le)) a.1 a.2 k.1) (λ _. value_cut rest a.1 a.2 k.1)))

-- the recursion limit for the beginning is within that for the whole text
more_fuel : (t rest : List ℕ) → suc (length t) ≤ suc (length (t ++ rest))
more_fuel t rest = omega (arith, length-append t rest)

quoted_cut : (rest : List ℕ) (m : Marks) (t : List ℕ) → AreWholeLines t → Cut (Leaves rest) (quoted_at m t) (quoted_at m (t ++ rest))
quoted_cut rest m t h = steps_cut rest (quoted_step m) (λ s u k. quoted_step_cut rest m s u k) (suc (length t)) (suc (length (t ++ rest))) (more_fuel t rest) [] t h

string_cut : (rest : List ℕ) (levels : ℕ) (front : List Datum) (t : List ℕ) → AreWholeLines t → Cut (Leaves rest) (string_at levels front t) (string_at levels front (t ++ rest))
unfolding string_at
string_cut rest levels front t h = read_bind rest (Leaves rest) _ _ _ _ (quoted_cut rest (string_marks levels (length front)) t h) (λ x u k. both _ _ (refl, k) refl refl)

-- ---- numbers

run_cut : (rest : List ℕ) (n c : ℕ) (t : List ℕ) → AreWholeLines (c ∷ t) → (number_run n (c ∷ (t ++ rest)) ≡ ((number_run n (c ∷ t)).0, (number_run n (c ∷ t)).1 ++ rest)) × AreWholeLines (number_run n (c ∷ t)).1
run_cut rest n c [] h = rw h (refl, refl)
run_cut rest n c (d ∷ t) h = elim (cases_Bool (is_ascii_digit c)) [
  | inl y ↦ rw y (run_cut rest (n * 10 + digit_value c) d t h)
  | inr other ↦ rw other (refl, h)
]

abbrev number_in : Bool → List ℕ → ℕ × List ℕ → Read ℤ
number_in negative start p = cond (fits negative p.0) (Ok (signed negative p.0, p.1)) (stop causes.IntegerRange start)

number_cut : (rest : List ℕ) (negative : Bool) (start other : List ℕ) (c : ℕ) (t : List ℕ) → AreWholeLines (c ∷ t) → Cut (Leaves rest) (number_at negative start (c ∷ t)) (number_at negative other (c ∷ (t ++ rest)))
number_cut rest negative start other c t h =
    let r = run_cut rest 0 c t h in
    let p = number_run 0 (c ∷ t) in
    subst (λ q. Cut (Leaves rest) (number_in negative start p) (number_in negative other q)) (sym r.0)
    (cut_if (Leaves rest) (fits negative p.0) _ _ _ _ (λ _. both (signed negative p.0, p.1) (signed negative p.0, p.1 ++ rest) (refl, r.1) refl refl) (λ _. stops _ refl))

signed_cut : (rest : List ℕ) (negative : Bool) (start other : List ℕ) (t : List ℕ) → 0 < length t → AreWholeLines t → Cut (Leaves rest) (number_at negative start t) (number_at negative other (t ++ rest))
signed_cut rest negative start other [] some h = absurd (omega (arith, some))
signed_cut rest negative start other (c ∷ t) some h = number_cut rest negative start other c t h

integer_cut : (rest : List ℕ) (c : ℕ) (t : List ℕ) → AreWholeLines (c ∷ t) → Cut (Leaves rest) (integer_at (c ∷ t)) (integer_at (c ∷ (t ++ rest)))
unfolding integer_at
integer_cut rest c t h = elim (cases_eq c minus) [
  | inl e ↦ rw (eq-eqb c minus e) (signed_cut rest true (c ∷ t) (c ∷ (t ++ rest)) t (some_behind c t h (λ f. omega (arith, e, f))) (closed_tail c t h))
  | inr n ↦ elim (cases_eq c plus) [
    | inl e ↦ rw (ne_eqb c minus n, eq-eqb c plus e) (signed_cut rest false (c ∷ t) (c ∷ (t ++ rest)) t (some_behind c t h (λ f. omega (arith, e, f))) (closed_tail c t h))
    | inr o ↦ rw (ne_eqb c minus n, ne_eqb c plus o) (number_cut rest false (c ∷ t) (c ∷ (t ++ rest)) c t h)
  ]
]

-- ---- words

prefix_cut : (rest : List ℕ) (c : ℕ) (t : List ℕ) → AreWholeLines (c ∷ t) → (prefix_len is_word (c ∷ (t ++ rest)) ≡ prefix_len is_word (c ∷ t)) × (prefix_len is_word (c ∷ t) ≤ length t)
prefix_cut rest c [] h = rw h (refl, omega arith)
prefix_cut rest c (d ∷ t) h = elim (cases_Bool (is_word c)) [
  | inl y ↦ let r = prefix_cut rest d t h in rw y (ap (λ (k : ℕ). 1 + k) r.0, omega (arith, r.1))
  | inr other ↦ rw other (refl, omega arith)
]

take_front : (n : ℕ) (t rest : List ℕ) → n ≤ length t → take n (t ++ rest) ≡ take n t
take_front zero t rest le = refl
take_front (suc n) [] rest le = absurd (omega (arith, le))
take_front (suc n) (c ∷ t) rest le = ap (λ l. c ∷ l) (take_front n t rest (omega (arith, le)))

drop_front : (n : ℕ) (t rest : List ℕ) → n ≤ length t → drop n (t ++ rest) ≡ drop n t ++ rest
drop_front zero t rest le = refl
drop_front (suc n) [] rest le = absurd (omega (arith, le))
drop_front (suc n) (c ∷ t) rest le = drop_front n t rest (omega (arith, le))

abbrev word_in : ℕ → List ℕ → Read (List ℕ)
word_in n text = cond (nat_lt atom_limit n) (stop causes.TooLong (drop atom_limit text)) (Ok (take n text, drop n text))

word_cut : (rest : List ℕ) (c : ℕ) (t : List ℕ) → AreWholeLines (c ∷ t) → Cut (Leaves rest) (word_at (c ∷ t)) (word_at (c ∷ (t ++ rest)))
unfolding word_at
word_cut rest c t h =
    let r = prefix_cut rest c t h in
    let n = prefix_len is_word (c ∷ t) in
    let le : n ≤ suc (length t) = omega (arith, r.1) in
    subst (λ k. Cut (Leaves rest) (word_in n (c ∷ t)) (word_in k (c ∷ (t ++ rest)))) (sym r.0)
    (cut_if (Leaves rest) (nat_lt atom_limit n) _ _ _ _ (λ _. stops _ refl)
    (λ _. both (take n (c ∷ t), drop n (c ∷ t)) (take n (c ∷ (t ++ rest)), drop n (c ∷ (t ++ rest))) (ap (λ l. (l, drop n (c ∷ (t ++ rest)))) (take_front n (c ∷ t) rest le) ∙ ap (λ l. (take n (c ∷ t), l)) (drop_front n (c ∷ t) rest le), closed_drop n (c ∷ t) h) refl refl))

-- ---- how a term begins

abbrev IsReady : Opening → List ℕ → Type 0
IsReady opens.Integer t = 0 < length t
IsReady opens.Word t = 0 < length t
IsReady o t = Unit {0}

data OpenCut (rest : List ℕ) (a b : Option (Opening × List ℕ)) : Type 0 where
  no_opening : a ≡ None → b ≡ None → OpenCut rest a b
  opens_with : (o : Opening) (t : List ℕ) → AreWholeLines t → IsReady o t → a ≡ Some (o, t) → b ≡ Some (o, t ++ rest) → OpenCut rest a b

open_if : (rest : List ℕ) (b : Bool) (x y v w : Option (Opening × List ℕ)) → (b ≡ true → OpenCut rest x v) → (b ≡ false → OpenCut rest y w) → OpenCut rest (cond b x y) (cond b v w)
open_if rest true x y v w h k = h refl
open_if rest false x y v w h k = k refl

is_apart : (c a : ℕ) → c ≡ line_feed → (c == a) ≡ true → (line_feed == a) ≡ false → ⊥
is_apart c a h e n = no_end (sym n ∙ (sym (ap (λ x. x == a) h) ∙ e))

sign_cut : (rest : List ℕ) (c : ℕ) (t : List ℕ) → AreWholeLines (c ∷ t) → is_sign c ≡ true
    → OpenCut rest (cond (begins is_ascii_digit t) (Some (opens.Integer, c ∷ t)) None) (cond (begins is_ascii_digit (t ++ rest)) (Some (opens.Integer, c ∷ (t ++ rest))) None)
sign_cut rest c [] h s = absurd (no_end (ap is_sign (sym h) ∙ s))
sign_cut rest c (d ∷ t) h s =
    open_if rest (is_ascii_digit d) _ _ _ _ (λ _. opens_with opens.Integer (c ∷ d ∷ t) h (omega arith) refl refl) (λ _. no_opening refl refl)

abbrev opened_by : Opening → Option (List ℕ) → Option (Opening × List ℕ)
opened_by o r = option_map (λ rest. (o, rest)) r

mark_cut : (rest : List ℕ) (o : Opening) (a d : ℕ) (t : List ℕ) → AreWholeLines (d ∷ t) → ((u : List ℕ) → IsReady o u) → OpenCut rest (opened_by o (behind a (d ∷ t))) (opened_by o (behind a (d ∷ (t ++ rest))))
mark_cut rest o a d t h ready = elim (cases_eq d a) [
  | inl e ↦ opens_with o t (closed_tail d t h) (ready t) (rw (eq-eqb d a e) refl) (rw (eq-eqb d a e) refl)
  | inr n ↦ no_opening (rw (ne_eqb d a n) refl) (rw (ne_eqb d a n) refl)
]

marks_cut : (rest : List ℕ) (o : Opening) (b a c : ℕ) (t : List ℕ) → (line_feed == b) ≡ false → AreWholeLines (c ∷ t) → (c == b) ≡ true → ((u : List ℕ) → IsReady o u) → OpenCut rest (opened_by o (behind a t)) (opened_by o (behind a (t ++ rest)))
marks_cut rest o b a c [] n h e ready = absurd (is_apart c b h e n)
marks_cut rest o b a c (d ∷ t) n h e ready = mark_cut rest o a d t h ready

opening_cut : (rest : List ℕ) (c : ℕ) (t : List ℕ) → AreWholeLines (c ∷ t) → OpenCut rest (opening (c ∷ t)) (opening (c ∷ (t ++ rest)))
opening_cut rest c t h =
    open_if rest (is_ascii_digit c) _ _ _ _ (λ _. opens_with opens.Integer (c ∷ t) h (omega arith) refl refl)
    (λ _. open_if rest (is_sign c) _ _ _ _ (λ s. sign_cut rest c t h s)
    (λ _. open_if rest (is_ascii_lowercase c) _ _ _ _ (λ _. opens_with opens.Word (c ∷ t) h (omega arith) refl refl)
    (λ _. open_if rest (c == single_quote) _ _ _ _ (λ _. opens_with opens.QuotedAtom t (closed_tail c t h) tt refl refl)
    (λ _. open_if rest (c == double_quote) _ _ _ _ (λ _. opens_with opens.String t (closed_tail c t h) tt refl refl)
    (λ _. open_if rest (c == open_brace) _ _ _ _ (λ _. opens_with opens.Tuple t (closed_tail c t h) tt refl refl)
    (λ _. open_if rest (c == open_bracket) _ _ _ _ (λ _. opens_with opens.List t (closed_tail c t h) tt refl refl)
    (λ _. open_if rest (c == number_sign) _ _ _ _ (λ e. marks_cut rest opens.Map number_sign open_brace c t refl h e (λ _. tt))
    (λ _. open_if rest (c == less) _ _ _ _ (λ e. marks_cut rest opens.Binary less less c t refl h e (λ _. tt)) (λ _. no_opening refl refl)))))))))

abbrev Opens : List ℕ → Opening × List ℕ → Opening × List ℕ → Type 0
Opens rest a b = (b ≡ (a.0, a.1 ++ rest)) × AreWholeLines a.1 × IsReady a.0 a.1

enter_in : (rest : List ℕ) (levels room : ℕ) (text whole : List ℕ) (a b : Option (Opening × List ℕ)) → OpenCut rest a b → Cut (Opens rest) (enter_as levels room text a) (enter_as levels room whole b)
enter_in rest levels room text whole a b (no_opening e d) = rw (e, d) (stops (causes.Syntax, length whole) refl)
enter_in rest levels room text whole a b (opens_with o t h ready e d) =
    rw (e, d) (cut_if (Opens rest) (levels == 0) _ _ _ _ (λ _. stops _ refl) (λ _. cut_if (Opens rest) (room == 0) _ _ _ _ (λ _. stops _ refl) (λ _. both (o, t) (o, t ++ rest) (refl, h, ready) refl refl)))

enter_cut : (rest : List ℕ) (levels room c : ℕ) (t : List ℕ) → AreWholeLines (c ∷ t) → Cut (Opens rest) (enter levels room (c ∷ t)) (enter levels room (c ∷ (t ++ rest)))
unfolding enter
enter_cut rest levels room c t h = enter_in rest levels room (c ∷ t) (c ∷ (t ++ rest)) (opening (c ∷ t)) (opening (c ∷ (t ++ rest))) (opening_cut rest c t h)

-- ---- items with commas between

-- the result of reading items: the beginning may have ended after an item
data Loose {X : Type 0} (rest : List ℕ) (r w : Read X) : Type 0 where
  ended : (x : X) → r ≡ Ok (x, []) → Loose rest r w
  cut : Cut (Leaves rest) r w → Loose rest r w

-- the result of a step: the beginning may have ended after an item, or after its comma
data StepLoose {S : Type 0} (rest : List ℕ) (r w : Result (Bool × S × List ℕ) Fault) : Type 0 where
  over : (s : S) → r ≡ Ok (false, s, []) → StepLoose rest r w
  begun : (s : S) → r ≡ Ok (true, s, []) → StepLoose rest r w
  goes : Cut (StepLeaves rest) r w → StepLoose rest r w

-- after an item and its gap, with the comma if there is one
abbrev item_at : {S : Type 0} → S → List ℕ → Result (Bool × S × List ℕ) Fault
item_at s g = Ok ((comma_in g).0, s, (comma_in g).1)

comma_cut : {S : Type 0} (rest : List ℕ) (s : S) (c : ℕ) (t : List ℕ) → AreWholeLines (c ∷ t) → StepLoose rest (item_at s (c ∷ t)) (item_at s (c ∷ (t ++ rest)))
comma_cut rest s c t h = elim (cases_eq c comma) [
  | inl e ↦ by e (gap_cut t rest (closed_tail c t h))
  | inr n ↦ goes (both (false, s, c ∷ t) (false, s, c ∷ (t ++ rest)) (refl, h) (rw (ne_eqb c comma n) refl) (rw (ne_eqb c comma n) refl))
]
  where
    by : c ≡ comma → GapCut false t rest → StepLoose rest (item_at s (c ∷ t)) (item_at s (c ∷ (t ++ rest)))
    by e (to_end f g) = begun s (rw (eq-eqb c comma e, f) refl)
    by e (before d u k f g) = goes (both (true, s, d ∷ u) (true, s, d ∷ (u ++ rest)) (refl, k) (rw (eq-eqb c comma e, f) refl) (rw (eq-eqb c comma e, g) refl))

item_cut : {S : Type 0} (rest : List ℕ) (s : S) (t : List ℕ) → AreWholeLines t → StepLoose rest (item_at s (after_gap false t)) (item_at s (after_gap false (t ++ rest)))
item_cut rest s t h = by (gap_cut t rest h)
  where
    by : GapCut false t rest → StepLoose rest (item_at s (after_gap false t)) (item_at s (after_gap false (t ++ rest)))
    by (to_end e d) = over s (ap (item_at s) e)
    by (before c u k e d) =
        subst (λ x. StepLoose rest (item_at s x) (item_at s (after_gap false (t ++ rest)))) (sym e) (subst (λ y. StepLoose rest (item_at s (c ∷ u)) (item_at s y)) (sym d) (comma_cut rest s c u k))

separated_cut : {S : Type 0} (rest : List ℕ) (item : S → List ℕ → Read S) (s : S) (t : List ℕ) → Cut (Leaves rest) (item s t) (item s (t ++ rest)) → StepLoose rest (separated item s t) (separated item s (t ++ rest))
separated_cut rest item s t (ends e) = goes (ends (rw e refl))
separated_cut rest item s t (stops x e) = goes (stops x (rw e refl))
separated_cut rest item s t (both a b h e d) =
    rw (e, d) (subst (λ y. StepLoose rest (item_at a.0 (after_gap false a.1)) (item_at y.0 (after_gap false y.1))) (sym h.0) (item_cut rest a.0 a.1 h.1))

steps_none : {S : Type 0} (step : Step S) → ((s : S) → step s [] ≡ Err (causes.Syntax, 0)) → (n : ℕ) (s : S) → steps step n s [] ≡ Err (causes.Syntax, 0)
unfolding steps
steps_none step none zero s = refl
steps_none step none (suc n) s = rw (none s) refl

loose_if : {X : Type 0} (rest : List ℕ) (b : Bool) (r s w v : Read X) → (b ≡ true → Loose rest r w) → (b ≡ false → Loose rest s v) → Loose rest (cond b r s) (cond b w v)
loose_if rest true r s w v h k = h refl
loose_if rest false r s w v h k = k refl

-- one step, followed by the other steps
abbrev stepped : {S : Type 0} → Step S → ℕ → Bool × S × List ℕ → Read S
stepped step n a = cond a.0 (steps step n a.1 a.2) (Ok (a.1, a.2))

stepped_cut : {S : Type 0} (rest : List ℕ) (step : Step S) (n m : ℕ) (none : (s : S) → step s [] ≡ Err (causes.Syntax, 0)) → ((s : S) (t : List ℕ) → AreWholeLines t → Loose rest (steps step n s t) (steps step m s (t ++ rest)))
    → (r w : Result (Bool × S × List ℕ) Fault) → StepLoose rest r w → Loose rest (r >>= stepped step n) (w >>= stepped step m)
stepped_cut rest step n m none again r w (over s e) = ended s (rw e refl)
stepped_cut rest step n m none again r w (begun s e) = cut (ends (rw e (steps_none step none n s)))
stepped_cut rest step n m none again r w (goes (ends e)) = cut (ends (rw e refl))
stepped_cut rest step n m none again r w (goes (stops x e)) = cut (stops x (rw e refl))
stepped_cut rest step n m none again r w (goes (both a b h e d)) =
    rw (e, d) (subst (λ y. Loose rest (stepped step n a) (stepped step m y)) (sym h.0)
    (loose_if rest a.0 _ _ _ _ (λ _. again a.1 a.2 h.1) (λ _. cut (value_cut rest a.1 a.2 h.1))))

steps_loose : {S : Type 0} (rest : List ℕ) (step : Step S) → ((s : S) → step s [] ≡ Err (causes.Syntax, 0)) → ((s : S) (t : List ℕ) → AreWholeLines t → StepLoose rest (step s t) (step s (t ++ rest)))
    → (n m : ℕ) → n ≤ m → (s : S) (t : List ℕ) → AreWholeLines t → Loose rest (steps step n s t) (steps step m s (t ++ rest))
unfolding steps
steps_loose rest step none each zero m le s t h = cut (ends refl)
steps_loose rest step none each (suc n) zero le s t h = absurd (omega (arith, le))
steps_loose rest step none each (suc n) (suc m) le s t h =
    stepped_cut rest step n m none (λ u v k. steps_loose rest step none each n m (omega (arith, le)) u v k) (step s t) (step s (t ++ rest)) (each s t h)

loose_bind : {X C D : Type 0} (rest : List ℕ) (Q : C → D → Type 0) (r w : Read X) (f : X × List ℕ → Result C Fault) (g : X × List ℕ → Result D Fault) → Loose rest r w → ((x : X) → f (x, []) ≡ Err (causes.Syntax, 0))
    → ((x : X) (t : List ℕ) → AreWholeLines t → Cut Q (f (x, t)) (g (x, t ++ rest))) → Cut Q (r >>= f) (w >>= g)
loose_bind rest Q r w f g (ended x e) none k = ends (rw e (none x))
loose_bind rest Q r w f g (cut c) none k = read_bind rest Q r w f g c k

-- a reader of items that follow each other
record Items {S : Type 0} (rest : List ℕ) (item : S → List ℕ → Read S) : Type 0 where
  none : (s : S) → item s [] ≡ Err (causes.Syntax, 0)
  each : (s : S) (t : List ℕ) → AreWholeLines t → Cut (Leaves rest) (item s t) (item s (t ++ rest))

no_item : {S : Type 0} (rest : List ℕ) (item : S → List ℕ → Read S) → Items rest item → (s : S) → separated item s [] ≡ Err (causes.Syntax, 0)
no_item rest item i s = rw (i.none s) refl

items_cut : {S : Type 0} (rest : List ℕ) (item : S → List ℕ → Read S) → Items rest item → (s : S) (t : List ℕ) → AreWholeLines t → Loose rest (all_steps (separated item) s t) (all_steps (separated item) s (t ++ rest))
items_cut rest item i s t h =
    steps_loose rest (separated item) (no_item rest item i) (λ u v k. separated_cut rest item u v (i.each u v k)) (suc (length t)) (suc (length (t ++ rest))) (more_fuel t rest) s t h

no_items : {S : Type 0} (rest : List ℕ) (item : S → List ℕ → Read S) → Items rest item → (s : S) → all_steps (separated item) s [] ≡ Err (causes.Syntax, 0)
no_items rest item i s = steps_none (separated item) (no_item rest item i) (suc zero) s

-- ---- what is closed at once

closes_at_once : {X : Type 0} (rest : List ℕ) (a : ℕ) (y : X) (f : Option (List ℕ) → List ℕ → Read X) → ((u t : List ℕ) → f (Some u) t ≡ Ok (y, u)) → f None [] ≡ Err (causes.Syntax, 0)
    → ((c : ℕ) (t : List ℕ) → AreWholeLines (c ∷ t) → Cut (Leaves rest) (f None (c ∷ t)) (f None (c ∷ (t ++ rest))))
    → (t : List ℕ) → AreWholeLines t → Cut (Leaves rest) (f (behind a (after_gap false t)) (after_gap false t)) (f (behind a (after_gap false (t ++ rest))) (after_gap false (t ++ rest)))
closes_at_once rest a y f closed none some t h =
    past_gap (Leaves rest) rest t (λ g. f (behind a g) g) (λ g. f (behind a g) g) h none
    (λ c u k. elim (cases_eq c a) [
      | inl e ↦ both (y, u) (y, u ++ rest) (refl, closed_tail c u k) (rw (eq-eqb c a e) (closed u (c ∷ u))) (rw (eq-eqb c a e) (closed (u ++ rest) (c ∷ (u ++ rest))))
      | inr n ↦ rw (ne_eqb c a n) (some c u k)
    ])

-- ---- binaries

byte_in : (rest : List ℕ) (z : ℤ) (start other t : List ℕ) → AreWholeLines t → Cut (Leaves rest) (byte_of z start >>= λ b. with_value b t) (byte_of z other >>= λ b. with_value b (t ++ rest))
byte_in rest (pos b) start other t h = elim (cases_Bool (nat_lt b 256)) [ inl y ↦ rw y (value_cut rest b t h) | inr n ↦ rw n (stops _ refl) ]
byte_in rest (negsuc b) start other t h = stops _ refl

byte_cut : (rest : List ℕ) (c : ℕ) (t : List ℕ) → AreWholeLines (c ∷ t) → Cut (Leaves rest) (byte_at (c ∷ t)) (byte_at (c ∷ (t ++ rest)))
unfolding byte_at
byte_cut rest c t h = read_bind rest (Leaves rest) _ _ _ _ (integer_cut rest c t h) (λ z u k. byte_in rest z (c ∷ t) (c ∷ (t ++ rest)) u k)

one_byte_cut : (rest bytes : List ℕ) (c : ℕ) (t : List ℕ) → AreWholeLines (c ∷ t) → Cut (Leaves rest) (one_byte_at bytes (c ∷ t)) (one_byte_at bytes (c ∷ (t ++ rest)))
one_byte_cut rest bytes c t h =
    cut_if (Leaves rest) (length bytes == binary_limit) _ _ _ _ (λ _. stops _ refl) (λ _. read_bind rest (Leaves rest) _ _ _ _ (byte_cut rest c t h) (λ b u k. both _ _ (refl, k) refl refl))

segment_by : (rest bytes : List ℕ) (c : ℕ) (t : List ℕ) (o : Opening) (u : List ℕ) → AreWholeLines (c ∷ t) → AreWholeLines u → Cut (Leaves rest) (segment_as (Some (o, u)) bytes (c ∷ t)) (segment_as (Some (o, u ++ rest)) bytes (c ∷ (t ++ rest)))
segment_by rest bytes c t opens.Integer u h k = one_byte_cut rest bytes c t h
segment_by rest bytes c t opens.String u h k = read_bind rest (Leaves rest) _ _ _ _ (quoted_cut rest (byte_marks (length bytes)) u k) (λ x v l. both _ _ (refl, l) refl refl)
segment_by rest bytes c t opens.Word u h k = stops _ refl
segment_by rest bytes c t opens.QuotedAtom u h k = stops _ refl
segment_by rest bytes c t opens.Tuple u h k = stops _ refl
segment_by rest bytes c t opens.List u h k = stops _ refl
segment_by rest bytes c t opens.Map u h k = stops _ refl
segment_by rest bytes c t opens.Binary u h k = stops _ refl

segment_in : (rest bytes : List ℕ) (c : ℕ) (t : List ℕ) (a b : Option (Opening × List ℕ)) → AreWholeLines (c ∷ t) → OpenCut rest a b → Cut (Leaves rest) (segment_as a bytes (c ∷ t)) (segment_as b bytes (c ∷ (t ++ rest)))
segment_in rest bytes c t a b h (no_opening e d) = rw (e, d) (stops (causes.Syntax, length (c ∷ (t ++ rest))) refl)
segment_in rest bytes c t a b h (opens_with o u k ready e d) = rw (e, d) (segment_by rest bytes c t o u h k)

segment_cut : (rest bytes t : List ℕ) → AreWholeLines t → Cut (Leaves rest) (segment_at bytes t) (segment_at bytes (t ++ rest))
unfolding segment_at
segment_cut rest bytes [] h = ends refl
segment_cut rest bytes (c ∷ t) h = segment_in rest bytes c t (opening (c ∷ t)) (opening (c ∷ (t ++ rest))) h (opening_cut rest c t h)

segments : (rest : List ℕ) → Items rest segment_at
unfolding segment_at
segments rest = record { none = λ s. refl; each = λ s t h. segment_cut rest s t h }

-- after the opening of a binary, and its gap
abbrev bytes_in : List ℕ → Read (List ℕ)
bytes_in g = bytes_at (after_both greater greater g) g

segments_closed : (rest : List ℕ) (t : List ℕ) → AreWholeLines t → Cut (Leaves rest) (bytes_at None t) (bytes_at None (t ++ rest))
segments_closed rest t h =
    loose_bind rest (Leaves rest) _ _ _ _ (items_cut rest segment_at (segments rest) [] t h) (λ x. refl)
    (λ x u k. text_bind rest (Leaves rest) _ _ _ _ (both_cut rest greater greater u refl k) (λ v l. value_cut rest x v l))

feed_first : (c : ℕ) (rest : List ℕ) → c ≡ line_feed → after_both greater greater (c ∷ rest) ≡ None
feed_first c [] h = refl
feed_first c (y ∷ ys) h = rw h refl

bytes_cut : (rest : List ℕ) (c : ℕ) (t : List ℕ) → AreWholeLines (c ∷ t) → Cut (Leaves rest) (bytes_in (c ∷ t)) (bytes_in (c ∷ (t ++ rest)))
bytes_cut rest c [] h = subst (λ o. Cut (Leaves rest) (bytes_at None (c ∷ [])) (bytes_at o (c ∷ rest))) (sym (feed_first c rest h)) (segments_closed rest (c ∷ []) h)
bytes_cut rest c (d ∷ t) h = elim (cases_Bool (c == greater && d == greater)) [
  | inl y ↦ rw y (both ([], t) ([], t ++ rest) (refl, closed_tail d t h) refl refl)
  | inr n ↦ rw n (segments_closed rest (c ∷ d ∷ t) h)
]

no_bytes : bytes_in [] ≡ Err (causes.Syntax, 0)
no_bytes = rw (no_items [] segment_at (segments []) []) refl

binary_cut : (rest t : List ℕ) → AreWholeLines t → Cut (Leaves rest) (binary_at t) (binary_at (t ++ rest))
unfolding binary_at
binary_cut rest t h =
    read_bind rest (Leaves rest) _ _ _ _ (past_gap (Leaves rest) rest t bytes_in bytes_in h no_bytes (λ c u k. bytes_cut rest c u k)) (λ x u k. both _ _ (refl, k) refl refl)

-- ---- terms

-- readers of terms that are nested less deeply
record Readers (rest : List ℕ) (read : TermReader) (read_tail : TailReader) : Type 0 where
  none : (room : ℕ) → read room [] ≡ Err (causes.Syntax, 0)
  term : (room : ℕ) (t : List ℕ) → AreWholeLines t → Cut (Leaves rest) (read room t) (read room (t ++ rest))
  no_tail : (front : List Datum) → read_tail front [] ≡ Err (causes.Syntax, 0)
  tail : (front : List Datum) (t : List ℕ) → AreWholeLines t → Cut (Leaves rest) (read_tail front t) (read_tail front (t ++ rest))

-- the tail of a list, and its closing bracket
abbrev with_tail : TailReader → List Datum → List ℕ → Read Datum
with_tail read_tail ds g = read_tail ds g >>= λ x. expect close_bracket (after_gap false x.1) >>= with_value x.0

-- a key with the value that follows it
abbrev with_both : List (Datum × Datum) → Datum → Datum × List ℕ → Read (List (Datum × Datum))
with_both es key v = Ok (insert_entry datum_cmp es key v.0, v.1)

abbrev with_key : TermReader → List (Datum × Datum) → Datum → List ℕ → Read (List (Datum × Datum))
with_key read es key g = read 1 (after_gap false g) >>= with_both es key

module _ (rest : List ℕ) (read : TermReader) (read_tail : TailReader) (r : Readers rest read read_tail) where
  element_cut : (limit : ℕ) (ds : List Datum) (t : List ℕ) → AreWholeLines t → Cut (Leaves rest) (element_at read limit ds t) (element_at read limit ds (t ++ rest))
  unfolding element_at
  element_cut limit ds t h = read_bind rest (Leaves rest) _ _ _ _ (r.term (limit - length ds) t h) (λ x u k. both _ _ (refl, k) refl refl)

  elements : (limit : ℕ) → Items rest (element_at read limit)
  unfolding element_at
  elements limit = record { none = λ s. rw (r.none (limit - length s)) refl; each = λ s t h. element_cut limit s t h }

  tuple_closed : (t : List ℕ) → AreWholeLines t → Cut (Leaves rest) (items_at read None t) (items_at read None (t ++ rest))
  tuple_closed t h =
      loose_bind rest (Leaves rest) _ _ _ _ (items_cut rest (element_at read tuple_limit) (elements tuple_limit) [] t h) (λ x. refl) (λ x u k. closes rest close_brace x u k)

  no_items_at : items_at read None [] ≡ Err (causes.Syntax, 0)
  no_items_at = rw (no_items rest (element_at read tuple_limit) (elements tuple_limit) []) refl

  tuple_cut : (t : List ℕ) → AreWholeLines t → Cut (Leaves rest) (tuple_at read t) (tuple_at read (t ++ rest))
  unfolding tuple_at
  tuple_cut t h =
      read_bind rest (Leaves rest) _ _ _ _ (closes_at_once rest close_brace [] (items_at read) (λ u v. refl) no_items_at (λ c u k. tuple_closed (c ∷ u) k) t h) (λ x u k. both _ _ (refl, k) refl refl)

  tail_closed : (ds : List Datum) (t : List ℕ) → AreWholeLines t → Cut (Leaves rest) (list_end read_tail ds t) (list_end read_tail ds (t ++ rest))
  unfolding list_end
  tail_closed ds [] h = ends refl
  tail_closed ds (c ∷ t) h = elim (cases_eq c bar) [
    | inl e ↦ rw (eq-eqb c bar e) (past_gap (Leaves rest) rest t (with_tail read_tail ds) (with_tail read_tail ds) (closed_tail c t h) (rw (r.no_tail ds) refl) (λ d u k. read_bind rest (Leaves rest) _ _ _ _ (r.tail ds (d ∷ u) k) (λ x v l. gap_closes rest close_bracket x v l)))
    | inr n ↦ rw (ne_eqb c bar n) (first_closes rest close_bracket c (cells ds nil) t h)
  ]

  list_closed : (front : List Datum) (t : List ℕ) → AreWholeLines t → Cut (Leaves rest) (list_from read read_tail front None t) (list_from read read_tail front None (t ++ rest))
  unfolding list_end
  list_closed front t h =
      loose_bind rest (Leaves rest) _ _ _ _ (items_cut rest (element_at read list_limit) (elements list_limit) front t h) (λ x. refl) (λ x u k. tail_closed x u k)

  no_list_from : (front : List Datum) → list_from read read_tail front None [] ≡ Err (causes.Syntax, 0)
  no_list_from front = rw (no_items rest (element_at read list_limit) (elements list_limit) front) refl

  list_cut : (front : List Datum) (t : List ℕ) → AreWholeLines t → Cut (Leaves rest) (list_at read read_tail front t) (list_at read read_tail front (t ++ rest))
  unfolding list_at
  list_cut front t h = closes_at_once rest close_bracket (cells front nil) (list_from read read_tail front) (λ u v. refl) (no_list_from front) (λ c u k. list_closed front (c ∷ u) k) t h

  pair_cut : (es : List (Datum × Datum)) (t : List ℕ) → AreWholeLines t → Cut (Leaves rest) (pair_at read es t) (pair_at read es (t ++ rest))
  unfolding pair_at
  pair_cut es t h =
      read_bind rest (Leaves rest) _ _ _ _ (r.term (map_limit - length es) t h)
      (λ key u k. cut_if (Leaves rest) (has_key key es) _ _ _ _ (λ _. stops _ refl)
      (λ _. past_gap (Leaves rest) rest u (λ g. expect_both equals greater g >>= with_key read es key) (λ g. expect_both equals greater g >>= with_key read es key) k refl
      (λ c v l. text_bind rest (Leaves rest) _ _ _ _ (both_cut rest equals greater (c ∷ v) refl l)
      (λ v l. past_gap (Leaves rest) rest v (λ g. read 1 g >>= with_both es key) (λ g. read 1 g >>= with_both es key) l (rw (r.none 1) refl)
      (λ c w p. read_bind rest (Leaves rest) _ _ _ _ (r.term 1 (c ∷ w) p) (λ value x q. both _ _ (refl, q) refl refl))))))

  pairs : Items rest (pair_at read)
  unfolding pair_at
  pairs = record { none = λ s. rw (r.none (map_limit - length s)) refl; each = λ s t h. pair_cut s t h }

  map_closed : (t : List ℕ) → AreWholeLines t → Cut (Leaves rest) (pairs_at read None t) (pairs_at read None (t ++ rest))
  map_closed t h = loose_bind rest (Leaves rest) _ _ _ _ (items_cut rest (pair_at read) pairs [] t h) (λ x. refl) (λ x u k. closes rest close_brace x u k)

  no_pairs_at : pairs_at read None [] ≡ Err (causes.Syntax, 0)
  no_pairs_at = rw (no_items rest (pair_at read) pairs []) refl

  map_cut : (t : List ℕ) → AreWholeLines t → Cut (Leaves rest) (map_at read t) (map_at read (t ++ rest))
  unfolding map_at
  map_cut t h =
      read_bind rest (Leaves rest) _ _ _ _ (closes_at_once rest close_brace [] (pairs_at read) (λ u v. refl) no_pairs_at (λ c u k. map_closed (c ∷ u) k) t h) (λ x u k. both _ _ (refl, k) refl refl)

  form_cut : (levels : ℕ) (o : Opening) (t : List ℕ) → AreWholeLines t → IsReady o t → Cut (Leaves rest) (form_at read read_tail levels o t) (form_at read read_tail levels o (t ++ rest))
  unfolding integer_term_at word_term_at quoted_atom_at
  form_cut levels opens.Integer [] h ready = absurd (omega (arith, ready))
  form_cut levels opens.Integer (c ∷ t) h ready = read_bind rest (Leaves rest) _ _ _ _ (integer_cut rest c t h) (λ x u k. both _ _ (refl, k) refl refl)
  form_cut levels opens.Word [] h ready = absurd (omega (arith, ready))
  form_cut levels opens.Word (c ∷ t) h ready = read_bind rest (Leaves rest) _ _ _ _ (word_cut rest c t h) (λ x u k. both _ _ (refl, k) refl refl)
  form_cut levels opens.QuotedAtom t h ready = read_bind rest (Leaves rest) _ _ _ _ (quoted_cut rest atom_marks t h) (λ x u k. both _ _ (refl, k) refl refl)
  form_cut levels opens.String t h ready = string_cut rest levels [] t h
  form_cut levels opens.Tuple t h ready = tuple_cut t h
  form_cut levels opens.List t h ready = list_cut [] t h
  form_cut levels opens.Map t h ready = map_cut t h
  form_cut levels opens.Binary t h ready = binary_cut rest t h

  -- a term that ends a list
  ended_cut : (levels : ℕ) (front : List Datum) (o : Opening) (t : List ℕ) → AreWholeLines t → IsReady o t
      → Cut (Leaves rest) (form_at read read_tail levels o t >>= λ x. with_value (cells front x.0) x.1) (form_at read read_tail levels o (t ++ rest) >>= λ x. with_value (cells front x.0) x.1)
  ended_cut levels front o t h ready = read_bind rest (Leaves rest) _ _ _ _ (form_cut levels o t h ready) (λ x u k. value_cut rest (cells front x) u k)

  tail_form_cut : (levels : ℕ) (front : List Datum) (o : Opening) (t : List ℕ) → AreWholeLines t → IsReady o t → Cut (Leaves rest) (tail_form read read_tail levels front o t) (tail_form read read_tail levels front o (t ++ rest))
  tail_form_cut levels front opens.String t h ready = string_cut rest levels front t h
  tail_form_cut levels front opens.List t h ready = list_cut front t h
  tail_form_cut levels front opens.Integer t h ready = ended_cut levels front opens.Integer t h ready
  tail_form_cut levels front opens.Word t h ready = ended_cut levels front opens.Word t h ready
  tail_form_cut levels front opens.QuotedAtom t h ready = ended_cut levels front opens.QuotedAtom t h ready
  tail_form_cut levels front opens.Tuple t h ready = ended_cut levels front opens.Tuple t h ready
  tail_form_cut levels front opens.Map t h ready = ended_cut levels front opens.Map t h ready
  tail_form_cut levels front opens.Binary t h ready = ended_cut levels front opens.Binary t h ready

no_term : (n room : ℕ) → term_at n room [] ≡ Err (causes.Syntax, 0)
unfolding term_at enter
no_term zero room = refl
no_term (suc n) room = refl

no_tail_at : (n : ℕ) (front : List Datum) → tail_at n front [] ≡ Err (causes.Syntax, 0)
unfolding tail_at enter
no_tail_at zero front = refl
no_tail_at (suc n) front = refl

none_cut : (rest : List ℕ) (room : ℕ) (t : List ℕ) → AreWholeLines t → Cut (Leaves rest) (term_at zero room t) (term_at zero room (t ++ rest))
unfolding term_at
none_cut rest room [] h = ends (no_term zero room)
none_cut rest room (c ∷ t) h = cut_bind (Opens rest) (Leaves rest) _ _ _ _ (enter_cut rest zero room c t h) (λ a b k. stops _ refl)

no_tail_cut : (rest : List ℕ) (front : List Datum) (t : List ℕ) → AreWholeLines t → Cut (Leaves rest) (tail_at zero front t) (tail_at zero front (t ++ rest))
unfolding tail_at
no_tail_cut rest front [] h = ends (no_tail_at zero front)
no_tail_cut rest front (c ∷ t) h = cut_bind (Opens rest) (Leaves rest) _ _ _ _ (enter_cut rest zero 1 c t h) (λ a b k. stops _ refl)

term_cut : (rest : List ℕ) (n room : ℕ) (t : List ℕ) → Readers rest (term_at n) (tail_at n) → AreWholeLines t → Cut (Leaves rest) (term_at (suc n) room t) (term_at (suc n) room (t ++ rest))
unfolding term_at
term_cut rest n room [] r h = ends (no_term (suc n) room)
term_cut rest n room (c ∷ t) r h =
    cut_bind (Opens rest) (Leaves rest) _ _ _ _ (enter_cut rest (suc n) room c t h)
    (λ a b k. subst (λ (y : Opening × List ℕ). Cut (Leaves rest) (form_at (term_at n) (tail_at n) n a.0 a.1) (form_at (term_at n) (tail_at n) n y.0 y.1)) (sym k.0) (form_cut rest (term_at n) (tail_at n) r n a.0 a.1 k.1 k.2))

tail_cut : (rest : List ℕ) (n : ℕ) (front : List Datum) (t : List ℕ) → Readers rest (term_at n) (tail_at n) → AreWholeLines t → Cut (Leaves rest) (tail_at (suc n) front t) (tail_at (suc n) front (t ++ rest))
unfolding tail_at
tail_cut rest n front [] r h = ends (no_tail_at (suc n) front)
tail_cut rest n front (c ∷ t) r h =
    cut_bind (Opens rest) (Leaves rest) _ _ _ _ (enter_cut rest (suc n) 1 c t h)
    (λ a b k. subst (λ (y : Opening × List ℕ). Cut (Leaves rest) (tail_form (term_at n) (tail_at n) n front a.0 a.1) (tail_form (term_at n) (tail_at n) n front y.0 y.1)) (sym k.0) (tail_form_cut rest (term_at n) (tail_at n) r n front a.0 a.1 k.1 k.2))

readers : (rest : List ℕ) (n : ℕ) → Readers rest (term_at n) (tail_at n)
readers rest zero = record { none = no_term zero; term = λ room t h. none_cut rest room t h; no_tail = no_tail_at zero; tail = λ front t h. no_tail_cut rest front t h }
readers rest (suc n) = record {
  none = no_term (suc n);
  term = λ room t h. term_cut rest n room t (readers rest n) h;
  no_tail = no_tail_at (suc n);
  tail = λ front t h. tail_cut rest n front t (readers rest n) h;
}

-- a term and its dot
pub sentence_cut : (rest t : List ℕ) → AreWholeLines t → Cut (Leaves rest) (sentence_at t) (sentence_at (t ++ rest))
unfolding sentence_at
sentence_cut rest t h =
    read_bind rest (Leaves rest) _ _ _ _ ((readers rest depth_limit).term 1 t h)
    (λ x u k. past_gap (Leaves rest) rest u (λ g. dot_at g >>= with_value x) (λ g. dot_at g >>= with_value x) k refl
    (λ c v l. text_bind rest (Leaves rest) _ _ _ _ (dot_cut rest (c ∷ v) l) (λ w p. value_cut rest x w p)))
