-- Where a place is due, the reader stops with the fault with which it stops at the first part due there.
use Rattle.std.proofs.Common.{◌≡◌, ◌≢◌, ◌&&◌, ℕ, zero, suc, ◌+◌, ◌-◌, ◌≤◌, ◌<◌, inl, inr, Bool, true, false, cond, List, [], ◌∷◌, ◌++◌, length, Option, Some, None, Result, Ok, Err, ℤ, pos, negsuc, refl, sym, ap, ◌∙◌, arith, lit<, append_assoc}
use Rattle.std.specs.Prelude.{IfSome, ◌==◌}
use Rattle.std.specs.List.{Contains, AllByRecursion}
use Rattle.std.specs.List.Sorted.{IsPermutation}
use Rattle.std.specs.Char.{is_ascii_digit, is_ascii_lowercase}
use Rattle.std.specs.BTreeMap.{insert_entry}
use Rattle.std.proofs.lemmas.Bool.{eq-eqb, ne_eqb, le-leb, lt-leb, le-ltb, or_from, false_from_ne_true, cases_Bool, cases_eq}
use Rattle.std.proofs.lemmas.List.{length-append}
use Rattle.std.proofs.lemmas.List.Sorted.{Contains-permutation, IsPermutation-refl, IsPermutation-sym, IsPermutation-cons, IsPermutation-trans, length_permutation}
use Rattle.term_core.specs.Datum.{Datum, items_of, cells, cell_count}
use Rattle.term_core.specs.Datum.Datum.{tuple}
use Rattle.term_core.specs.Order.{datum_cmp}
use Rattle.term_core.specs.Sizes.{atom_limit, tuple_limit, map_limit, list_limit, binary_limit, depth_limit}
use Rattle.term_text.specs.Character.{percent, plus, minus, comma, dot, backslash, single_quote, double_quote, open_brace, close_brace, open_bracket, close_bracket, bar, number_sign, equals, less, greater, is_white_space, is_word, escaped}
use Rattle.term_text.specs.declared.stop.Cause.TheVariants as causes
use Rattle.term_text.specs.declared.token.Marks.{Marks}
use Rattle.term_text.specs.declared.token.Opening.{Opening}
use Rattle.term_text.specs.declared.token.Opening.TheVariants as opens
use Rattle.term_text.specs.Tokens.{Gap, Integer}
use Rattle.term_text.specs.Text.{Segment, Spelled, Pair, BeginsGap}
use Rattle.term_text.specs.Causes.{Quotes, Row, most_elements, mark_of, most_characters, HasLevel, MayStand, IsNew, EndsGap, WholeGap, BeginsWith, BeginsWithBoth, BeginsInteger, BeginsTerm, BeginsDot, FollowsElement, IsWide, IsNoByte}
use Rattle.term_text.specs.Causes.WholeGap.{up_to, to_the_end}
use Rattle.term_text.specs.Causes.Row.{in_tuple, in_list}
use Rattle.term_text.specs.Causes.Quotes.{of_atom, of_string, of_bytes}
use Rattle.term_text.specs.Causes.IsWide.{wide, wide_positive, wide_negative}
use Rattle.term_text.specs.TokenReading.{Fault, Read, ◌>>=◌, steps, after_gap, expect, expect_both, behind, after_both, opening, begins, is_sign, integer_at, word_at, quoted_at, quoted_step, next_quoted, character_at, is_allowed, dot_at, begins_gap}
use Rattle.term_text.specs.Reading.{separated, comma_in, after_comma, enter, enter_as, atom_marks, string_marks, byte_marks, string_at, byte_of, byte_at, segment_as, segment_at, binary_at, integer_term_at, word_term_at, quoted_atom_at, element_at, tuple_at, list_at, list_end, has_key, pair_at, map_at, form_at, tail_form, term_at, tail_at, sentence_at, sentence_step, text_at}
use Rattle.term_text.proofs.Tokens.{gap_again}
use Rattle.term_text.proofs.Words.{Opens, opening_holds, opening_integer, opening_word, number_again, number_begins, unsigned_sign, word_too_long, each_more, integer_begins, integer_again}
use Rattle.term_text.proofs.Items.{gap_shorter}
use Rattle.term_text.proofs.Shorter.{spelled_shorter, segment_shorter, pair_shorter}
use Rattle.term_text.proofs.Sound.{cell_count-cells}
use Rattle.term_text.proofs.Keys.{put_permutes}
use Rattle.term_text.proofs.Whole.{IsFirst, spelled_first, enter_again, element_again, segment_again, pair_again, spelled_again_term, spelled_again_tail}
use Rattle.term_text.proofs.Texts.{last_comment, sentence_again, step_again}
use Rattle.term_text.proofs.Blames.{opens_none, term_starts, integer_starts, integer_begun, level_of}
use Rattle.term_text.proofs.BlamesTerms.{has_one, is_new}

-- a fault of the first part is a fault of the whole
pub stops : {A B : Type 0} (r : Result A Fault) (f : A → Result B Fault) (e : Fault) → r ≡ Err e → (r >>= f) ≡ Err e
stops r f e h = rw h refl

-- ---- gaps

gap_closed : (text : List ℕ) → EndsGap text → after_gap false text ≡ text
gap_closed [] e = refl
gap_closed (c ∷ cs) e = rw (ne_eqb c percent e.1, e.0) refl

pub gap_is : {text rest : List ℕ} → WholeGap text rest → after_gap false text ≡ rest
gap_is (up_to {text} {rest} g e) = gap_again g ∙ gap_closed rest e
gap_is (to_the_end {text} {rest} g l) = gap_again g ∙ last_comment rest l

gap_less : {text rest : List ℕ} → WholeGap text rest → length rest ≤ length text
gap_less (up_to g e) = gap_shorter g
gap_less (to_the_end g l) = omega arith

-- ---- what the text doesn't begin with

not_behind : (a : ℕ) (text : List ℕ) → ¬ BeginsWith a text → behind a text ≡ None
not_behind a [] h = refl
not_behind a (c ∷ cs) h = rw (ne_eqb c a h) refl

not_expected : (a : ℕ) (text : List ℕ) → ¬ BeginsWith a text → expect a text ≡ Err (causes.Syntax, length text)
not_expected a [] h = refl
not_expected a (c ∷ cs) h = rw (ne_eqb c a h) refl

not_both : (a b x y : ℕ) → ((x ≡ a) × (y ≡ b) → ⊥) → (x == a && y == b) ≡ false
not_both a b x y h = elim (cases_eq x a) [
  | inl e ↦ rw (eq-eqb x a e, ne_eqb y b (λ f. h (e, f))) refl
  | inr n ↦ rw (ne_eqb x a n) refl
]

not_behind_both : (a b : ℕ) (text : List ℕ) → ¬ BeginsWithBoth a b text → after_both a b text ≡ None
not_behind_both a b [] h = refl
not_behind_both a b (x ∷ []) h = refl
not_behind_both a b (x ∷ y ∷ ys) h = rw (not_both a b x y h) refl

not_both_expected : (a b : ℕ) (text : List ℕ) → ¬ BeginsWithBoth a b text → expect_both a b text ≡ Err (causes.Syntax, length text)
not_both_expected a b [] h = refl
not_both_expected a b (x ∷ []) h = refl
not_both_expected a b (x ∷ y ∷ ys) h = rw (not_both a b x y h) refl

no_comma : (text : List ℕ) → ¬ BeginsWith comma text → comma_in text ≡ (false, text)
no_comma [] h = refl
no_comma (c ∷ cs) h = rw (ne_eqb c comma h) refl

-- ---- what follows an item

more_behind : {u v w : List ℕ} → Gap u (comma ∷ v) → WholeGap v w → after_comma u ≡ (true, w)
more_behind {u} {v} {w} g b = ap comma_in (gap_again g) ∙ ap (λ (r : List ℕ). (true, r)) (gap_is b)

bar_behind : {u v : List ℕ} → Gap u (bar ∷ v) → after_comma u ≡ (false, bar ∷ v)
bar_behind g = ap comma_in (gap_again g)

last_behind : {u rest : List ℕ} → WholeGap u rest → ¬ BeginsWith comma rest → after_comma u ≡ (false, rest)
last_behind {u} {rest} g never = ap comma_in (gap_is g) ∙ no_comma rest never

-- what remains after an item and a comma is shorter
next_less : (t : List ℕ) {u v w : List ℕ} (fuel : ℕ) → length u < length t → Gap u (comma ∷ v) → WholeGap v w → length t < suc fuel → length w < fuel
next_less t fuel item g b l = let a = gap_shorter g in let c = gap_less b in omega arith

-- ---- how a term begins

deep_in : (room : ℕ) (text : List ℕ) (o : Option (Opening × List ℕ)) → opening text ≡ o → BeginsTerm text → enter_as 0 room text o ≡ Err (causes.TooDeep, length text)
deep_in room text None e b = absurd (opens_none text e b)
deep_in room text (Some o) e b = refl

enter_deep : (room : ℕ) (text : List ℕ) → BeginsTerm text → enter 0 room text ≡ Err (causes.TooDeep, length text)
unfolding enter
enter_deep room text b = deep_in room text (opening text) refl b

full_in : (n : ℕ) (text : List ℕ) (o : Option (Opening × List ℕ)) → opening text ≡ o → BeginsTerm text → enter_as (suc n) 0 text o ≡ Err (causes.TooLong, length text)
full_in n text None e b = absurd (opens_none text e b)
full_in n text (Some o) e b = rw (ne_eqb (suc n) 0 (λ e. omega arith)) refl

enter_full : (n : ℕ) (text : List ℕ) → BeginsTerm text → enter (suc n) 0 text ≡ Err (causes.TooLong, length text)
unfolding enter
enter_full n text b = full_in n text (opening text) refl b

no_opening_in : (text : List ℕ) (o : Option (Opening × List ℕ)) → opening text ≡ o → ¬ BeginsTerm text → o ≡ None
no_opening_in text None e never = refl
no_opening_in text (Some o) e never = absurd (never (term_starts o.0 text o.1 (rw e at (opening_holds text))))

no_opening : (text : List ℕ) → ¬ BeginsTerm text → opening text ≡ None
no_opening text never = no_opening_in text (opening text) refl never

enter_none : (levels room : ℕ) (text : List ℕ) → ¬ BeginsTerm text → enter levels room text ≡ Err (causes.Syntax, length text)
unfolding enter
enter_none levels room text never = rw (no_opening text never) refl

-- ---- terms

-- what follows the tail of a list
abbrev tail_end : Datum × List ℕ → Read Datum
tail_end x = expect close_bracket (after_gap false x.1) >>= λ rest. Ok (x.0, rest)

-- A term that may be nested this many levels deep stops with this fault. If it is the tail after this many elements of
-- a list, the fault may also be in what follows it.
abbrev pub TermStops : ℕ → ℕ → List ℕ → Fault → Type 0
TermStops n zero text f = (room : ℕ) → 0 < room → term_at n room text ≡ Err f
TermStops n (suc k) text f = (front : List Datum) → length front ≡ suc k → (tail_at n front text >>= tail_end) ≡ Err f

pub deep_stops : (k : ℕ) (text : List ℕ) → BeginsTerm text → TermStops 0 k text (causes.TooDeep, length text)
unfolding term_at tail_at
deep_stops zero text b = λ room some. rw (enter_deep room text b) refl
deep_stops (suc k) text b = λ front len. rw (enter_deep 1 text b) refl

pub none_stops : (n k : ℕ) (text : List ℕ) → ¬ BeginsTerm text → TermStops n k text (causes.Syntax, length text)
unfolding term_at tail_at
none_stops zero zero text never = λ room some. rw (enter_none 0 room text never) refl
none_stops zero (suc k) text never = λ front len. rw (enter_none 0 1 text never) refl
none_stops (suc n) zero text never = λ room some. rw (enter_none (suc n) room text never) refl
none_stops (suc n) (suc k) text never = λ front len. rw (enter_none (suc n) 1 text never) refl

-- where no term begins, reading one stops with a syntax fault, whatever room is left
pub none_alone : (n room : ℕ) (text : List ℕ) → ¬ BeginsTerm text → term_at n room text ≡ Err (causes.Syntax, length text)
unfolding term_at
none_alone zero room text never = rw (enter_none 0 room text never) refl
none_alone (suc n) room text never = rw (enter_none (suc n) room text never) refl

pub deep_alone : (room : ℕ) (text : List ℕ) → BeginsTerm text → term_at 0 room text ≡ Err (causes.TooDeep, length text)
unfolding term_at
deep_alone room text b = rw (enter_deep room text b) refl

pub full_alone : (n room : ℕ) (text : List ℕ) → 0 < n → BeginsTerm text → room ≡ 0 → term_at n room text ≡ Err (causes.TooLong, length text)
unfolding term_at
full_alone zero room text some b none = absurd (omega arith)
full_alone (suc n) room text some b none = rw (none, enter_full n text b) refl

form_stops : (n k : ℕ) (text after : List ℕ) (o : Opening) (f : Fault) → opening text ≡ Some (o, after) → ((front : List Datum) → length front ≡ k → tail_form (term_at n) (tail_at n) n front o after ≡ Err f) → (k ≡ 0 → form_at (term_at n) (tail_at n) n o after ≡ Err f) → TermStops (suc n) k text f
unfolding term_at tail_at
form_stops n zero text after o f e tail form = λ room some. rw (enter_again n room text after o e some) (form refl)
form_stops n (suc k) text after o f e tail form = λ front len. rw (enter_again n 1 text after o e (lit< tt), tail front len) refl

integer_stops : (n k : ℕ) (text : List ℕ) (f : Fault) → opening text ≡ Some (opens.Integer, text) → integer_at text ≡ Err f → TermStops (suc n) k text f
unfolding integer_term_at
integer_stops n k text f o e = form_stops n k text text opens.Integer f o (λ front len. rw e refl) (λ _. rw e refl)

word_stops : (n k c : ℕ) (t : List ℕ) (f : Fault) → is_ascii_lowercase c ≡ true → word_at (c ∷ t) ≡ Err f → TermStops (suc n) k (c ∷ t) f
unfolding word_term_at
word_stops n k c t f l e = form_stops n k (c ∷ t) (c ∷ t) opens.Word f (opening_word c t l) (λ front len. rw e refl) (λ _. rw e refl)

atom_stops : (n k : ℕ) (t : List ℕ) (f : Fault) → quoted_at atom_marks t ≡ Err f → TermStops (suc n) k (single_quote ∷ t) f
unfolding quoted_atom_at
atom_stops n k t f e = form_stops n k (single_quote ∷ t) t opens.QuotedAtom f refl (λ front len. rw e refl) (λ _. rw e refl)

string_stops : (n k : ℕ) (t : List ℕ) (f : Fault) → quoted_at (string_marks n k) t ≡ Err f → TermStops (suc n) k (double_quote ∷ t) f
unfolding string_at
string_stops n k t f e = form_stops n k (double_quote ∷ t) t opens.String f refl (λ front len. rw (len, e) refl) (λ none. let here : quoted_at (string_marks n 0) t ≡ Err f = rw none at e in rw here refl)

tuple_stops : (n k : ℕ) (t : List ℕ) (f : Fault) → tuple_at (term_at n) t ≡ Err f → TermStops (suc n) k (open_brace ∷ t) f
tuple_stops n k t f e = form_stops n k (open_brace ∷ t) t opens.Tuple f refl (λ front len. rw e refl) (λ _. e)

list_stops : (n k : ℕ) (t : List ℕ) (f : Fault) → ((front : List Datum) → length front ≡ k → list_at (term_at n) (tail_at n) front t ≡ Err f) → TermStops (suc n) k (open_bracket ∷ t) f
list_stops n k t f h = form_stops n k (open_bracket ∷ t) t opens.List f refl h (λ none. h [] (sym none))

map_stops : (n k : ℕ) (t : List ℕ) (f : Fault) → map_at (term_at n) t ≡ Err f → TermStops (suc n) k (number_sign ∷ open_brace ∷ t) f
map_stops n k t f e = form_stops n k (number_sign ∷ open_brace ∷ t) t opens.Map f refl (λ front len. rw e refl) (λ _. e)

binary_stops : (n k : ℕ) (t : List ℕ) (f : Fault) → binary_at t ≡ Err f → TermStops (suc n) k (less ∷ less ∷ t) f
binary_stops n k t f e = form_stops n k (less ∷ less ∷ t) t opens.Binary f refl (λ front len. rw e refl) (λ _. e)

-- ---- elements

-- what follows the elements of a row
abbrev row_end : Row → ℕ → List Datum × List ℕ → Read Datum
row_end in_tuple n x = expect close_brace x.1 >>= λ rest. Ok (tuple (items_of x.0), rest)
row_end in_list n x = list_end (tail_at n) x.0 x.1

-- from an element on that follows this many others, the row stops with this fault
abbrev pub RowStops : Row → ℕ → ℕ → List ℕ → Fault → Type 0
RowStops r n k text f =
    (fuel : ℕ) (ds : List Datum) → length ds ≡ k → length text < fuel
    → (steps (separated (element_at (term_at n) (most_elements r))) fuel ds text >>= row_end r n) ≡ Err f

row_goes : (r : Row) (n fuel : ℕ) (ds : List Datum) {t u : List ℕ} {d : Datum} (b : Bool) (w : List ℕ) → length ds < most_elements r → Spelled n t d u → after_comma u ≡ (b, w) → steps (separated (element_at (term_at n) (most_elements r))) (suc fuel) ds t ≡ cond b (steps (separated (element_at (term_at n) (most_elements r))) fuel (ds ++ d ∷ []) w) (Ok (ds ++ d ∷ [], w))
unfolding steps
row_goes r n fuel ds {t} {u} {d} b w room s e =
    let some : 0 < most_elements r - length ds = omega arith in
    rw (element_again n (most_elements r) t u d ds (spelled_again_term s (most_elements r - length ds) some), e) refl

pub element_stops : (r : Row) (n k : ℕ) (t : List ℕ) (f : Fault) → k < most_elements r → TermStops n 0 t f → RowStops r n k t f
unfolding steps element_at
element_stops r n k t f room h zero ds len l = absurd (omega arith)
element_stops r n k t f room h (suc fuel) ds len l =
    let some : 0 < most_elements r - length ds = omega arith in
    rw (h (most_elements r - length ds) some) refl

pub next_element_stops : (r : Row) (n k : ℕ) {t u v w : List ℕ} {d : Datum} (f : Fault) → k < most_elements r → Spelled n t d u → Gap u (comma ∷ v) → WholeGap v w → RowStops r n (suc k) w f → RowStops r n k t f
next_element_stops r n k {t} {u} {v} {w} {d} f room s g b h zero ds len l = absurd (omega arith)
next_element_stops r n k {t} {u} {v} {w} {d} f room s g b h (suc fuel) ds len l =
    let more : length (ds ++ d ∷ []) ≡ suc k = omega (arith, length-append ds (d ∷ [])) in
    rw (row_goes r n fuel ds true w (omega arith) s (more_behind g b)) (h fuel (ds ++ d ∷ []) more (next_less t fuel (spelled_shorter s) g b l))

pub tail_stops : (n k : ℕ) {t u v w : List ℕ} {d : Datum} (f : Fault) → k < list_limit → Spelled n t d u → Gap u (bar ∷ v) → WholeGap v w → TermStops n (suc k) w f → RowStops in_list n k t f
unfolding list_end
tail_stops n k {t} {u} {v} {w} {d} f room s g b h zero ds len l = absurd (omega arith)
tail_stops n k {t} {u} {v} {w} {d} f room s g b h (suc fuel) ds len l =
    let more : length (ds ++ d ∷ []) ≡ suc k = omega (arith, length-append ds (d ∷ [])) in
    rw (row_goes in_list n fuel ds false (bar ∷ v) (omega arith) s (bar_behind g), gap_is b, h (ds ++ d ∷ []) more) refl

row_ends : (r : Row) (n : ℕ) (ds : List Datum) (rest : List ℕ) → ¬ FollowsElement r rest → row_end r n (ds, rest) ≡ Err (causes.Syntax, length rest)
unfolding list_end
row_ends in_tuple n ds rest never = rw (not_expected close_brace rest (λ e. never (inr e))) refl
row_ends in_list n ds rest never = rw (not_behind bar rest (λ e. never (inr (inl e))), not_expected close_bracket rest (λ e. never (inr (inr e)))) refl

comma_follows : (r : Row) (rest : List ℕ) → BeginsWith comma rest → FollowsElement r rest
comma_follows in_tuple rest h = inl h
comma_follows in_list rest h = inl h

pub behind_element_stops : (r : Row) (n k : ℕ) {t u rest : List ℕ} {d : Datum} → k < most_elements r → Spelled n t d u → WholeGap u rest → ¬ FollowsElement r rest → RowStops r n k t (causes.Syntax, length rest)
behind_element_stops r n k {t} {u} {rest} {d} room s g never zero ds len l = absurd (omega arith)
behind_element_stops r n k {t} {u} {rest} {d} room s g never (suc fuel) ds len l =
    rw (row_goes r n fuel ds false rest (omega arith) s (last_behind g (λ h. never (comma_follows r rest h)))) (row_ends r n (ds ++ d ∷ []) rest never)

-- the fault of the reader of an element is a fault of the row
pub at_element : (r : Row) (n k : ℕ) (t : List ℕ) (f : Fault) → ((room : ℕ) → room ≡ most_elements r - k → term_at n room t ≡ Err f) → RowStops r n k t f
unfolding steps element_at
at_element r n k t f h zero ds len l = absurd (omega arith)
at_element r n k t f h (suc fuel) ds len l = rw (h (most_elements r - length ds) (omega arith)) refl

-- what follows the elements of a tuple
abbrev items_end : List Datum × List ℕ → Read (List Datum)
items_end x = expect close_brace x.1 >>= λ rest. Ok (x.0, rest)

abbrev as_tuple : List Datum × List ℕ → Read Datum
as_tuple x = Ok (tuple (items_of x.0), x.1)

-- the fault of a row is the fault of its tuple
closed_stops : (ds : List Datum) (r : Result (List ℕ) Fault) (f : Fault) → (let made : List ℕ → Read Datum = λ rest. as_tuple (ds, rest) in (r >>= made) ≡ Err f) → (let read : List ℕ → Read (List Datum) = λ rest. Ok (ds, rest) in (r >>= read) ≡ Err f)
closed_stops ds (Err e) f h = let same : e ≡ f = cc in rw same refl
closed_stops ds (Ok rest) f h = absurd cc

items_stop : (n : ℕ) (r : Read (List Datum)) (f : Fault) → (r >>= row_end in_tuple n) ≡ Err f → (r >>= items_end) ≡ Err f
items_stop n (Err e) f h = let same : e ≡ f = cc in rw same refl
items_stop n (Ok x) f h = closed_stops x.0 (expect close_brace x.1) f h

pub in_braces_stops : (n k : ℕ) {t u : List ℕ} (f : Fault) → WholeGap t u → ¬ BeginsWith close_brace u → RowStops in_tuple n 0 u f → TermStops (suc n) k (open_brace ∷ t) f
unfolding tuple_at
in_braces_stops n k {t} {u} f g never h =
    let stop = items_stop n (steps (separated (element_at (term_at n) tuple_limit)) (suc (length u)) [] u) f (h (suc (length u)) [] refl (omega arith)) in
    tuple_stops n k t f (rw (gap_is g, not_behind close_brace u never, stop) refl)

pub in_brackets_stops : (n k : ℕ) {t u : List ℕ} (f : Fault) → WholeGap t u → ¬ BeginsWith close_bracket u → RowStops in_list n k u f → TermStops (suc n) k (open_bracket ∷ t) f
unfolding list_at
in_brackets_stops n k {t} {u} f g never h = list_stops n k t f (λ front len. rw (gap_is g, not_behind close_bracket u never) (h (suc (length u)) front len (omega arith)))

-- ---- pairs

-- what follows the pairs
abbrev pairs_end : List (Datum × Datum) × List ℕ → Read (List (Datum × Datum))
pairs_end x = expect close_brace x.1 >>= λ rest. Ok (x.0, rest)

-- from a pair on that follows these, the map stops with this fault
abbrev pub PairsStop : ℕ → List (Datum × Datum) → List ℕ → Fault → Type 0
PairsStop n seen text f =
    (fuel : ℕ) (es : List (Datum × Datum)) → IsPermutation es seen → length text < fuel
    → (steps (separated (pair_at (term_at n))) fuel es text >>= pairs_end) ≡ Err f

fresh_in : (k : Datum) (es seen : List (Datum × Datum)) → IsPermutation es seen → IsNew k seen → has_key k es ≡ false
fresh_in k es seen p new = elim (cases_Bool (has_key k es)) [
  | inl h ↦ let one = has_one k es h in absurd (new one.0 (Contains-permutation es seen (k, one.0) p one.1))
  | inr none ↦ none
]

there_in : (k v : Datum) (es seen : List (Datum × Datum)) → IsPermutation es seen → Contains seen (k, v) → has_key k es ≡ true
there_in k v es seen p c = elim (cases_Bool (has_key k es)) [
  | inl h ↦ h
  | inr none ↦ absurd (is_new k es seen p none v c)
]

room_for : (es seen : List (Datum × Datum)) → IsPermutation es seen → length seen < map_limit → 0 < map_limit - length es
room_for es seen p room = let len = length_permutation es seen p in omega arith

pub in_map_stops : (n k : ℕ) {t u : List ℕ} (f : Fault) → WholeGap t u → ¬ BeginsWith close_brace u → PairsStop n [] u f → TermStops (suc n) k (number_sign ∷ open_brace ∷ t) f
unfolding map_at
in_map_stops n k {t} {u} f g never h = map_stops n k t f (rw (gap_is g, not_behind close_brace u never, h (suc (length u)) [] (IsPermutation-refl []) (omega arith)) refl)

-- the fault of the reader of a key is a fault of the map
pub at_pair : (n : ℕ) (seen : List (Datum × Datum)) (t : List ℕ) (f : Fault) → ((room : ℕ) → room ≡ map_limit - length seen → term_at n room t ≡ Err f) → PairsStop n seen t f
unfolding steps pair_at
at_pair n seen t f h zero es p l = absurd (omega arith)
at_pair n seen t f h (suc fuel) es p l = let len = length_permutation es seen p in rw (h (map_limit - length es) (omega arith)) refl

pub key_stops : (n : ℕ) (seen : List (Datum × Datum)) (t : List ℕ) (f : Fault) → length seen < map_limit → TermStops n 0 t f → PairsStop n seen t f
key_stops n seen t f room h = at_pair n seen t f (λ left e. h left (omega arith))

pub twice_stops : (n : ℕ) (seen : List (Datum × Datum)) {t u : List ℕ} {k v : Datum} → length seen < map_limit → Spelled n t k u → Contains seen (k, v) → PairsStop n seen t (causes.DuplicateKey, length t)
unfolding steps pair_at
twice_stops n seen {t} {u} {k} {v} room s c zero es p l = absurd (omega arith)
twice_stops n seen {t} {u} {k} {v} room s c (suc fuel) es p l =
    rw (spelled_again_term s (map_limit - length es) (room_for es seen p room), there_in k v es seen p c) refl

pub value_stops : (n : ℕ) (seen : List (Datum × Datum)) {t u v w : List ℕ} {k : Datum} (f : Fault) → length seen < map_limit → IsNew k seen → Spelled n t k u → Gap u (equals ∷ greater ∷ v) → WholeGap v w → TermStops n 0 w f → PairsStop n seen t f
unfolding steps pair_at
value_stops n seen {t} {u} {v} {w} {k} f room new s g b h zero es p l = absurd (omega arith)
value_stops n seen {t} {u} {v} {w} {k} f room new s g b h (suc fuel) es p l =
    rw (spelled_again_term s (map_limit - length es) (room_for es seen p room), fresh_in k es seen p new, gap_again g, gap_is b, h 1 (lit< tt)) refl

pub behind_key_stops : (n : ℕ) (seen : List (Datum × Datum)) {t u rest : List ℕ} {k : Datum} → length seen < map_limit → IsNew k seen → Spelled n t k u → WholeGap u rest → ¬ BeginsWithBoth equals greater rest → PairsStop n seen t (causes.Syntax, length rest)
unfolding steps pair_at
behind_key_stops n seen {t} {u} {rest} {k} room new s g never zero es p l = absurd (omega arith)
behind_key_stops n seen {t} {u} {rest} {k} room new s g never (suc fuel) es p l =
    rw (spelled_again_term s (map_limit - length es) (room_for es seen p room), fresh_in k es seen p new, gap_is g, not_both_expected equals greater rest never) refl

pair_goes : (n fuel : ℕ) (es seen : List (Datum × Datum)) {t u : List ℕ} {key value : Datum} (b : Bool) (w : List ℕ) → IsPermutation es seen → length seen < map_limit → IsNew key seen → Pair n t key value u → after_comma u ≡ (b, w) → steps (separated (pair_at (term_at n))) (suc fuel) es t ≡ cond b (steps (separated (pair_at (term_at n))) fuel (insert_entry datum_cmp es key value) w) (Ok (insert_entry datum_cmp es key value, w))
unfolding steps
pair_goes n fuel es seen {t} {u} {key} {value} b w p room new s e =
    rw (pair_again s es (fresh_in key es seen p new) (room_for es seen p room), e) refl

pub next_pair_stops : (n : ℕ) (seen : List (Datum × Datum)) {t u v w : List ℕ} {key value : Datum} (f : Fault) → length seen < map_limit → IsNew key seen → Pair n t key value u → Gap u (comma ∷ v) → WholeGap v w → PairsStop n ((key, value) ∷ seen) w f → PairsStop n seen t f
next_pair_stops n seen {t} {u} {v} {w} {key} {value} f room new s g b h zero es p l = absurd (omega arith)
next_pair_stops n seen {t} {u} {v} {w} {key} {value} f room new s g b h (suc fuel) es p l =
    let put = put_permutes key value es (fresh_in key es seen p new) in
    let made = insert_entry datum_cmp es key value in
    let permuted : IsPermutation made ((key, value) ∷ seen) = IsPermutation-trans made ((key, value) ∷ es) ((key, value) ∷ seen) (IsPermutation-sym ((key, value) ∷ es) made put) (IsPermutation-cons (key, value) es seen p) in
    rw (pair_goes n fuel es seen true w p room new s (more_behind g b)) (h fuel made permuted (next_less t fuel (pair_shorter s) g b l))

pub behind_pair_stops : (n : ℕ) (seen : List (Datum × Datum)) {t u rest : List ℕ} {key value : Datum} → length seen < map_limit → IsNew key seen → Pair n t key value u → WholeGap u rest → ¬ BeginsWith comma rest → ¬ BeginsWith close_brace rest → PairsStop n seen t (causes.Syntax, length rest)
behind_pair_stops n seen {t} {u} {rest} {key} {value} room new s g more end zero es p l = absurd (omega arith)
behind_pair_stops n seen {t} {u} {rest} {key} {value} room new s g more end (suc fuel) es p l =
    rw (pair_goes n fuel es seen false rest p room new s (last_behind g more), not_expected close_brace rest end) refl

-- ---- segments

-- what follows the segments
abbrev segments_end : List ℕ × List ℕ → Read (List ℕ)
segments_end x = expect_both greater greater x.1 >>= λ rest. Ok (x.0, rest)

-- from a segment on that follows this many bytes, the binary stops with this fault
abbrev pub SegmentsStop : ℕ → List ℕ → Fault → Type 0
SegmentsStop k text f =
    (fuel : ℕ) (bytes : List ℕ) → length bytes ≡ k → length text < fuel
    → (steps (separated segment_at) fuel bytes text >>= segments_end) ≡ Err f

pub in_binary_stops : (n k : ℕ) {t u : List ℕ} (f : Fault) → WholeGap t u → ¬ BeginsWithBoth greater greater u → SegmentsStop 0 u f → TermStops (suc n) k (less ∷ less ∷ t) f
unfolding binary_at
in_binary_stops n k {t} {u} f g never h = binary_stops n k t f (rw (gap_is g, not_behind_both greater greater u never, h (suc (length u)) [] refl (omega arith)) refl)

segment_goes : (fuel : ℕ) (bytes : List ℕ) {t u bs : List ℕ} (b : Bool) (w : List ℕ) → length bytes + length bs ≤ binary_limit → Segment t bs u → after_comma u ≡ (b, w) → steps (separated segment_at) (suc fuel) bytes t ≡ cond b (steps (separated segment_at) fuel (bytes ++ bs) w) (Ok (bytes ++ bs, w))
unfolding steps
segment_goes fuel bytes {t} {u} {bs} b w room s e = rw (segment_again s bytes room, e) refl

pub next_segment_stops : (k : ℕ) {t u v w bs : List ℕ} (f : Fault) → Segment t bs u → k + length bs ≤ binary_limit → Gap u (comma ∷ v) → WholeGap v w → SegmentsStop (k + length bs) w f → SegmentsStop k t f
next_segment_stops k {t} {u} {v} {w} {bs} f s room g b h zero bytes len l = absurd (omega arith)
next_segment_stops k {t} {u} {v} {w} {bs} f s room g b h (suc fuel) bytes len l =
    let more : length (bytes ++ bs) ≡ k + length bs = omega (arith, length-append bytes bs) in
    rw (segment_goes fuel bytes true w (omega arith) s (more_behind g b)) (h fuel (bytes ++ bs) more (next_less t fuel (segment_shorter s) g b l))

pub behind_segment_stops : (k : ℕ) {t u rest bs : List ℕ} → Segment t bs u → k + length bs ≤ binary_limit → WholeGap u rest → ¬ BeginsWith comma rest → ¬ BeginsWithBoth greater greater rest → SegmentsStop k t (causes.Syntax, length rest)
behind_segment_stops k {t} {u} {rest} {bs} s room g more end zero bytes len l = absurd (omega arith)
behind_segment_stops k {t} {u} {rest} {bs} s room g more end (suc fuel) bytes len l =
    rw (segment_goes fuel bytes false rest (omega arith) s (last_behind g more), not_both_expected greater greater rest end) refl

-- the fault of the reader of a segment is a fault of the binary
pub at_segment : (k : ℕ) (t : List ℕ) (f : Fault) → ((bytes : List ℕ) → length bytes ≡ k → segment_at bytes t ≡ Err f) → SegmentsStop k t f
unfolding steps
at_segment k t f h zero bytes len l = absurd (omega arith)
at_segment k t f h (suc fuel) bytes len l = rw (h bytes len) refl

integer_opens : (text : List ℕ) → BeginsInteger text → opening text ≡ Some (opens.Integer, text)
integer_opens text i = opening_integer text (integer_begun i)

pub full_segment : (t : List ℕ) (bytes : List ℕ) → length bytes ≡ binary_limit → BeginsInteger t → segment_at bytes t ≡ Err (causes.TooLong, length t)
unfolding segment_at
full_segment t bytes full i = rw (integer_opens t i, eq-eqb (length bytes) binary_limit full) refl

pub byte_stops : (t : List ℕ) (bytes : List ℕ) (f : Fault) → opening t ≡ Some (opens.Integer, t) → length bytes < binary_limit → byte_at t ≡ Err f → segment_at bytes t ≡ Err f
unfolding segment_at
byte_stops t bytes f o room e = rw (o, ne_eqb (length bytes) binary_limit (λ full. omega arith), e) refl

pub in_bytes_stops : (k : ℕ) (t : List ℕ) (f : Fault) → quoted_at (byte_marks k) t ≡ Err f → SegmentsStop k (double_quote ∷ t) f
unfolding segment_at
in_bytes_stops k t f e = at_segment k (double_quote ∷ t) f (λ bytes len. rw (len, e) refl)

other_segment : (bytes t rest : List ℕ) (o : Opening) → Opens o t rest → ¬ BeginsInteger t → ¬ BeginsWith double_quote t → segment_as (Some (o, rest)) bytes t ≡ Err (causes.Syntax, length t)
other_segment bytes t rest opens.Integer h never quote = absurd (never (integer_starts t h.1))
other_segment bytes t rest opens.String h never quote = absurd (quote (rw h refl))
other_segment bytes t rest opens.Word h never quote = refl
other_segment bytes t rest opens.QuotedAtom h never quote = refl
other_segment bytes t rest opens.Tuple h never quote = refl
other_segment bytes t rest opens.List h never quote = refl
other_segment bytes t rest opens.Map h never quote = refl
other_segment bytes t rest opens.Binary h never quote = refl

no_segment_in : (bytes t : List ℕ) (o : Option (Opening × List ℕ)) → IfSome o (λ o. Opens o.0 t o.1) → ¬ BeginsInteger t → ¬ BeginsWith double_quote t → segment_as o bytes t ≡ Err (causes.Syntax, length t)
no_segment_in bytes t None h never quote = refl
no_segment_in bytes t (Some o) h never quote = other_segment bytes t o.1 o.0 h never quote

pub no_segment_stops : (bytes t : List ℕ) → ¬ BeginsInteger t → ¬ BeginsWith double_quote t → segment_at bytes t ≡ Err (causes.Syntax, length t)
unfolding segment_at
no_segment_stops bytes t never quote = no_segment_in bytes t (opening t) (opening_holds t) never quote

-- ---- integers

wide_stops : (t : List ℕ) → IsWide t → integer_at t ≡ Err (causes.IntegerRange, length t)
unfolding integer_at
wide_stops t (wide n l) = rw (unsigned_sign t (number_begins n), number_again n, lt-leb _ _ l) refl
wide_stops t (wide_positive n l) = rw (number_again n, lt-leb _ _ l) refl
wide_stops t (wide_negative n l) = rw (number_again n, lt-leb _ _ l) refl

digits_open : (text : List ℕ) → begins is_ascii_digit text ≡ true → opening text ≡ Some (opens.Integer, text)
digits_open [] b = absurd cc
digits_open (c ∷ cs) b = rw b refl

sign_opens : (s : ℕ) (text : List ℕ) → is_ascii_digit s ≡ false → is_sign s ≡ true → begins is_ascii_digit text ≡ true → opening (s ∷ text) ≡ Some (opens.Integer, s ∷ text)
sign_opens s text n e b = rw (n, e, b) refl

pub wide_opens : (t : List ℕ) → IsWide t → opening t ≡ Some (opens.Integer, t)
wide_opens t (wide n l) = digits_open t (number_begins n)
wide_opens t (wide_positive {text} n l) = sign_opens plus text refl refl (number_begins n)
wide_opens t (wide_negative {text} n l) = sign_opens minus text refl refl (number_begins n)

-- an integer that is too wide stops a term if a level is left
pub wide_term_stops : (n k : ℕ) (t : List ℕ) → 0 < n → IsWide t → TermStops n k t (causes.IntegerRange, length t)
wide_term_stops zero k t some w = absurd (omega arith)
wide_term_stops (suc n) k t some w = integer_stops n k t (causes.IntegerRange, length t) (wide_opens t w) (wide_stops t w)

byte_of_stops : (z : ℤ) (t : List ℕ) → IsNoByte z → byte_of z t ≡ Err (causes.IntegerRange, length t)
byte_of_stops (pos b) t n = rw (le-ltb b 256 (omega arith)) refl
byte_of_stops (negsuc b) t n = refl

pub no_byte_opens : {z : ℤ} {t rest : List ℕ} → Integer t z rest → opening t ≡ Some (opens.Integer, t)
no_byte_opens {z} {t} {rest} i = opening_integer t (integer_begins i)

pub no_byte_stops : {z : ℤ} {t rest : List ℕ} → Integer t z rest → IsNoByte z → byte_at t ≡ Err (causes.IntegerRange, length t)
unfolding byte_at
no_byte_stops {z} {t} {rest} i n = rw (integer_again i, byte_of_stops z t n) refl

pub wide_byte : (t : List ℕ) → IsWide t → byte_at t ≡ Err (causes.IntegerRange, length t)
unfolding byte_at
wide_byte t w = rw (wide_stops t w) refl

-- ---- quotes

-- marks are those of quotes that continue this number of characters
pub record AreMarks (q : Quotes) (before : ℕ) (m : Marks) : Type 0 where
  pub mark : m.mark ≡ mark_of q
  pub room : HasLevel q → m.room ≡ most_characters q - before
  pub past : HasLevel q → m.past ≡ causes.TooLong
  pub deep : ¬ HasLevel q → (m.room ≡ 0) × (m.past ≡ causes.TooDeep)
  pub stands : (c : ℕ) → MayStand q c → is_allowed m.only_bytes c ≡ true
  pub bytes : q ≡ of_bytes → m.only_bytes ≡ true

pub atom_marked : AreMarks of_atom 0 atom_marks
atom_marked = record {
  mark = refl;
  room = λ _. refl;
  past = λ _. refl;
  deep = λ never. absurd (never tt);
  stands = λ c h. refl;
  bytes = λ never. absurd cc;
}

pub bytes_marked : (before : ℕ) → AreMarks of_bytes before (byte_marks before)
bytes_marked before = record {
  mark = refl;
  room = λ _. refl;
  past = λ _. refl;
  deep = λ never. absurd (never tt);
  stands = λ c h. le-leb c 255 (omega arith);
  bytes = λ _. refl;
}

pub string_marked : (levels before : ℕ) → AreMarks (of_string levels) before (string_marks levels before)
string_marked zero before = record {
  mark = refl;
  room = λ none. absurd (omega arith);
  past = λ none. absurd (omega arith);
  deep = λ never. (refl, refl);
  stands = λ c h. refl;
  bytes = λ never. absurd cc;
}
string_marked (suc n) before =
    let some : (suc n == 0) ≡ false = ne_eqb (suc n) 0 (λ z. omega arith) in
    record {
      mark = refl;
      room = λ _. rw some refl;
      past = λ _. rw some refl;
      deep = λ never. absurd (never (omega arith));
      stands = λ c h. refl;
      bytes = λ never. absurd cc;
    }

-- from a character on that follows this many others, the quotes stop with this fault
abbrev pub QuotesStop : Quotes → ℕ → List ℕ → Fault → Type 0
QuotesStop q k text f =
    (m : Marks) (before fuel : ℕ) (cs : List ℕ) → AreMarks q before m → before + length cs ≡ k → length cs ≤ m.room
    → length text < fuel → steps (quoted_step m) fuel cs text ≡ Err f

pub quoted_stops : (q : Quotes) (m : Marks) (k : ℕ) (t : List ℕ) (f : Fault) → AreMarks q k m → QuotesStop q k t f → quoted_at m t ≡ Err f
quoted_stops q m k t f a h = h m k (suc (length t)) [] a (omega arith) (omega arith) (omega arith)

mark_no_escape : (q : Quotes) → mark_of q ≢ backslash
mark_no_escape of_atom e = absurd (omega (arith, e))
mark_no_escape (of_string levels) e = absurd (omega (arith, e))
mark_no_escape of_bytes e = absurd (omega (arith, e))

-- there is room for one more after fewer characters than the limit
fewer : (q : Quotes) (before k : ℕ) (m : Marks) (cs : List ℕ) → AreMarks q before m → HasLevel q → before + length cs ≡ k → k < most_characters q → length cs < m.room
fewer q before k m cs a level len room = let r = a.room level in omega arith

one_further : (cs : List ℕ) (x room : ℕ) → length cs < room → length (cs ++ x ∷ []) ≤ room
one_further cs x room l = omega (arith, length-append cs (x ∷ []))

pub behind_plain_stops : (q : Quotes) (k c : ℕ) (t : List ℕ) (f : Fault) → c ≢ mark_of q → c ≢ backslash → k < most_characters q → MayStand q c → QuotesStop q (suc k) t f → QuotesStop q k (c ∷ t) f
unfolding steps quoted_step next_quoted character_at
behind_plain_stops q k c t f n b room s h m before zero cs a len few l = absurd (omega arith)
behind_plain_stops q k c t f n b room s h m before (suc fuel) cs a len few l =
    let less : length cs < m.room = fewer q before k m cs a (level_of q c s) len room in
    let other : (c == m.mark) ≡ false = ne_eqb c m.mark (λ e. n (e ∙ a.mark)) in
    let full : (length cs == m.room) ≡ false = ne_eqb (length cs) m.room (λ e. omega arith) in
    rw (other, full, ne_eqb c backslash b, a.stands c s)
    (h m before fuel (cs ++ c ∷ []) a (omega (arith, length-append cs (c ∷ []))) (one_further cs c m.room less) (omega arith))

pub behind_escape_stops : (q : Quotes) (k e c : ℕ) (t : List ℕ) (f : Fault) → escaped e ≡ Some c → k < most_characters q → MayStand q c → QuotesStop q (suc k) t f → QuotesStop q k (backslash ∷ e ∷ t) f
unfolding steps quoted_step next_quoted character_at
behind_escape_stops q k e c t f x room s h m before zero cs a len few l = absurd (omega arith)
behind_escape_stops q k e c t f x room s h m before (suc fuel) cs a len few l =
    let less : length cs < m.room = fewer q before k m cs a (level_of q c s) len room in
    let other : (backslash == m.mark) ≡ false = ne_eqb backslash m.mark (λ b. mark_no_escape q (sym (b ∙ a.mark))) in
    let full : (length cs == m.room) ≡ false = ne_eqb (length cs) m.room (λ e. omega arith) in
    rw (other, full, x)
    (h m before fuel (cs ++ c ∷ []) a (omega (arith, length-append cs (c ∷ []))) (one_further cs c m.room less) (omega arith))

-- the fault of the reader of the next character is a fault of the quotes
at_character : (q : Quotes) (k : ℕ) (t : List ℕ) (f : Fault) → ((m : Marks) (before : ℕ) (cs : List ℕ) → AreMarks q before m → before + length cs ≡ k → length cs ≤ m.room → next_quoted m (length cs) t ≡ Err f) → QuotesStop q k t f
unfolding steps quoted_step
at_character q k t f h m before zero cs a len few l = absurd (omega arith)
at_character q k t f h m before (suc fuel) cs a len few l = rw (h m before cs a len few) refl

pub no_character_stops : (q : Quotes) (k : ℕ) → QuotesStop q k [] (causes.Syntax, 0)
unfolding next_quoted
no_character_stops q k = at_character q k [] (causes.Syntax, 0) (λ m before cs a len few. refl)

pub no_escaped_stops : (q : Quotes) (k : ℕ) → k < most_characters q → MayStand q backslash → QuotesStop q k (backslash ∷ []) (causes.Syntax, 0)
unfolding next_quoted character_at
no_escaped_stops q k room s =
    at_character q k (backslash ∷ []) (causes.Syntax, 0) (λ m before cs a len few.
    let less : length cs < m.room = fewer q before k m cs a (level_of q backslash s) len room in
    rw (ne_eqb backslash m.mark (λ b. mark_no_escape q (sym (b ∙ a.mark))), ne_eqb (length cs) m.room (λ e. omega arith)) refl)

pub no_escape_stops : (q : Quotes) (k e : ℕ) (t : List ℕ) → k < most_characters q → HasLevel q → escaped e ≡ None → QuotesStop q k (backslash ∷ e ∷ t) (causes.UnsupportedEscape, length (backslash ∷ e ∷ t))
unfolding next_quoted character_at
no_escape_stops q k e t room level x =
    at_character q k (backslash ∷ e ∷ t) (causes.UnsupportedEscape, length (backslash ∷ e ∷ t)) (λ m before cs a len few.
    let less : length cs < m.room = fewer q before k m cs a level len room in
    rw (ne_eqb backslash m.mark (λ b. mark_no_escape q (sym (b ∙ a.mark))), ne_eqb (length cs) m.room (λ e. omega arith), x) refl)

pub no_byte_character_stops : (k c : ℕ) (t : List ℕ) → k < binary_limit → 255 < c → QuotesStop of_bytes k (c ∷ t) (causes.IntegerRange, length (c ∷ t))
unfolding next_quoted character_at
no_byte_character_stops k c t room past =
    at_character of_bytes k (c ∷ t) (causes.IntegerRange, length (c ∷ t)) (λ m before cs a len few.
    let less : length cs < m.room = fewer of_bytes before k m cs a tt len room in
    let mark = a.mark in
    rw (ne_eqb c m.mark (λ b. omega arith), ne_eqb (length cs) m.room (λ e. omega arith), ne_eqb c backslash (λ b. omega arith), a.bytes refl, lt-leb c 255 past) refl)

pub one_character_stops : (q : Quotes) (k c : ℕ) (t : List ℕ) → HasLevel q → k ≡ most_characters q → c ≢ mark_of q → QuotesStop q k (c ∷ t) (causes.TooLong, length (c ∷ t))
unfolding next_quoted
one_character_stops q k c t level full n =
    at_character q k (c ∷ t) (causes.TooLong, length (c ∷ t)) (λ m before cs a len few.
    let room = a.room level in
    rw (ne_eqb c m.mark (λ e. n (e ∙ a.mark)), eq-eqb (length cs) m.room (omega arith), a.past level) refl)

pub deep_character_stops : (k c : ℕ) (t : List ℕ) → c ≢ double_quote → QuotesStop (of_string 0) k (c ∷ t) (causes.TooDeep, length (c ∷ t))
unfolding next_quoted
deep_character_stops k c t n =
    at_character (of_string 0) k (c ∷ t) (causes.TooDeep, length (c ∷ t)) (λ m before cs a len few.
    let deep = a.deep (λ some. omega arith) in
    let room = deep.0 in
    rw (ne_eqb c m.mark (λ e. n (e ∙ a.mark)), eq-eqb (length cs) m.room (omega arith), deep.1) refl)

pub in_atom_stops : (n k : ℕ) (t : List ℕ) (f : Fault) → QuotesStop of_atom 0 t f → TermStops (suc n) k (single_quote ∷ t) f
in_atom_stops n k t f h = atom_stops n k t f (quoted_stops of_atom atom_marks 0 t f atom_marked h)

pub in_string_stops : (n k : ℕ) (t : List ℕ) (f : Fault) → QuotesStop (of_string n) k t f → TermStops (suc n) k (double_quote ∷ t) f
in_string_stops n k t f h = string_stops n k t f (quoted_stops (of_string n) (string_marks n k) k t f (string_marked n k) h)

pub in_segment_stops : (k : ℕ) (t : List ℕ) (f : Fault) → QuotesStop of_bytes k t f → SegmentsStop k (double_quote ∷ t) f
in_segment_stops k t f h = in_bytes_stops k t f (quoted_stops of_bytes (byte_marks k) k t f (bytes_marked k) h)

-- ---- bare words

-- from a letter on that follows this many others, the word stops with this fault
abbrev pub WordStops : ℕ → List ℕ → Fault → Type 0
WordStops k text f = (front : List ℕ) → length front ≡ k → AllByRecursion (λ c. is_word c ≡ true) front → word_at (front ++ text) ≡ Err f

pub in_word_stops : (n k c : ℕ) (t : List ℕ) (f : Fault) → is_ascii_lowercase c ≡ true → WordStops 0 (c ∷ t) f → TermStops (suc n) k (c ∷ t) f
in_word_stops n k c t f l h = word_stops n k c t f l (h [] refl tt)

pub next_letter_stops : (k c : ℕ) (t : List ℕ) (f : Fault) → is_word c ≡ true → WordStops (suc k) t f → WordStops k (c ∷ t) f
next_letter_stops k c t f w h front len all =
    rw append_assoc at (h (front ++ c ∷ []) (omega (arith, length-append front (c ∷ []))) (each_more front c all w))

pub one_letter_stops : (k c : ℕ) (t : List ℕ) → k ≡ atom_limit → is_word c ≡ true → WordStops k (c ∷ t) (causes.TooLong, length (c ∷ t))
one_letter_stops k c t full w front len all =
    word_too_long (front ++ c ∷ t) front (c ∷ t) c t (record { whole = refl; each = all; few = omega arith }) refl w (omega arith)

-- ---- sentences

-- from a sentence on, the text stops with this fault
abbrev pub SentencesStop : List ℕ → Fault → Type 0
SentencesStop text f = (fuel : ℕ) (ds : List Datum) → length text < fuel → steps sentence_step fuel ds text ≡ Err f

pub text_stops : {t u : List ℕ} (f : Fault) → WholeGap t u → SentencesStop u f → text_at t ≡ Err f
unfolding text_at
text_stops {t} {u} f g h = rw (gap_is g, h (suc (length u)) [] (omega arith)) refl

pub behind_dot_stops : {t u v w : List ℕ} {d : Datum} (f : Fault) → Spelled depth_limit t d u → Gap u (dot ∷ v) → BeginsGap v → WholeGap v w → SentencesStop w f → SentencesStop t f
unfolding steps
behind_dot_stops {t} {u} {v} {w} {d} f s g b x h zero ds l = absurd (omega arith)
behind_dot_stops {t} {u} {v} {w} {d} f s g b x h (suc fuel) ds l =
    let shorter : length w < fuel = let a = spelled_shorter s in let c = gap_shorter g in let e = gap_less x in omega arith in
    rw (step_again ds t v d (spelled_first s) (sentence_again t v d s g b), gap_is x) (h fuel (ds ++ d ∷ []) shorter)

-- the fault of the reader of a sentence is a fault of the text
pub at_sentence : (c : ℕ) (t : List ℕ) (f : Fault) → sentence_at (c ∷ t) ≡ Err f → SentencesStop (c ∷ t) f
unfolding steps sentence_step
at_sentence c t f h zero ds l = absurd (omega arith)
at_sentence c t f h (suc fuel) ds l = rw h refl

pub outermost_stops : (c : ℕ) (t : List ℕ) (f : Fault) → TermStops depth_limit 0 (c ∷ t) f → SentencesStop (c ∷ t) f
unfolding sentence_at
outermost_stops c t f h = at_sentence c t f (rw (h 1 (lit< tt)) refl)

no_gap_begins : (rest : List ℕ) → ¬ BeginsGap rest → begins_gap rest ≡ false
no_gap_begins [] never = absurd (never tt)
no_gap_begins (c ∷ cs) never =
    or_from (is_white_space c) (c == percent) (false_from_ne_true (is_white_space c) (λ w. never (inl w))) (ne_eqb c percent (λ p. never (inr p)))

dot_stops : (rest : List ℕ) → ¬ BeginsDot rest → dot_at rest ≡ Err (causes.Syntax, length rest)
dot_stops [] never = refl
dot_stops (c ∷ cs) never = elim (cases_eq c dot) [
  | inl e ↦ rw (eq-eqb c dot e, no_gap_begins cs (λ b. never (e, b))) refl
  | inr n ↦ rw (ne_eqb c dot n) refl
]

no_dot_at : {t u rest : List ℕ} {d : Datum} → Spelled depth_limit t d u → WholeGap u rest → ¬ BeginsDot rest → sentence_at t ≡ Err (causes.Syntax, length rest)
unfolding sentence_at
no_dot_at {t} {u} {rest} {d} s g never = rw (spelled_again_term s 1 (lit< tt), gap_is g, dot_stops rest never) refl

no_dot_in : (t : List ℕ) (f : Fault) → IsFirst t → sentence_at t ≡ Err f → SentencesStop t f
no_dot_in [] f first e = absurd first
no_dot_in (c ∷ cs) f first e = at_sentence c cs f e

pub no_dot_stops : {t u rest : List ℕ} {d : Datum} → Spelled depth_limit t d u → WholeGap u rest → ¬ BeginsDot rest → SentencesStop t (causes.Syntax, length rest)
no_dot_stops {t} {u} {rest} {d} s g never = no_dot_in t (causes.Syntax, length rest) (spelled_first s) (no_dot_at s g never)

-- ---- after a tail

tail_again : (n k : ℕ) (front : List Datum) {t u : List ℕ} {d : Datum} → length front ≡ suc k → Spelled n t d u → suc k + cell_count d ≤ list_limit → tail_at n front t ≡ Ok (cells front d, u)
tail_again n k front {t} {u} {d} len s room = spelled_again_tail s front (let c = cell_count-cells front d in omega arith)

pub behind_tail_stops : (n k : ℕ) {t u rest : List ℕ} {d : Datum} → Spelled n t d u → suc k + cell_count d ≤ list_limit → WholeGap u rest → ¬ BeginsWith close_bracket rest → TermStops n (suc k) t (causes.Syntax, length rest)
behind_tail_stops n k {t} {u} {rest} {d} s room g never = λ front len. rw (tail_again n k front len s room, gap_is g, not_expected close_bracket rest never) refl
