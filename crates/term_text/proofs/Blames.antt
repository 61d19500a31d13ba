-- A reader that stops names the cause that is at the place where it stops: steps and tokens.
use Rattle.std.proofs.Common.{◌≡◌, ◌≢◌, ◌&&◌, ℕ, zero, suc, ◌+◌, ◌≤◌, ◌<◌, ◌⊎◌, inl, inr, Bool, true, false, cond, List, [], ◌∷◌, ◌++◌, length, drop, Option, Some, None, Result, Ok, Err, ℤ, pos, negsuc, refl, sym, ◌∙◌, arith, one-add}
use Rattle.std.specs.Prelude.{IfOk, IfErr, IfSome, ◌==◌, nat_lt}
use Rattle.std.specs.List.{prefix_len}
use Rattle.std.specs.Char.{is_ascii_lowercase}
use Rattle.std.proofs.lemmas.Bool.{eqb-true, eqb-false, eq-eqb, ne_eqb, leb-true, leb-false, ltb-true, ltb-false, cases_Bool, or_cases}
use Rattle.std.proofs.lemmas.List.{length-append}
use Rattle.term_core.specs.declared.TheConstants.{MAX_CHARACTERS, MAX_LIST, MAX_BINARY}
use Rattle.term_text.specs.Character.{line_feed, percent, plus, minus, comma, backslash, is_white_space, is_word, escaped}
use Rattle.term_text.specs.declared.stop.Cause.TheVariants as causes
use Rattle.term_text.specs.declared.token.Marks.{Marks}
use Rattle.term_text.specs.declared.token.Opening.{Opening}
use Rattle.term_text.specs.declared.token.Opening.TheVariants as opens
use Rattle.term_text.specs.Tokens.{Gap, Integer}
use Rattle.term_text.specs.Causes.{Due as due, Due, Quotes, mark_of, most_characters, HasLevel, MayStand, EndsGap, WholeGap, BeginsInteger, BeginsTerm, IsTooDeep, IsTooLong, IsKeyTwice, IsWide, IsOutOfRange, IsNoEscape, BeginsWith, BeginsWithBoth, IsUnexpected}
use Rattle.term_text.specs.Causes.WholeGap.{up_to, to_the_end}
use Rattle.term_text.specs.Causes.IsUnexpected.{no_character, no_escaped}
use Rattle.term_text.specs.Causes.Place.{a_term, a_segment, a_character, a_letter}
use Rattle.term_text.specs.Causes.Quotes.{of_atom, of_string, of_bytes}
use Rattle.term_text.specs.Causes.BeginsInteger.{digit, sign}
use Rattle.term_text.specs.Causes.{BeginsTerm as begins_term}
use Rattle.term_text.specs.Causes.IsTooDeep.{deep_character}
use Rattle.term_text.specs.Causes.IsTooLong.{one_character, one_letter}
use Rattle.term_text.specs.Causes.IsWide.{wide, wide_positive, wide_negative}
use Rattle.term_text.specs.Causes.IsOutOfRange.{wide_segment, no_byte, no_byte_character}
use Rattle.term_text.specs.Causes.IsNoEscape.{no_escape}
use Rattle.term_text.specs.TokenReading.{Fault, Read, ◌>>=◌, Step, steps, all_steps, after_gap, expect, expect_both, opening, is_sign, fits, number_run, number_at, integer_at, word_at, is_allowed, escape_as, escape_at, character_at, next_quoted, pushed, quoted_step, quoted_at}
use Rattle.term_text.specs.Reading.{separated, comma_in, after_comma, enter, enter_as, byte_of, byte_at, string_marks, byte_marks, atom_marks}
use Rattle.term_text.proofs.Steps.{bind_holds, if_holds, holds_from, weaker, Hands, steps_hold, Shrinks}
use Rattle.term_text.proofs.Tokens.{Behind, IsCharacter, gap_holds, character_holds, escaped_allowed, quoted_shrinks, if_is}
use Rattle.term_text.proofs.Tokens.Behind.{something, nothing}
use Rattle.term_text.proofs.Tokens.IsCharacter.{as_it_is, as_escape}
use Rattle.term_text.proofs.Words.{Opens, BeginsWord, opening_holds, opening_integer, opening_word, integer_holds, number_holds}
use Rattle.term_text.proofs.Words.{BeginsInteger as IsIntegerStart}

-- what begins this number of characters before the end of a text satisfies a condition
pub record Left (left : ℕ) (IsSuch : List ℕ → Type 0) : Type 0 where
  pub rest : List ℕ
  pub here : left ≡ length rest
  pub such : IsSuch rest

-- the cause that a reader stops for is at its place
abbrev pub Blames : List ℕ → Fault → Type 0
Blames whole (causes.TooDeep, left) = Left left (IsTooDeep whole)
Blames whole (causes.TooLong, left) = Left left (IsTooLong whole)
Blames whole (causes.DuplicateKey, left) = Left left (IsKeyTwice whole)
Blames whole (causes.Syntax, left) = Left left (IsUnexpected whole)
Blames whole (causes.IntegerRange, left) = Left left (IsOutOfRange whole)
Blames whole (causes.UnsupportedEscape, left) = Left left (IsNoEscape whole)

pub at_once : {IsSuch : List ℕ → Type 0} (rest : List ℕ) → IsSuch rest → Left (length rest) IsSuch
at_once rest h = record { rest = rest; here = refl; such = h }

-- ---- gaps

mutual
  gap_ends_in : (text : List ℕ) → EndsGap (after_gap true text)
  gap_ends_in [] = tt
  gap_ends_in (c ∷ cs) = elim (cases_Bool (c == line_feed)) [ inl e ↦ rw e (gap_ended cs) | inr n ↦ rw n (gap_ends_in cs) ]

  gap_ended : (text : List ℕ) → EndsGap (after_gap false text)
  gap_ended [] = tt
  gap_ended (c ∷ cs) =
      if_is EndsGap (c == percent) _ _ (λ _. gap_ends_in cs)
      (λ n. if_is EndsGap (is_white_space c) _ _ (λ _. gap_ended cs) (λ w. (w, eqb-false c percent n)))

whole_gap_of : (text rest : List ℕ) → Behind text rest → EndsGap rest → WholeGap text rest
whole_gap_of text rest (something g) e = up_to g e
whole_gap_of text rest (nothing g l) e = to_the_end g l

pub whole_gap : (text : List ℕ) → WholeGap text (after_gap false text)
whole_gap text = whole_gap_of text (after_gap false text) (gap_holds text) (gap_ended text)

-- what a token follows is a gap
pub gap_before : {text t : List ℕ} (c : ℕ) (rest : List ℕ) → WholeGap text t → t ≡ c ∷ rest → Gap text (c ∷ rest)
gap_before c rest (up_to g e) h = rw h at g
gap_before c rest (to_the_end g l) h = absurd cc

-- ---- steps

pub bind_blames : {A B : Type 0} (P : A → Type 0) (E : Fault → Type 0) (r : Result A Fault) (f : A → Result B Fault) → IfOk r P → IfErr r E → ((x : A) → P x → IfErr (f x) E) → IfErr (r >>= f) E
bind_blames P E (Ok x) f h e k = k x h
bind_blames P E (Err y) f h e k = e

pub bind_any : {A B : Type 0} (E : Fault → Type 0) (r : Result A Fault) (f : A → Result B Fault) → IfErr r E → ((x : A) → IfErr (f x) E) → IfErr (r >>= f) E
bind_any E (Ok x) f e k = k x
bind_any E (Err y) f e k = e

pub if_blames : {A : Type 0} (E : Fault → Type 0) (b : Bool) (r t : Result A Fault) → (b ≡ true → IfErr r E) → (b ≡ false → IfErr t E) → IfErr (cond b r t) E
if_blames E true r t h k = h refl
if_blames E false r t h k = k refl

pub both_ok : {A : Type 0} (P Q : A → Type 0) (r : Result A Fault) → IfOk r P → IfOk r Q → IfOk r (λ x. P x × Q x)
both_ok P Q (Ok x) h k = (h, k)
both_ok P Q (Err e) h k = tt

module _ {S : Type 0} (step : Step S) (Good : S → List ℕ → Type 0) (E : Fault → Type 0) where
  -- if a step goes on, the condition holds for the next step
  abbrev pub StaysGood : Bool × S × List ℕ → Type 0
  StaysGood t = t.0 ≡ true → Good t.1 t.2

  goes_on : (n : ℕ) (t : Bool × S × List ℕ) → (t.0 ≡ true → IfErr (steps step n t.1 t.2) E) → IfErr (cond t.0 (steps step n t.1 t.2) (Ok (t.1, t.2))) E
  goes_on n t again = if_blames E t.0 _ _ again (λ _. tt)

  abbrev StaysShort : List ℕ → Bool × S × List ℕ → Type 0
  StaysShort text t = t.0 ≡ true → length t.2 < length text

  pub steps_blame : Shrinks step → ((s : S) (text : List ℕ) → Good s text → IfOk (step s text) StaysGood) → ((s : S) (text : List ℕ) → Good s text → IfErr (step s text) E) → (n : ℕ) (s : S) (text : List ℕ) → length text < n → Good s text → IfErr (steps step n s text) E
  unfolding steps
  steps_blame shrinks good blames zero s text l g = absurd (omega arith)
  steps_blame shrinks good blames (suc n) s text l g =
      bind_blames (λ (t : Bool × S × List ℕ). StaysGood t × StaysShort text t) E (step s text) _
      (both_ok StaysGood (StaysShort text) (step s text) (good s text g) (holds_from (StaysShort text) (step s text) (λ t e. shrinks.shorter s text t e))) (blames s text g)
      (λ t h. goes_on n t (λ goes. let less = h.1 goes in steps_blame shrinks good blames n t.1 t.2 (omega arith) (h.0 goes)))

-- what follows an item: a comma and the next item, or no comma
data Next (text : List ℕ) : Bool → List ℕ → Type 0 where
  comes : {u rest : List ℕ} → Gap text (comma ∷ u) → WholeGap u rest → Next text true rest
  ends : {rest : List ℕ} → WholeGap text rest → ¬ BeginsWith comma rest → Next text false rest

next_in : (text g : List ℕ) → WholeGap text g → Next text (comma_in g).0 (comma_in g).1
next_in text [] w = ends w (λ h. h)
next_in text (c ∷ cs) w =
    if_is (λ (p : Bool × List ℕ). Next text p.0 p.1) (c == comma) _ _
    (λ e. comes (rw (eqb-true c comma e) at (gap_before c cs w refl)) (whole_gap cs))
    (λ n. ends w (λ h. eqb-false c comma n h))

next_item : (text : List ℕ) → Next text (after_comma text).0 (after_comma text).1
next_item text = next_in text (after_gap false text) (whole_gap text)

-- the last of some items, and what follows it
pub record LastItem {S : Type 0} (Item : S → List ℕ → S → List ℕ → Type 0) (Good : S → List ℕ → Type 0) (made : S) (rest : List ℕ) : Type 0 where
  pub before : S
  pub text : List ℕ
  pub behind : List ℕ
  pub good : Good before text
  pub item : Item before text made behind
  pub gap : WholeGap behind rest
  pub no_comma : ¬ BeginsWith comma rest

module _ {S : Type 0} (item : S → List ℕ → Read S) (Item : S → List ℕ → S → List ℕ → Type 0) (Good : S → List ℕ → Type 0) (holds : (s : S) (text : List ℕ) → IfOk (item s text) (λ x. Item s text x.0 x.1)) (next : (s : S) (text : List ℕ) (u : S) (t w rest : List ℕ) → Good s text → Item s text u t → Gap t (comma ∷ w) → WholeGap w rest → Good u rest) where
  good_next : (s : S) (text : List ℕ) (u : S) (t : List ℕ) (b : Bool) (rest : List ℕ) → Good s text → Item s text u t → Next t b rest → b ≡ true → Good u rest
  good_next s text u t true rest g i (comes {u = w} gap k) e = next s text u t w rest g i gap k
  good_next s text u t false rest g i (ends k n) e = absurd cc

  pub separated_blames : (E : Fault → Type 0) → Shrinks (separated item) → ((s : S) (text : List ℕ) → Good s text → IfErr (item s text) E) → (s : S) (text : List ℕ) → Good s text → IfErr (all_steps (separated item) s text) E
  separated_blames E shrinks blames s text g =
      steps_blame (separated item) Good E shrinks
      (λ s text g. bind_holds (λ (x : S × List ℕ). Item s text x.0 x.1) (StaysGood (separated item) Good E) (item s text) _ (holds s text)
      (λ x i. λ goes. good_next s text x.0 x.1 (after_comma x.1).0 (after_comma x.1).1 g i (next_item x.1) goes))
      (λ s text g. bind_any E (item s text) _ (blames s text g) (λ x. tt))
      (suc (length text)) s text (omega arith) g

  abbrev LastFrom : S → List ℕ → S → List ℕ → Type 0
  LastFrom s text u rest = Good s text → LastItem Item Good u rest

  last_hands : (s u : S) (text t : List ℕ) → Item s text u t → (b : Bool) (rest : List ℕ) → Next t b rest → Hands (separated item) LastFrom s text (b, u, rest)
  last_hands s u text t i true rest (comes {u = w} gap k) = λ v end again. λ g. again (next s text u t w rest g i gap k)
  last_hands s u text t i false rest (ends k n) = λ g. record { before = s; text = text; behind = t; good = g; item = i; gap = k; no_comma = n }

  pub separated_last : (s : S) (text : List ℕ) → Good s text → IfOk (all_steps (separated item) s text) (λ x. LastItem Item Good x.0 x.1)
  separated_last s text g =
      weaker (λ (x : S × List ℕ). LastFrom s text x.0 x.1) _ (all_steps (separated item) s text) (λ x last. last g)
      (steps_hold (separated item) LastFrom
      (λ s text. bind_holds (λ (x : S × List ℕ). Item s text x.0 x.1) (Hands (separated item) LastFrom s text) (item s text) _ (holds s text)
      (λ x i. last_hands s x.0 text x.1 i (after_comma x.1).0 (after_comma x.1).1 (next_item x.1)))
      (suc (length text)) s text)

-- ---- tokens

pub expect_blames : (whole : List ℕ) (a : ℕ) (text : List ℕ) → (¬ BeginsWith a text → IsUnexpected whole text) → IfErr (expect a text) (Blames whole)
expect_blames whole a [] h = at_once [] (h (λ b. b))
expect_blames whole a (c ∷ cs) h = if_blames (Blames whole) (c == a) _ _ (λ _. tt) (λ n. at_once (c ∷ cs) (h (eqb-false c a n)))

not_both : (x y a b : ℕ) (ys : List ℕ) → (x == a && y == b) ≡ false → ¬ BeginsWithBoth a b (x ∷ y ∷ ys)
not_both x y a b ys n h = let both : (x == a && y == b) ≡ true = rw (eq-eqb x a h.0, eq-eqb y b h.1) refl in absurd cc

pub expect_both_blames : (whole : List ℕ) (a b : ℕ) (text : List ℕ) → (¬ BeginsWithBoth a b text → IsUnexpected whole text) → IfErr (expect_both a b text) (Blames whole)
expect_both_blames whole a b [] h = at_once [] (h (λ both. both))
expect_both_blames whole a b (x ∷ []) h = at_once (x ∷ []) (h (λ both. both.1))
expect_both_blames whole a b (x ∷ y ∷ ys) h = if_blames (Blames whole) (x == a && y == b) _ _ (λ _. tt) (λ n. at_once (x ∷ y ∷ ys) (h (not_both x y a b ys n)))

sign_is : (c : ℕ) → is_sign c ≡ true → (c ≡ plus) ⊎ (c ≡ minus)
sign_is c h = elim (or_cases (c == plus) (c == minus) h) [ inl p ↦ inl (eqb-true c plus p) | inr m ↦ inr (eqb-true c minus m) ]

pub integer_starts : (text : List ℕ) → IsIntegerStart text → BeginsInteger text
integer_starts [] h = absurd h
integer_starts (c ∷ cs) (inl d) = digit d
integer_starts (c ∷ []) (inr s) = absurd (let no : false ≡ true = s.1 in cc)
integer_starts (c ∷ d ∷ cs) (inr s) = sign (sign_is c s.0) s.1

word_starts : (text : List ℕ) → BeginsWord text → BeginsTerm text
word_starts [] h = absurd h
word_starts (c ∷ cs) h = begins_term.a_word h

pub term_starts : (o : Opening) (text rest : List ℕ) → Opens o text rest → BeginsTerm text
term_starts opens.Integer text rest h = begins_term.an_integer (integer_starts text h.1)
term_starts opens.Word text rest h = word_starts text h.1
term_starts opens.QuotedAtom text rest h = rw h begins_term.an_atom
term_starts opens.String text rest h = rw h begins_term.a_string
term_starts opens.Tuple text rest h = rw h begins_term.a_tuple
term_starts opens.List text rest h = rw h begins_term.a_list
term_starts opens.Map text rest h = rw h begins_term.a_map
term_starts opens.Binary text rest h = rw h begins_term.a_binary

pub integer_begun : {text : List ℕ} → BeginsInteger text → IsIntegerStart text
integer_begun (digit d) = inl d
integer_begun (sign (inl p) d) = inr (rw p refl, d)
integer_begun (sign (inr m) d) = inr (rw m refl, d)

-- a term that begins is found to begin
pub opens_none : (text : List ℕ) → opening text ≡ None → ¬ BeginsTerm text
opens_none text e (begins_term.an_integer i) = absurd (let some = opening_integer text (integer_begun i) in cc)
opens_none text e (begins_term.a_word {c} {text = cs} l) = absurd (let some = opening_word c cs l in cc)
opens_none text e begins_term.an_atom = absurd cc
opens_none text e begins_term.a_string = absurd cc
opens_none text e begins_term.a_tuple = absurd cc
opens_none text e begins_term.a_list = absurd cc
opens_none text e begins_term.a_map = absurd cc
opens_none text e begins_term.a_binary = absurd cc

enter_as_blames : (whole : List ℕ) (levels room : ℕ) (text : List ℕ) (o : Option (Opening × List ℕ)) → IfSome o (λ o. Opens o.0 text o.1) → opening text ≡ o → (¬ BeginsTerm text → IsUnexpected whole text) → (BeginsTerm text → levels ≡ 0 → IsTooDeep whole text) → (BeginsTerm text → 0 < levels → room ≡ 0 → IsTooLong whole text) → IfErr (enter_as levels room text o) (Blames whole)
enter_as_blames whole levels room text None h e none deep long = at_once text (none (opens_none text e))
enter_as_blames whole levels room text (Some o) h e none deep long =
    let starts = term_starts o.0 text o.1 h in
    if_blames (Blames whole) (levels == 0) _ _ (λ e. at_once text (deep starts (eqb-true levels 0 e)))
    (λ some. if_blames (Blames whole) (room == 0) _ _ (λ e. at_once text (long starts (let left = eqb-false levels 0 some in omega arith) (eqb-true room 0 e))) (λ _. tt))

pub enter_blames : (whole : List ℕ) (levels room : ℕ) (text : List ℕ) → (¬ BeginsTerm text → IsUnexpected whole text) → (BeginsTerm text → levels ≡ 0 → IsTooDeep whole text) → (BeginsTerm text → 0 < levels → room ≡ 0 → IsTooLong whole text) → IfErr (enter levels room text) (Blames whole)
unfolding enter
enter_blames whole levels room text none deep long = enter_as_blames whole levels room text (opening text) (opening_holds text) refl none deep long

-- ---- integers

signed_blames : (E : Fault → Type 0) (below : Bool) (start text : List ℕ) → (fits below (number_run 0 text).0 ≡ false → E (causes.IntegerRange, length start)) → IfErr (number_at below start text) E
signed_blames E below start text h = if_blames E (fits below (number_run 0 text).0) _ _ (λ _. tt) h

pub integer_blames : (E : Fault → Type 0) (text : List ℕ) → IsIntegerStart text → (IsWide text → E (causes.IntegerRange, length text)) → IfErr (integer_at text) E
unfolding integer_at
integer_blames E [] h k = absurd h
integer_blames E (c ∷ cs) h k = elim (cases_Bool (c == minus)) [
  | inl m ↦
      let e : c ≡ minus = eqb-true c minus m in
      rw m (signed_blames E true (c ∷ cs) cs (λ f. k (rw e (wide_negative (number_holds cs (elim h [ inl d ↦ absurd (grind arith) | inr s ↦ s.1 ])) (leb-false _ _ f)))))
  | inr n ↦ elim (cases_Bool (c == plus)) [
    | inl m ↦
        let e : c ≡ plus = eqb-true c plus m in
        rw (n, m) (signed_blames E false (c ∷ cs) cs (λ f. k (rw e (wide_positive (number_holds cs (elim h [ inl d ↦ absurd (grind arith) | inr s ↦ s.1 ])) (leb-false _ _ f)))))
    | inr o ↦
        rw (n, o) (signed_blames E false (c ∷ cs) (c ∷ cs) (λ f. k (wide (number_holds (c ∷ cs) (elim h [ inl d ↦ d | inr s ↦ absurd (grind arith) ])) (leb-false _ _ f))))
  ]
]

byte_of_blames : (whole text : List ℕ) (k : ℕ) (z : ℤ) (rest : List ℕ) → Due whole (a_segment k) text → k < MAX_BINARY → Integer text z rest → IfErr (byte_of z text) (Blames whole)
byte_of_blames whole text k (pos b) rest d room i = if_blames (Blames whole) (nat_lt b 256) _ _ (λ _. tt) (λ f. at_once text (no_byte d room i (let le = ltb-false b 256 f in omega arith)))
byte_of_blames whole text k (negsuc b) rest d room i = at_once text (no_byte d room i tt)

pub byte_blames : (whole text : List ℕ) (k : ℕ) → IsIntegerStart text → Due whole (a_segment k) text → k < MAX_BINARY → IfErr (byte_at text) (Blames whole)
unfolding byte_at
byte_blames whole text k h d room =
    bind_blames (λ (z : ℤ × List ℕ). Integer text z.0 z.1) (Blames whole) (integer_at text) _ (integer_holds text h) (integer_blames (Blames whole) text h (λ w. at_once text (wide_segment d room w)))
    (λ z i. bind_any (Blames whole) (byte_of z.0 text) _ (byte_of_blames whole text k z.0 z.1 d room i) (λ b. tt))

-- ---- bare words

-- a word goes on after this number of its characters
record GoesOn (whole : List ℕ) (k : ℕ) (text : List ℕ) : Type 0 where
  next : ℕ
  rest : List ℕ
  is : text ≡ next ∷ rest
  letter : Due whole (a_letter k) (next ∷ rest)
  in_word : is_word next ≡ true

first_letter : (c : ℕ) (text : List ℕ) (n : ℕ) → n < prefix_len is_word (c ∷ text) → (is_word c ≡ true) × (n ≤ prefix_len is_word text)
first_letter c text n l = elim (cases_Bool (is_word c)) [
  | inl w ↦ (w, let m = rw (w, one-add) at l in omega arith)
  | inr other ↦ absurd (let none = rw other at l in omega arith)
]

letters : (whole : List ℕ) (n k : ℕ) (text : List ℕ) → k + n ≤ MAX_CHARACTERS → Due whole (a_letter k) text → n < prefix_len is_word text → GoesOn whole (k + n) (drop n text)
letters whole n k [] few d l = absurd (omega arith)
letters whole zero k (c ∷ text) few d l =
    let same : k + 0 ≡ k = omega arith in
    rw same (record { next = c; rest = text; is = refl; letter = d; in_word = (first_letter c text 0 l).0 })
letters whole (suc n) k (c ∷ text) few d l =
    let same : k + suc n ≡ suc k + n = omega arith in
    let first = first_letter c text (suc n) l in
    rw same (letters whole n (suc k) text (omega arith) (due.next_letter d (omega arith) first.0) (let le = first.1 in omega arith))

past_letters : (whole text : List ℕ) (n : ℕ) → n ≡ MAX_CHARACTERS → GoesOn whole (0 + n) text → IsTooLong whole text
past_letters whole text n e g = rw g.is (one_letter g.letter (let f = e in omega arith) g.in_word)

too_long_word : (whole text : List ℕ) (n : ℕ) → n ≡ MAX_CHARACTERS → BeginsWord text → ((c : ℕ) (cs : List ℕ) → text ≡ c ∷ cs → is_ascii_lowercase c ≡ true → Due whole (a_letter 0) text) → n < prefix_len is_word text → IsTooLong whole (drop n text)
too_long_word whole [] n e h d l = absurd h
too_long_word whole (c ∷ cs) n e h d l = past_letters whole (drop n (c ∷ cs)) n e (letters whole n 0 (c ∷ cs) (omega arith) (d c cs refl h) l)

letter_due : (whole text : List ℕ) (n k : ℕ) → Due whole (a_term (suc n) k) text → (c : ℕ) (cs : List ℕ) → text ≡ c ∷ cs → is_ascii_lowercase c ≡ true → Due whole (a_letter 0) text
letter_due whole text n k d c cs e l = rw e (due.in_word (rw e at d) l)

pub word_blames : (whole text : List ℕ) (n k : ℕ) → BeginsWord text → Due whole (a_term (suc n) k) text → IfErr (word_at text) (Blames whole)
unfolding word_at
word_blames whole text n k h d =
    if_blames (Blames whole) (nat_lt MAX_CHARACTERS (prefix_len is_word text)) _ _ (λ l. at_once (drop MAX_CHARACTERS text) (too_long_word whole text MAX_CHARACTERS refl h (letter_due whole text n k d) (ltb-true _ _ l))) (λ _. tt)

-- ---- quotes

-- marks are those of quotes that continue this number of characters
pub record AreOf (whole : List ℕ) (m : Marks) (q : Quotes) (before : ℕ) : Type 0 where
  pub mark : m.mark ≡ mark_of q
  pub full : (k c : ℕ) (rest : List ℕ) → k ≡ m.room → Due whole (a_character q (before + k)) (c ∷ rest) → c ≢ mark_of q → Blames whole (m.past, suc (length rest))
  pub bytes : m.only_bytes ≡ true → q ≡ of_bytes
  pub fits : (k c : ℕ) → k < m.room → is_allowed m.only_bytes c ≡ true → (before + k < most_characters q) × MayStand q c

pub level_of : (q : Quotes) (c : ℕ) → MayStand q c → HasLevel q
level_of of_atom c h = tt
level_of (of_string levels) c h = h
level_of of_bytes c h = tt

backslash_allowed : (g : Bool) → is_allowed g backslash ≡ true
backslash_allowed false = refl
backslash_allowed true = refl

module _ (whole : List ℕ) (m : Marks) (q : Quotes) (before : ℕ) (are : AreOf whole m q before) where
  record IsDue (cs text : List ℕ) : Type 0 where
    few : length cs ≤ m.room
    place : Due whole (a_character q (before + length cs)) text

  one_more : (cs : List ℕ) (x : ℕ) (text : List ℕ) → length cs < m.room → Due whole (a_character q (suc (before + length cs))) text → IsDue (cs ++ x ∷ []) text
  one_more cs x text room d =
      let len : before + length (cs ++ x ∷ []) ≡ suc (before + length cs) = omega (arith, length-append cs (x ∷ [])) in
      record { few = omega (arith, length-append cs (x ∷ [])); place = rw len d }

  next_due : (cs : List ℕ) (c : ℕ) (text : List ℕ) (x : ℕ) (rest : List ℕ) → IsDue cs (c ∷ text) → c ≢ m.mark → length cs ≢ m.room → IsCharacter m.only_bytes c text x rest → IsDue (cs ++ x ∷ []) rest
  next_due cs c text x rest d ne full (as_it_is n l) =
      let room : length cs < m.room = let few = d.few in omega arith in
      let fits = are.fits (length cs) c room l in
      one_more cs x text room (due.behind_plain d.place (λ e. ne (e ∙ sym are.mark)) n fits.0 fits.1)
  next_due cs c text x rest d ne full (as_escape {e} b h) =
      let room : length cs < m.room = let few = d.few in omega arith in
      let fits = are.fits (length cs) x room (escaped_allowed m.only_bytes e x h) in
      one_more cs x rest room (due.behind_escape (rw b at d.place) h fits.0 fits.1)

  step_good : (cs text : List ℕ) → IsDue cs text → IfOk (quoted_step m cs text) (StaysGood (quoted_step m) IsDue (Blames whole))
  unfolding quoted_step next_quoted
  step_good cs [] d = tt
  step_good cs (c ∷ text) d =
      bind_holds (λ (x : Option ℕ × List ℕ). StaysGood (quoted_step m) IsDue (Blames whole) (pushed cs x.0 x.1)) _ _ _
      (if_holds _ (c == m.mark) _ _ (λ e. λ no. absurd cc)
      (λ e. if_holds _ (length cs == m.room) _ _ (λ _. tt)
      (λ r. bind_holds (λ (x : ℕ × List ℕ). IsCharacter m.only_bytes c text x.0 x.1) _ (character_at m.only_bytes (c ∷ text)) _ (character_holds m.only_bytes c text)
      (λ x h. λ goes. next_due cs c text x.0 x.1 d (eqb-false c m.mark e) (eqb-false (length cs) m.room r) h))))
      (λ x h. h)

  escape_blames : (k e : ℕ) (rest : List ℕ) (o : Option ℕ) → k < most_characters q → HasLevel q → Due whole (a_character q k) (backslash ∷ e ∷ rest) → escaped e ≡ o → IfErr (escape_as o (backslash ∷ e ∷ rest) rest) (Blames whole)
  escape_blames k e rest None room level d h = at_once (backslash ∷ e ∷ rest) (no_escape d room level h)
  escape_blames k e rest (Some x) room level d h = tt

  escaped_blames : (k c : ℕ) (text : List ℕ) → c ≡ backslash → k < m.room → Due whole (a_character q (before + k)) (c ∷ text) → IfErr (escape_at (c ∷ text) text) (Blames whole)
  escaped_blames k c [] b room d = let fits = are.fits k backslash room (backslash_allowed m.only_bytes) in at_once [] (no_escaped (rw b at d) fits.0 fits.1)
  escaped_blames k c (e ∷ rest) b room d = let fits = are.fits k backslash room (backslash_allowed m.only_bytes) in rw b (escape_blames (before + k) e rest (escaped e) fits.0 (level_of q backslash fits.1) (rw b at d) refl)

  not_allowed : (g : Bool) (c : ℕ) → is_allowed g c ≡ false → (g ≡ true) × (255 < c)
  not_allowed false c h = absurd cc
  not_allowed true c h = (refl, leb-false c 255 h)

  no_byte_blames : (k c : ℕ) (text : List ℕ) → is_allowed m.only_bytes c ≡ false → k < most_characters q → Due whole (a_character q k) (c ∷ text) → IsOutOfRange whole (c ∷ text)
  no_byte_blames k c text h room d = let p = not_allowed m.only_bytes c h in no_byte_character (rw (are.bytes p.0) at d) (rw (are.bytes p.0) at room) p.1

  character_blames : (k c : ℕ) (text : List ℕ) → k < m.room → Due whole (a_character q (before + k)) (c ∷ text) → IfErr (character_at m.only_bytes (c ∷ text)) (Blames whole)
  unfolding character_at
  character_blames k c text room d =
      if_blames (Blames whole) (c == backslash) _ _ (λ b. escaped_blames k c text (eqb-true c backslash b) room d)
      (λ _. if_blames (Blames whole) (is_allowed m.only_bytes c) _ _ (λ _. tt) (λ l. let fits = are.fits k backslash room (backslash_allowed m.only_bytes) in at_once (c ∷ text) (no_byte_blames (before + k) c text l fits.0 d)))

  step_blames : (cs text : List ℕ) → IsDue cs text → IfErr (quoted_step m cs text) (Blames whole)
  unfolding quoted_step next_quoted
  step_blames cs [] d = at_once [] (no_character d.place)
  step_blames cs (c ∷ text) d =
      bind_any (Blames whole) _ _
      (if_blames (Blames whole) (c == m.mark) _ _ (λ _. tt)
      (λ e. if_blames (Blames whole) (length cs == m.room) _ _ (λ r. are.full (length cs) c text (eqb-true (length cs) m.room r) d.place (λ f. eqb-false c m.mark e (f ∙ sym are.mark)))
      (λ r. bind_any (Blames whole) (character_at m.only_bytes (c ∷ text)) _ (character_blames (length cs) c text (let few = d.few in let ne = eqb-false (length cs) m.room r in omega arith) d.place) (λ x. tt))))
      (λ x. tt)

  pub quoted_blames : (text : List ℕ) → Due whole (a_character q before) text → IfErr (quoted_at m text) (Blames whole)
  quoted_blames text d =
      let same : before + 0 ≡ before = omega arith in
      steps_blame (quoted_step m) IsDue (Blames whole) (quoted_shrinks m) (λ cs text d. step_good cs text d) (λ cs text d. step_blames cs text d) (suc (length text)) [] text (omega arith) (record { few = omega arith; place = rw same d })

pub atom_are : (whole : List ℕ) → AreOf whole atom_marks of_atom 0
atom_are whole = record {
  mark = refl;
  full = λ k c rest e d ne. at_once (c ∷ rest) (one_character d tt (omega arith) ne);
  bytes = λ no. absurd cc;
  fits = λ k c room l. (omega arith, tt);
}

pub byte_are : (whole : List ℕ) (before : ℕ) → before ≤ MAX_BINARY → AreOf whole (byte_marks before) of_bytes before
byte_are whole before l = record {
  mark = refl;
  full = λ k c rest e d ne. at_once (c ∷ rest) (one_character d tt (omega arith) ne);
  bytes = λ _. refl;
  fits = λ k c room l. (omega arith, let le = leb-true c 255 l in omega arith);
}

pub string_are : (whole : List ℕ) (levels before : ℕ) → before ≤ MAX_LIST → AreOf whole (string_marks levels before) (of_string levels) before
string_are whole zero before l = record {
  mark = refl;
  full = λ k c rest e d ne. at_once (c ∷ rest) (deep_character d ne);
  bytes = λ no. absurd cc;
  fits = λ k c room l. absurd (omega arith);
}
string_are whole (suc n) before l = record {
  mark = refl;
  full = λ k c rest e d ne. let some : (suc n == 0) ≡ false = ne_eqb (suc n) 0 (λ z. omega arith) in let room = rw some at e in rw some (at_once (c ∷ rest) (one_character d (omega arith) (omega arith) ne));
  bytes = λ no. absurd cc;
  fits = λ k c room l. let some : (suc n == 0) ≡ false = ne_eqb (suc n) 0 (λ z. omega arith) in let below = rw some at room in (omega arith, omega arith);
}
