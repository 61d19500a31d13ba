-- The characters of a text, from the left.
use Rattle.std.proofs.Common.{◌≡◌, ℕ, suc, ◌+◌, ◌≤◌, ◌<◌, inl, inr, Bool, true, false, List, [], ◌∷◌, ◌++◌, length, take, drop, get_or, Option, Some, None, Ok, Err, refl, sym, ap, ◌∙◌, arith}
use Rattle.std.specs.Prelude.{◌==◌, ◌&&◌}
use Rattle.std.specs.Char.{is_ascii_digit, is_ascii_lowercase}
use Rattle.std.specs.Str.{IsUtf8, IsCharBoundary, chars, encode_utf8_all}
use Rattle.std.proofs.lemmas.Bool.{cases_Bool, cases_lt, ne_eqb}
use Rattle.std.proofs.lemmas.List.{take-append-drop, take_all, drop-drop, length-append, length-drop}
use Rattle.std.proofs.lemmas.Str.{chars-nil, chars_past_char, encode_ascii, byte_from_char, IsCharBoundary-after_ascii, encodes-append, encodes-chars}
use Rattle.std.specs.List.{slice_get}
use Rattle.term_text.specs.Character.{EndsAscii, line_feed, percent, minus, plus, dot, single_quote, double_quote, open_brace, open_bracket, number_sign, less, is_white_space, is_word}
use Rattle.term_text.specs.declared.stop.Cause.TheVariants.{Syntax}
use Rattle.term_text.specs.Tokens.{EndsRun}
use Rattle.term_text.specs.TokenReading.{after_gap, behind, after_both, begins, begins_gap, dot_at, expect, expect_both, number_run, after_sign, opening, is_sign}

-- ---- the first byte

abbrev pub nothing : Option ℕ
nothing = None

abbrev pub this : ℕ → Option ℕ
this b = Some b

pub nothing_first : (text bytes : List ℕ) → bytes ≡ text → nothing ≡ slice_get bytes 0 → EndsAscii (chars text)
nothing_first [] bytes e none = rw chars-nil tt
nothing_first (b ∷ bs) bytes e none = absurd (let other : nothing ≡ this b = rw e at none in cc)

first_is : (b c : ℕ) (bs bytes : List ℕ) → bytes ≡ c ∷ bs → this b ≡ slice_get bytes 0 → b ≡ c
first_is b c bs bytes e some = let same : this b ≡ this c = rw e at some in cc

not_empty : (b : ℕ) (bytes : List ℕ) → bytes ≡ [] → this b ≡ slice_get bytes 0 → ⊥
not_empty b bytes e some = let other : this b ≡ nothing = rw e at some in cc

-- a byte below 128 is a character, and what follows it is a text
pub first_ascii : (text bytes rest : List ℕ) (b : ℕ) → IsUtf8 text → bytes ≡ text → this b ≡ slice_get bytes 0 → b < 128 → rest ≡ drop 1 text → chars text ≡ b ∷ chars rest
first_ascii [] bytes rest b utf8 e some small r = absurd (not_empty b bytes e some)
first_ascii (c ∷ bs) bytes rest b utf8 e some small r =
    let is : b ≡ c = first_is b c bs bytes e some in
    let low : c < 128 = omega arith in
    rw (is, r) (chars_past_char (c ∷ bs) bs c utf8 (rw (encode_ascii c low) refl))

pub cut_behind : (text bytes : List ℕ) (b : ℕ) → IsUtf8 text → bytes ≡ text → this b ≡ slice_get bytes 0 → b < 128 → IsCharBoundary text 1
cut_behind [] bytes b utf8 e some small = absurd (not_empty b bytes e some)
cut_behind (c ∷ bs) bytes b utf8 e some small = let is : b ≡ c = first_is b c bs bytes e some in IsCharBoundary-after_ascii (c ∷ bs) 0 utf8 (omega arith) (rw is at small)

pub wide_first : (text cs : List ℕ) → encode_utf8_all cs ≡ text → 128 ≤ get_or text 0 0 → EndsAscii cs
wide_first text [] e wide = tt
wide_first text (c ∷ cs) e wide = elim (cases_lt c 128) [
  | inl small ↦ absurd (let is : get_or text 0 0 ≡ c = byte_from_char text (encode_utf8_all cs) c (sym e) small in omega arith)
  | inr large ↦ omega arith
]

pub no_ascii : (text bytes : List ℕ) (b : ℕ) → IsUtf8 text → bytes ≡ text → this b ≡ slice_get bytes 0 → 128 ≤ b → EndsAscii (chars text)
no_ascii [] bytes b utf8 e some wide = absurd (not_empty b bytes e some)
no_ascii (c ∷ bs) bytes b utf8 e some wide = let is : b ≡ c = first_is b c bs bytes e some in wide_first (c ∷ bs) (chars (c ∷ bs)) (encodes-chars (c ∷ bs) utf8) (rw is at wide)

some_alike : (b : ℕ) (bs cs : List ℕ) → encode_utf8_all cs ≡ b ∷ bs → (length (b ∷ bs) == 0) ≡ (length cs == 0)
some_alike b bs [] e = absurd cc
some_alike b bs (c ∷ cs) e = ne_eqb (suc (length bs)) 0 (λ z. omega arith) ∙ sym (ne_eqb (suc (length cs)) 0 (λ z. omega arith))

-- a text has characters if it has bytes
pub empty_alike : (bs : List ℕ) → IsUtf8 bs → (length bs == 0) ≡ (length (chars bs) == 0)
empty_alike [] utf8 = rw chars-nil refl
empty_alike (b ∷ bs) utf8 = some_alike b bs (chars (b ∷ bs)) (encodes-chars (b ∷ bs) utf8)

-- ---- text that doesn't begin with an ASCII character

pub no_gap : (text : List ℕ) → EndsAscii text → text ≡ after_gap false text
no_gap [] ends = refl
no_gap (c ∷ text) ends = let percent : (c == percent) ≡ false = grind arith in let white : is_white_space c ≡ false = grind arith in rw (percent, white) refl

-- a gap goes on after a line feed
pub behind_line_feed : (text rest left : List ℕ) (c : ℕ) → text ≡ c ∷ rest → c ≡ line_feed → left ≡ after_gap false rest → left ≡ after_gap false text
behind_line_feed text rest left c e feed is = rw (e, feed) is

pub none_behind : (a : ℕ) (text : List ℕ) → a < 128 → EndsAscii text → None ≡ behind a text
none_behind a [] small ends = refl
none_behind a (c ∷ text) small ends = let other : (c == a) ≡ false = grind arith in rw other refl

pub no_digit : (text : List ℕ) → EndsAscii text → false ≡ begins is_ascii_digit text
no_digit [] ends = refl
no_digit (c ∷ text) ends = let digit : is_ascii_digit c ≡ false = grind arith in sym digit

pub no_more_digits : (n : ℕ) (text : List ℕ) → EndsAscii text → number_run n text ≡ (n, text)
no_more_digits n [] ends = refl
no_more_digits n (c ∷ text) ends = let digit : is_ascii_digit c ≡ false = grind arith in rw digit refl

pub no_sign : (text : List ℕ) → EndsAscii text → (false, text) ≡ after_sign text
no_sign [] ends = refl
no_sign (c ∷ text) ends = let one : (c == minus) ≡ false = grind arith in let other : (c == plus) ≡ false = grind arith in rw (one, other) refl

pub no_word : (text : List ℕ) → EndsAscii text → EndsRun is_word text
no_word [] ends = tt
no_word (c ∷ text) ends = grind arith

pub gap_at_end : (text : List ℕ) → EndsAscii text → (length text == 0) ≡ begins_gap text
gap_at_end [] ends = refl
gap_at_end (c ∷ text) ends = let percent : (c == percent) ≡ false = grind arith in let white : is_white_space c ≡ false = grind arith in let some : (suc (length text) == 0) ≡ false = ne_eqb (suc (length text)) 0 (λ e. omega arith) in rw (percent, white, some) refl

pub no_opening : (text : List ℕ) → EndsAscii text → None ≡ opening text
no_opening [] ends = refl
no_opening (c ∷ text) ends =
    let digit : is_ascii_digit c ≡ false = grind arith in
    let sign : is_sign c ≡ false = grind arith in
    let lowercase : is_ascii_lowercase c ≡ false = grind arith in
    let quote : (c == single_quote) ≡ false = grind arith in
    let quotes : (c == double_quote) ≡ false = grind arith in
    let brace : (c == open_brace) ≡ false = grind arith in
    let bracket : (c == open_bracket) ≡ false = grind arith in
    let number : (c == number_sign) ≡ false = grind arith in
    let below : (c == less) ≡ false = grind arith in
    rw (digit, sign, lowercase, quote, quotes, brace, bracket, number, below) refl

-- ---- tokens of one or two characters, by what follows them

abbrev given : List ℕ → Option (List ℕ)
given rest = Some rest

pub expected : (c : ℕ) (text rest : List ℕ) → Some rest ≡ behind c text → expect c text ≡ Ok rest
expected c [] rest e = absurd cc
expected c (x ∷ text) rest e = elim (cases_Bool (x == c)) [
  | inl here ↦ let same : given rest ≡ given text = rw here at e in let is : rest ≡ text = cc in rw (here, is) refl
  | inr other ↦ absurd (let none = rw other at e in cc)
]

pub not_expected : (c : ℕ) (text : List ℕ) → None ≡ behind c text → expect c text ≡ Err (Syntax, length text)
not_expected c [] e = refl
not_expected c (x ∷ text) e = elim (cases_Bool (x == c)) [
  | inl here ↦ absurd (let none = rw here at e in cc)
  | inr other ↦ rw other refl
]

pub behind_second : (a b : ℕ) (text rest : List ℕ) → Some rest ≡ behind a text → behind b rest ≡ after_both a b text
behind_second a b [] rest e = absurd cc
behind_second a b (x ∷ []) rest e = elim (cases_Bool (x == a)) [
  | inl here ↦ let same : given rest ≡ given [] = rw here at e in let is : rest ≡ [] = cc in rw is refl
  | inr other ↦ absurd (let none = rw other at e in cc)
]
behind_second a b (x ∷ y ∷ ys) rest e = elim (cases_Bool (x == a)) [
  | inl here ↦ let same : given rest ≡ given (y ∷ ys) = rw here at e in let is : rest ≡ y ∷ ys = cc in rw (is, here) refl
  | inr other ↦ absurd (let none = rw other at e in cc)
]

pub no_second : (a b : ℕ) (text : List ℕ) → None ≡ behind a text → None ≡ after_both a b text
no_second a b [] e = refl
no_second a b (x ∷ []) e = refl
no_second a b (x ∷ y ∷ ys) e = elim (cases_Bool (x == a)) [
  | inl here ↦ absurd (let none = rw here at e in cc)
  | inr other ↦ rw other refl
]

pub both_expected : (a b : ℕ) (text rest : List ℕ) → Some rest ≡ after_both a b text → expect_both a b text ≡ Ok rest
both_expected a b [] rest e = absurd cc
both_expected a b (x ∷ []) rest e = absurd cc
both_expected a b (x ∷ y ∷ ys) rest e = elim (cases_Bool (x == a && y == b)) [
  | inl here ↦ let same : given rest ≡ given ys = rw here at e in let is : rest ≡ ys = cc in rw (here, is) refl
  | inr other ↦ absurd (let none = rw other at e in cc)
]

pub both_not_expected : (a b : ℕ) (text : List ℕ) → None ≡ after_both a b text → expect_both a b text ≡ Err (Syntax, length text)
both_not_expected a b [] e = refl
both_not_expected a b (x ∷ []) e = refl
both_not_expected a b (x ∷ y ∷ ys) e = elim (cases_Bool (x == a && y == b)) [
  | inl here ↦ absurd (let none = rw here at e in cc)
  | inr other ↦ rw other refl
]

pub dot_is : (text rest : List ℕ) (b : Bool) → Some rest ≡ behind dot text → b ≡ begins_gap rest → b ≡ true → dot_at text ≡ Ok rest
dot_is [] rest b e gap holds = absurd cc
dot_is (x ∷ text) rest b e gap holds = elim (cases_Bool (x == dot)) [
  | inl here ↦
      let same : given rest ≡ given text = rw here at e in
      let is : rest ≡ text = cc in
      let goes : begins_gap text ≡ true = ap begins_gap (sym is) ∙ sym gap ∙ holds in
      rw (here, goes, is) refl
  | inr other ↦ absurd (let none = rw other at e in cc)
]

pub dot_goes_on : (text rest : List ℕ) (b : Bool) → Some rest ≡ behind dot text → b ≡ begins_gap rest → b ≡ false → dot_at text ≡ Err (Syntax, length text)
dot_goes_on [] rest b e gap holds = absurd cc
dot_goes_on (x ∷ text) rest b e gap holds = elim (cases_Bool (x == dot)) [
  | inl here ↦
      let same : given rest ≡ given text = rw here at e in
      let is : rest ≡ text = cc in
      let goes : begins_gap text ≡ false = ap begins_gap (sym is) ∙ sym gap ∙ holds in
      rw (here, goes) refl
  | inr other ↦ absurd (let none = rw other at e in cc)
]

pub no_dot : (text : List ℕ) → None ≡ behind dot text → dot_at text ≡ Err (Syntax, length text)
no_dot [] e = refl
no_dot (x ∷ text) e = elim (cases_Bool (x == dot)) [
  | inl here ↦ absurd (let none = rw here at e in cc)
  | inr other ↦ rw other refl
]

-- ---- the bytes of the first characters

pub passed_bytes : (text rest : List ℕ) (n : ℕ) → IsUtf8 text → IsUtf8 rest → chars rest ≡ drop n (chars text) → length text ≡ length (encode_utf8_all (take n (chars text))) + length rest
passed_bytes text rest n u v e =
    let whole : encode_utf8_all (take n (chars text)) ++ encode_utf8_all (drop n (chars text)) ≡ text = sym (encodes-append (take n (chars text)) (drop n (chars text))) ∙ ap encode_utf8_all (take-append-drop n (chars text)) ∙ encodes-chars text u in
    let left : encode_utf8_all (drop n (chars text)) ≡ rest = ap encode_utf8_all (sym e) ∙ encodes-chars rest v in
    let len = ap length whole in
    let behind = ap length left in
    omega (arith, length-append (encode_utf8_all (take n (chars text))) (encode_utf8_all (drop n (chars text))))

pub one_passed : (n : ℕ) (cs rest behind : List ℕ) (c : ℕ) → rest ≡ drop n cs → rest ≡ c ∷ behind → behind ≡ drop (n + 1) cs
one_passed n cs rest behind c e f = ap (drop 1) (sym f ∙ e) ∙ drop-drop 1 n cs

pub all_passed : (text rest : List ℕ) (i n : ℕ) → IsUtf8 text → rest ≡ drop i (chars text) → rest ≡ [] → i ≤ n → length text ≡ length (encode_utf8_all (take n (chars text)))
all_passed text rest i n u e none le =
    let left : length (drop i (chars text)) ≡ 0 = ap length (sym e ∙ none) in
    let few : length (chars text) ≤ n = let len = length-drop i (chars text) in omega arith in
    let whole : encode_utf8_all (take n (chars text)) ≡ text = ap encode_utf8_all (take_all n (chars text) few) ∙ encodes-chars text u in
    sym (ap length whole)
