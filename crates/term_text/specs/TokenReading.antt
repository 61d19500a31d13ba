-- Reading from left to right, up to the first fault: steps and tokens. What the characters of a token spell is defined
-- in Tokens.antt.
use Rattle.std.specs.Prelude.{ℕ, zero, suc, ◌≡◌, ◌+◌, ◌*◌, ◌==◌, ◌&&◌, ◌||◌, ℤ, pos, neg_ℤ, List, [], ◌∷◌, ◌++◌, length, take, drop, Bool, true, false, not, nat_le, nat_lt, Option, Some, None, Result, Ok, Err, if◌then◌else◌}
use Rattle.std.specs.List.{prefix_len}
use Rattle.std.specs.Char.{is_ascii_digit, is_ascii_lowercase, digit_value}
use Rattle.std.specs.Option.{option_map}
use Rattle.term_core.specs.Sizes.{atom_limit}
use Rattle.term_text.specs.declared.stop.Cause.{Cause}
use Rattle.term_text.specs.declared.stop.Cause.TheVariants.{TooLong, Syntax, IntegerRange, UnsupportedEscape}
use Rattle.term_text.specs.declared.stop.Stop.{Stop}
use Rattle.term_text.specs.declared.stop.Stop.TheVariants as stops
use Rattle.term_text.specs.declared.token.Opening.{Opening}
use Rattle.term_text.specs.declared.token.Marks.{Marks}
use Rattle.term_text.specs.declared.token.Opening.TheVariants as opens
use Rattle.term_text.specs.Character.{line_feed, percent, plus, minus, dot, backslash, single_quote, double_quote, open_brace, open_bracket, number_sign, less, is_white_space, is_word, escaped}

-- what is wrong, and the number of characters from there to the end
abbrev pub Fault : Type 0
Fault = Cause × ℕ

-- what was read, and the text that follows
abbrev pub Read : Type 0 → Type 0
Read X = Result (X × List ℕ) Fault

infixl 10 ◌>>=◌
abbrev pub ◌>>=◌ : {A B : Type 0} → Result A Fault → (A → Result B Fault) → Result B Fault
(Ok x) >>= f = f x
(Err e) >>= f = Err e

-- a stop that a function returned is what reading gives, unless memory ran out
abbrev pub Fails : {Y : Type 0} → Stop → Result Y Fault → Type 0
Fails stops.Memory read = Unit {0}
Fails (stops.At cause left) read = read ≡ Err (cause, left)

abbrev pub Gives : {X Y : Type 0} → (X → Y) → Result X Stop → Result Y Fault → Type 0
Gives view (Ok x) read = read ≡ Ok (view x)
Gives view (Err e) read = Fails e read

-- a fault at the beginning of this text
abbrev pub stop : {X : Type 0} → Cause → List ℕ → Result X Fault
stop cause text = Err (cause, length text)

-- the text after the white space and comments at its beginning; the flag says that a comment has begun
abbrev pub after_gap : Bool → List ℕ → List ℕ
after_gap in_comment [] = []
after_gap true (c ∷ cs) = after_gap (not (c == line_feed)) cs
after_gap false (c ∷ cs) =
    if c == percent then after_gap true cs else if is_white_space c then after_gap false cs else c ∷
    cs

-- One step of reading. It gives whether to go on, what was made so far, and the text that follows.
abbrev pub Step : Type 0 → Type 0
Step S = S → List ℕ → Result (Bool × S × List ℕ) Fault

unfoldable pub steps : {S : Type 0} → Step S → ℕ → S → List ℕ → Read S
steps step zero s text = Err (Syntax, 0)
steps step (suc n) s text = step s text >>= λ t. if t.0 then steps step n t.1 t.2 else Ok (t.1, t.2)

abbrev pub all_steps : {S : Type 0} → Step S → S → List ℕ → Read S
all_steps step s text = steps step (suc (length text)) s text

abbrev pub expect : ℕ → List ℕ → Result (List ℕ) Fault
expect c [] = Err (Syntax, 0)
expect c (x ∷ xs) = if x == c then Ok xs else stop Syntax (x ∷ xs)

-- reads two characters that are one token
abbrev pub expect_both : ℕ → ℕ → List ℕ → Result (List ℕ) Fault
expect_both a b [] = Err (Syntax, 0)
expect_both a b (x ∷ []) = stop Syntax (x ∷ [])
expect_both a b (x ∷ y ∷ ys) = if x == a && y == b then Ok ys else stop Syntax (x ∷ y ∷ ys)

abbrev pub begins : (ℕ → Bool) → List ℕ → Bool
begins p [] = false
begins p (c ∷ cs) = p c

-- the text after a character, None if the text doesn't begin with it
abbrev pub behind : ℕ → List ℕ → Option (List ℕ)
behind c [] = None
behind c (x ∷ xs) = if x == c then Some xs else None

abbrev pub is_sign : ℕ → Bool
is_sign c = c == plus || c == minus

-- the first token of a term, and the text to read the term from
abbrev pub opening : List ℕ → Option (Opening × List ℕ)
opening [] = None
opening (c ∷ cs) =
    if is_ascii_digit c then Some (opens.Integer, c ∷ cs)
    else if is_sign c then (if begins is_ascii_digit cs then Some (opens.Integer, c ∷ cs) else None)
    else if is_ascii_lowercase c then Some (opens.Word, c ∷ cs)
    else if c == single_quote then Some (opens.QuotedAtom, cs)
    else if c == double_quote then Some (opens.String, cs)
    else if c == open_brace then Some (opens.Tuple, cs)
    else if c == open_bracket then Some (opens.List, cs)
    else if c == number_sign then option_map (λ rest. (opens.Map, rest)) (behind open_brace cs)
    else if c == less then option_map (λ rest. (opens.Binary, rest)) (behind less cs)
    else None

abbrev pub signed : Bool → ℕ → ℤ
signed negative n = if negative then neg_ℤ (pos n) else pos n

abbrev pub fits : Bool → ℕ → Bool
fits negative n = nat_le n (if negative then 9223372036854775808 else 9223372036854775807)

-- the number of the digits at the beginning, which continue the number n, and the text after them
abbrev pub number_run : ℕ → List ℕ → ℕ × List ℕ
number_run n [] = (n, [])
number_run n (c ∷ cs) =
    if is_ascii_digit c then number_run (n * 10 + digit_value c) cs else (n, c ∷ cs)

abbrev pub number_at : Bool → List ℕ → List ℕ → Read ℤ
number_at negative start text =
    if fits negative (number_run 0 text).0 then Ok
    (signed negative (number_run 0 text).0, (number_run 0 text).1) else stop IntegerRange start

-- whether the text begins with a minus, and the text after the sign, if any
abbrev pub after_sign : List ℕ → Bool × List ℕ
after_sign [] = (false, [])
after_sign (c ∷ cs) =
    if c == minus then (true, cs) else if c == plus then (false, cs) else (false, c ∷ cs)

unfoldable pub integer_at : List ℕ → Read ℤ
integer_at text = number_at (after_sign text).0 text (after_sign text).1

-- reads a bare word
unfoldable pub word_at : List ℕ → Read (List ℕ)
word_at text =
    if nat_lt atom_limit (prefix_len is_word text) then stop TooLong (drop atom_limit text)
    else Ok (take (prefix_len is_word text) text, drop (prefix_len is_word text) text)

abbrev pub escape_as : Option ℕ → List ℕ → List ℕ → Read ℕ
escape_as None start rest = stop UnsupportedEscape start
escape_as (Some c) start rest = Ok (c, rest)

abbrev pub escape_at : List ℕ → List ℕ → Read ℕ
escape_at start [] = Err (Syntax, 0)
escape_at start (e ∷ rest) = escape_as (escaped e) start rest

-- whether a character is allowed, where only bytes are, or any
abbrev pub is_allowed : Bool → ℕ → Bool
is_allowed only_bytes c = not only_bytes || nat_le c 255

unfoldable pub character_at : Bool → List ℕ → Read ℕ
character_at only_bytes [] = Err (Syntax, 0)
character_at only_bytes (c ∷ cs) =
    if c == backslash then escape_at (c ∷ cs) cs
    else if is_allowed only_bytes c then Ok (c, cs)
    else stop IntegerRange (c ∷ cs)

abbrev pub marked : Bool → List ℕ → Read (Option ℕ)
marked only_bytes text = character_at only_bytes text >>= λ x. Ok (Some x.0, x.1)

-- reads the next quoted character, of which there are this many so far; None at the closing mark
unfoldable pub next_quoted : Marks → ℕ → List ℕ → Read (Option ℕ)
next_quoted m count [] = Err (Syntax, 0)
next_quoted m count (c ∷ text) =
    if c == m.mark then Ok (None, text)
    else if count == m.room then stop m.past (c ∷ text)
    else marked m.only_bytes (c ∷ text)

abbrev pub pushed : List ℕ → Option ℕ → List ℕ → Bool × List ℕ × List ℕ
pushed cs None text = (false, cs, text)
pushed cs (Some c) text = (true, cs ++ c ∷ [], text)

unfoldable pub quoted_step : Marks → Step (List ℕ)
quoted_step m cs text = next_quoted m (length cs) text >>= λ x. Ok (pushed cs x.0 x.1)

-- whether a character is ASCII and stands for itself between these quotation marks
abbrev pub is_plain : ℕ → ℕ → Bool
is_plain mark c = nat_lt c 128 && (not (c == mark) && not (c == backslash))

-- reads the characters up to the closing mark
abbrev pub quoted_at : Marks → List ℕ → Read (List ℕ)
quoted_at m text = all_steps (quoted_step m) [] text

-- the text after two characters, None if the text doesn't begin with them
abbrev pub after_both : ℕ → ℕ → List ℕ → Option (List ℕ)
after_both a b [] = None
after_both a b (x ∷ []) = None
after_both a b (x ∷ y ∷ ys) = if x == a && y == b then Some ys else None

-- whether the text begins with white space or a comment, or is empty
abbrev pub begins_gap : List ℕ → Bool
begins_gap [] = true
begins_gap (c ∷ cs) = is_white_space c || c == percent

-- reads a dot, which a gap or the end has to follow
abbrev pub dot_at : List ℕ → Result (List ℕ) Fault
dot_at [] = Err (Syntax, 0)
dot_at (c ∷ cs) = if c == dot && begins_gap cs then Ok cs else stop Syntax (c ∷ cs)
