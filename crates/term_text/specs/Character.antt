-- The characters of term text, by their code points.
use Rattle.std.specs.Prelude.{ℕ, ◌==◌, ◌||◌, ◌≤◌, Bool, Option, Some, None, List, [], ◌∷◌, if◌then◌else◌}
use Rattle.std.specs.Int.{is_in_range}
use Rattle.std.specs.Char.{is_ascii_alphanumeric}

abbrev pub line_feed : ℕ
line_feed = 10

abbrev pub double_quote : ℕ
double_quote = 34

abbrev pub number_sign : ℕ
number_sign = 35

abbrev pub percent : ℕ
percent = 37

abbrev pub single_quote : ℕ
single_quote = 39

abbrev pub plus : ℕ
plus = 43

abbrev pub comma : ℕ
comma = 44

abbrev pub minus : ℕ
minus = 45

abbrev pub dot : ℕ
dot = 46

abbrev pub less : ℕ
less = 60

abbrev pub equals : ℕ
equals = 61

abbrev pub greater : ℕ
greater = 62

abbrev pub open_bracket : ℕ
open_bracket = 91

abbrev pub backslash : ℕ
backslash = 92

abbrev pub close_bracket : ℕ
close_bracket = 93

abbrev pub open_brace : ℕ
open_brace = 123

abbrev pub bar : ℕ
bar = 124

abbrev pub close_brace : ℕ
close_brace = 125

-- white space: horizontal and vertical tabs, line feeds, form feeds, carriage returns, spaces
abbrev pub is_white_space : ℕ → Bool
is_white_space c = is_in_range 9 13 c || c == 32

-- whether a bare word can go on with a character: letters, digits, `_` and `@`
abbrev pub is_word : ℕ → Bool
is_word c = is_ascii_alphanumeric c || (c == 95 || c == 64)

-- the character that an escape of a backslash and this character means, None if that is no escape (Erlang Reference
-- Manual, "Escape Sequences"; the others are not supported)
abbrev pub escaped : ℕ → Option ℕ
escaped c =
    if c == 92 then Some 92
    else if c == 39 then Some 39
    else if c == 34 then Some 34
    else if c == 110 then Some 10
    else if c == 114 then Some 13
    else if c == 116 then Some 9
    else None

-- the text does not begin with an ASCII character
abbrev pub EndsAscii : List ℕ → Type 0
EndsAscii [] = Unit {0}
EndsAscii (c ∷ text) = 128 ≤ c
