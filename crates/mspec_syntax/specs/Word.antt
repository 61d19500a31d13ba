-- What an atom means in a specification. (ERTS User's Guide, "Match Specifications in Erlang", "Grammar":
-- MatchVariable.)
use Rattle.std.specs.Prelude.{ℕ, ◌==◌, nat_le, Bool, true, false, ◌&&◌, not, if◌then◌else◌, List, [], ◌∷◌, length}
use Rattle.std.specs.List.{list_all}
use Rattle.std.specs.Char.{is_ascii_digit}
use Rattle.std.specs.Str.Parse.{digits_value}
use Rattle.mspec_syntax.specs.declared.word.Word.{Word}
use Rattle.mspec_syntax.specs.declared.word.Word.TheVariants.{Variable, Misnumbered, Underscore, Object, Bindings, Plain}

-- the characters $, _ and 0
abbrev pub dollar : ℕ
dollar = 36

abbrev pub underscore : ℕ
underscore = 95

abbrev pub zero_digit : ℕ
zero_digit = 48

-- the largest number of digits of a variable's number, which is so at most 99,999,999
abbrev pub most_digits : ℕ
most_digits = 8

-- one or more decimal digits
abbrev pub are_digits : List ℕ → Bool
are_digits ds = not (length ds == 0) && list_all is_ascii_digit ds

-- at most as many digits as a variable's number may have, and no 0 before others
abbrev pub is_number : List ℕ → Bool
is_number [] = false
is_number (d ∷ []) = true
is_number (d ∷ e ∷ ds) = not (d == zero_digit) && nat_le (length (d ∷ e ∷ ds)) most_digits

abbrev pub is_just : ℕ → List ℕ → Bool
is_just c (d ∷ []) = d == c
is_just c ds = false

-- what an atom means that begins with $ and goes on with these characters
abbrev pub dollar_word : List ℕ → Word
dollar_word cs =
    if are_digits cs then (if is_number cs then Variable (digits_value 10 cs) else Misnumbered)
    else if is_just underscore cs then Object
    else if is_just dollar cs then Bindings
    else Plain

-- A variable is $N, where N is 0 or a number of 1 to 8 digits without leading zeros. Of the other atoms _, $_ and $$
-- have a meaning, and $ followed by other digits is rejected.
abbrev pub word_of : List ℕ → Word
word_of [] = Plain
word_of (c ∷ cs) =
    if c == dollar then dollar_word cs
    else if is_just underscore (c ∷ cs) then Underscore
    else Plain
