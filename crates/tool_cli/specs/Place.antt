-- The place of a byte in a text, as a person sees it: a line and a column.
use Rattle.std.specs.Prelude.{ℕ, Bool, not, length, ◌≡◌, ◌==◌, ◌+◌, ◌-◌, ◌&&◌, nat_le, nat_lt, List, [], ◌∷◌, ◌++◌, take, drop, codes, if◌then◌else◌}
use Rattle.std.specs.List.{after_last, before_first, before_last, count_by, flat_map}
use Rattle.std.specs.Fmt.{decimal}
use Rattle.std.specs.Str.{encode_utf8_all}

-- a line feed, after which the next line begins
abbrev pub is_feed : ℕ → Bool
is_feed byte = byte == 10

-- a byte that begins a character in UTF-8: any but a continuation byte (128 to 191)
abbrev pub begins_character : ℕ → Bool
begins_character byte = not (nat_le 128 byte && nat_lt byte 192)

-- what is before the byte in its line, and what is from the byte on
abbrev pub before_in_line : List ℕ → ℕ → List ℕ
before_in_line text at = after_last is_feed (take at text)

abbrev pub on_in_line : List ℕ → ℕ → List ℕ
on_in_line text at = before_first is_feed (drop at text)

-- the line and the column of the byte, from 1: one more than the line feeds before it, and than the characters before
-- it in its line
abbrev pub line_number : List ℕ → ℕ → ℕ
line_number text at = count_by is_feed (take at text) + 1

abbrev pub column_number : List ℕ → ℕ → ℕ
column_number text at = count_by begins_character (before_in_line text at) + 1

-- the bytes from the first that begins a character on
abbrev pub from_character : List ℕ → List ℕ
from_character [] = []
from_character (c ∷ cs) = if begins_character c then c ∷ cs else from_character cs

-- what is shown of a line before a byte: all, or dots and the last characters, in at most 160 bytes
abbrev pub shown_before : List ℕ → List ℕ
shown_before line =
    if nat_le (length line) 160 then line else codes "..." ++ from_character (drop (length line - 160) line)

-- what is shown of a line from a byte on: all, or the first characters, in less than 160 bytes, and dots
abbrev pub shown_on : List ℕ → List ℕ
shown_on line = if nat_le (length line) 160 then line else before_last begins_character (take 160 line) ++ codes "..."

-- a blank under a character, and a tab under a tab, so that both have the same width
abbrev pub room_for : ℕ → List ℕ
room_for byte = if begins_character byte then (if byte == 9 then 9 else 32) ∷ [] else []

-- three lines: the numbers of line and column, the part of the line around the byte, and a caret under the byte
abbrev pub place_lines : List ℕ → ℕ → List ℕ
place_lines text at =
    ((codes "line " ++ decimal (line_number text at)) ++ codes ", column " ++ decimal (column_number text at) ++ 10 ∷ [])
    ++ (shown_before (before_in_line text at) ++ shown_on (on_in_line text at) ++ 10 ∷ [])
    ++ flat_map room_for (shown_before (before_in_line text at)) ++ 94 ∷ 10 ∷ []

-- if the bytes before the byte in its line are UTF-8, the column is one more than their number of characters
abbrev pub ColumnsAreCharacters : Type 0
ColumnsAreCharacters =
    (text : List ℕ) (at : ℕ) (characters : List ℕ) → before_in_line text at ≡ encode_utf8_all characters
    → column_number text at ≡ length characters + 1
