-- Places of bytes, worked out by hand.
use Rattle.std.proofs.Common.{◌≡◌, ℕ, List, [], ◌∷◌, ◌++◌, refl, codes}
use Rattle.std.specs.Prelude.{replicate}
use Rattle.std.specs.List.{flat_map}
use Rattle.tool_cli.specs.Place.{before_in_line, on_in_line, shown_before, shown_on, line_number, column_number, room_for}

-- the numbers of line and column, and the line with the caret below it
abbrev seen : List ℕ → ℕ → (ℕ × ℕ) × List ℕ
seen text at = (
  (line_number text at, column_number text at),
  (shown_before (before_in_line text at) ++ shown_on (on_in_line text at) ++ 10 ∷ [])
      ++ flat_map room_for (shown_before (before_in_line text at)) ++ 94 ∷ [],
)

in_the_first_line : seen (codes "[]. {1,}.") 7 ≡ ((1, 8), codes "[]. {1,}.\n       ^")
in_the_first_line = refl

at_the_beginning : seen [] 0 ≡ ((1, 1), codes "\n^")
at_the_beginning = refl

behind_the_end : seen (codes "[].\na") 5 ≡ ((2, 2), codes "a\n ^")
behind_the_end = refl

at_a_line_feed : seen (codes "a\nbc\nd") 4 ≡ ((2, 3), codes "bc\n  ^")
at_a_line_feed = refl

behind_a_line_feed : seen (codes "a\nbc\n") 5 ≡ ((3, 1), codes "\n^")
behind_a_line_feed = refl

under_a_tab : seen (codes "a\n\t{,}") 4 ≡ ((2, 3), codes "\t{,}\n\t ^")
under_a_tab = refl

-- the letter ö takes two bytes, and one column
a_letter_of_two_bytes : seen (34 ∷ 195 ∷ 182 ∷ 34 ∷ 44 ∷ []) 4 ≡ ((1, 4), 34 ∷ 195 ∷ 182 ∷ 34 ∷ 44 ∷ codes "\n   ^")
a_letter_of_two_bytes = refl

-- of a long line the part around the byte is shown; the letter ö, which is cut, is left out
a_long_line : shown_before (replicate 99 97 ++ 195 ∷ 182 ∷ replicate 159 98) ≡ codes "..." ++ replicate 159 98
a_long_line = refl

the_rest_of_a_long_line : shown_on (replicate 159 97 ++ 195 ∷ 182 ∷ replicate 99 98) ≡ replicate 159 97 ++ codes "..."
the_rest_of_a_long_line = refl

a_line_that_fits : shown_before (replicate 160 97) ++ shown_on (replicate 160 98) ≡ replicate 160 97 ++ replicate 160 98
a_line_that_fits = refl
