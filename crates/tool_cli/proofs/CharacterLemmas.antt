-- Columns count the characters of a line.
use Rattle.std.proofs.Common.{◌≡◌, ◌∙◌, ◌≤◌, ◌<◌, ◌+◌, ◌/◌, ◌%◌, ℕ, Bool, true, false, cond, List, [], ◌∷◌, length, one-add, refl, ap, ap₂, arith}
use Rattle.std.proofs.lemmas.List.Sums.{sum_by-cons, sum_by-append}
use Rattle.std.specs.Prelude.{nat_lt}
use Rattle.std.specs.Char.{encode_utf8}
use Rattle.std.specs.List.{count_by}
use Rattle.std.specs.Str.{encode_utf8_all}
use Rattle.std.proofs.lemmas.Bool.Decides.{nat_tests}
use Rattle.tool_cli.specs.Place.{begins_character, ColumnsAreCharacters}
use Rattle.tool_cli.proofs.KindLemmas.{by_test}

goes_on : (b : ℕ) → 128 ≤ b → b < 192 → begins_character b ≡ false
goes_on b from below = grind (arith, nat_tests)

low_begins : (b : ℕ) → b < 128 → begins_character b ≡ true
low_begins b below = grind (arith, nat_tests)

high_begins : (b : ℕ) → 192 ≤ b → begins_character b ≡ true
high_begins b from = grind (arith, nat_tests)

abbrev one_if : Bool → ℕ
one_if b = cond b 1 0

count_more : (b : ℕ) (bs : List ℕ) → count_by begins_character (b ∷ bs) ≡ one_if (begins_character b) + count_by begins_character bs
count_more b bs = sum_by-cons (λ x. cond (begins_character x) 1 0) b bs

-- the first byte begins a character and none after it does
first : (b : ℕ) (bs : List ℕ) → begins_character b ≡ true → count_by begins_character bs ≡ 0 → count_by begins_character (b ∷ bs) ≡ 1
first b bs begins none = count_more b bs ∙ ap₂ (λ t n. one_if t + n) begins none

next : (bits : ℕ) (bs : List ℕ) → count_by begins_character bs ≡ 0 → count_by begins_character ((128 + bits % 64) ∷ bs) ≡ 0
next bits bs none =
    let small : bits % 64 < 64 = omega arith in
    count_more (128 + bits % 64) bs ∙ ap₂ (λ t n. one_if t + n) (goes_on (128 + bits % 64) (omega arith) (omega arith)) none

-- one byte of each encoded character begins a character
one_begins : (c : ℕ) → count_by begins_character (encode_utf8 c) ≡ 1
unfolding encode_utf8
one_begins c =
    by_test (nat_lt c 128) (count_by begins_character (encode_utf8 c) ≡ 1)
    (λ e. rw e (first c [] (low_begins c (grind (arith, nat_tests))) refl))
    (λ one. by_test (nat_lt c 2048) (count_by begins_character (encode_utf8 c) ≡ 1)
    (λ e. rw (one, e) (first (192 + c / 64) last (high_begins (192 + c / 64) (omega arith)) last_none))
    (λ two. by_test (nat_lt c 65536) (count_by begins_character (encode_utf8 c) ≡ 1)
    (λ e. rw (one, two, e) (first (224 + c / 4096) last_two (high_begins (224 + c / 4096) (omega arith)) last_two_none))
    (λ three. rw (one, two, three) (first (240 + c / 262144) last_three (high_begins (240 + c / 262144) (omega arith)) (next (c / 4096) last_two last_two_none)))))
  where
    last : List ℕ
    last = (128 + c % 64) ∷ []

    last_two : List ℕ
    last_two = (128 + c / 64 % 64) ∷ last

    last_three : List ℕ
    last_three = (128 + c / 4096 % 64) ∷ last_two

    last_none : count_by begins_character last ≡ 0
    last_none = next c [] refl

    last_two_none : count_by begins_character last_two ≡ 0
    last_two_none = next (c / 64) last last_none

each_begins : (cs : List ℕ) → count_by begins_character (encode_utf8_all cs) ≡ length cs
each_begins [] = refl
each_begins (c ∷ cs) =
    sum_by-append (λ x. cond (begins_character x) 1 0) (encode_utf8 c) (encode_utf8_all cs) ∙ (ap₂ (λ m n. m + n) (one_begins c) (each_begins cs) ∙ one-add (length cs))

pub columns_count : ColumnsAreCharacters
columns_count = λ text at characters is. ap (λ l. count_by begins_character l + 1) is ∙ ap (λ n. n + 1) (each_begins characters)
