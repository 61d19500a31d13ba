-- Why a text is rejected at a place: what is due there, given the text before, and what is there instead. The
-- conditions at a place have an order: a term begins, a level is left, there is room for one more, an integer is in
-- range, and, once it is read, a key is new. All conditions before the cause are met, so a text has at most one cause.
use Rattle.std.specs.Prelude.{ℕ, suc, ◌≡◌, ◌≢◌, ◌+◌, ◌<◌, ◌≤◌, ◌⊎◌, ℤ, pos, negsuc, List, [], ◌∷◌, ◌++◌, length, IsTrue, false, Some, None}
use Rattle.std.specs.List.{Contains}
use Rattle.std.specs.Char.{is_ascii_digit, is_ascii_lowercase}
use Rattle.std.specs.Str.{encode_utf8_all, chars}
use Rattle.term_core.specs.Datum.{Datum, cell_count}
use Rattle.term_core.specs.Sizes.{atom_limit, tuple_limit, map_limit, list_limit, binary_limit, depth_limit}
use Rattle.term_text.specs.Character.{percent, is_white_space, plus, minus, comma, dot, backslash, single_quote, double_quote, open_brace, close_brace, open_bracket, close_bracket, bar, number_sign, equals, less, greater, is_word, escaped}
use Rattle.term_text.specs.Tokens.{Gap, Number, Integer, IsLastComment}
use Rattle.term_text.specs.Text.{Segment, Spelled, Pair, BeginsGap}
use Rattle.term_text.specs.declared.fault.TextFault.{TextFault}
use Rattle.term_text.specs.declared.fault.TextFault.TheVariants as faults

-- what has elements: a tuple or a list
pub data Row : Type 0 where
  in_tuple : Row
  in_list : Row

-- the largest number of elements
abbrev pub most_elements : Row → ℕ
most_elements in_tuple = tuple_limit
most_elements in_list = list_limit

-- what is in quotes: an atom, a string whose characters have this number of levels left, or the bytes of a binary
pub data Quotes : Type 0 where
  of_atom : Quotes
  of_string : ℕ → Quotes
  of_bytes : Quotes

-- the mark that ends the quotes
abbrev pub mark_of : Quotes → ℕ
mark_of of_atom = single_quote
mark_of (of_string levels) = double_quote
mark_of of_bytes = double_quote

-- the largest number of characters, counting those of the list or binary that the quotes continue
abbrev pub most_characters : Quotes → ℕ
most_characters of_atom = atom_limit
most_characters (of_string levels) = list_limit
most_characters of_bytes = binary_limit

-- a character is allowed in the quotes
abbrev pub MayStand : Quotes → ℕ → Type 0
MayStand of_atom c = Unit {0}
MayStand (of_string levels) c = 0 < levels
MayStand of_bytes c = c < 256

-- a level is left for a character in the quotes
abbrev pub HasLevel : Quotes → Type 0
HasLevel of_atom = Unit {0}
HasLevel (of_string levels) = 0 < levels
HasLevel of_bytes = Unit {0}

-- no pair has the key
abbrev pub IsNew : Datum → List (Datum × Datum) → Type 0
IsNew key es = (v : Datum) → ¬ Contains es (key, v)

-- what may be due at a place of a text
pub data Place : Type 0 where
  -- a term and its dot
  a_sentence : Place
  -- a term, given the number of levels left, and the number of elements of the list that a list or string there
  -- continues
  a_term : ℕ → ℕ → Place
  -- an element, given the number of levels left and the number of elements before it
  an_element : Row → ℕ → ℕ → Place
  -- a pair, given the number of levels left and the pairs before it
  a_pair : ℕ → List (Datum × Datum) → Place
  -- a segment, given the number of bytes before it
  a_segment : ℕ → Place
  -- a character in quotes, given the number of characters before it, or the mark that ends the quotes
  a_character : Quotes → ℕ → Place
  -- a character of a bare word, given the number of characters before it
  a_letter : ℕ → Place

-- the text begins with a character
abbrev pub BeginsWith : ℕ → List ℕ → Type 0
BeginsWith c [] = ⊥
BeginsWith c (x ∷ text) = x ≡ c

-- the text begins with two characters that are one token
abbrev pub BeginsWithBoth : ℕ → ℕ → List ℕ → Type 0
BeginsWithBoth a b [] = ⊥
BeginsWithBoth a b (x ∷ text) = (x ≡ a) × BeginsWith b text

-- neither white space nor a comment begins
abbrev pub EndsGap : List ℕ → Type 0
EndsGap [] = Unit {0}
EndsGap (c ∷ text) = (is_white_space c ≡ false) × (c ≢ percent)

-- the white space and comments at the beginning of a text, all of them; the end of the text may end the last comment
pub data WholeGap : List ℕ → List ℕ → Type 0 where
  up_to : {text rest : List ℕ} → Gap text rest → EndsGap rest → WholeGap text rest
  to_the_end : {text rest : List ℕ} → Gap text rest → IsLastComment rest → WholeGap text []

-- Reading a text from its beginning gives no fault up to a rest, the last argument, and there this place is due. After
-- an opening, something is due unless the closing follows at once.
pub data Due (text : List ℕ) : Place → List ℕ → Type 0 where
  first : {t : List ℕ} → WholeGap text t → Due text a_sentence t
  behind_dot : {t u v w : List ℕ} {d : Datum} → Due text a_sentence t → Spelled depth_limit t d u
      → Gap u (dot ∷ v) → BeginsGap v → WholeGap v w → Due text a_sentence w
  outermost : {c : ℕ} {t : List ℕ} → Due text a_sentence (c ∷ t)
      → Due text (a_term depth_limit 0) (c ∷ t)
  in_braces : {n k : ℕ} {t u : List ℕ} → Due text (a_term (suc n) k) (open_brace ∷ t) → WholeGap t u
      → ¬ BeginsWith close_brace u → Due text (an_element in_tuple n 0) u
  in_brackets : {n k : ℕ} {t u : List ℕ} → Due text (a_term (suc n) k) (open_bracket ∷ t)
      → WholeGap t u → ¬ BeginsWith close_bracket u → Due text (an_element in_list n k) u
  next_element : {r : Row} {n k : ℕ} {t u v w : List ℕ} {d : Datum} → Due text (an_element r n k) t
      → k < most_elements r → Spelled n t d u → Gap u (comma ∷ v) → WholeGap v w
      → Due text (an_element r n (suc k)) w
  element : {r : Row} {n k : ℕ} {t : List ℕ} → Due text (an_element r n k) t → k < most_elements r
      → Due text (a_term n 0) t
  tail : {n k : ℕ} {t u v w : List ℕ} {d : Datum} → Due text (an_element in_list n k) t
      → k < list_limit → Spelled n t d u → Gap u (bar ∷ v) → WholeGap v w
      → Due text (a_term n (suc k)) w
  in_map : {n k : ℕ} {t u : List ℕ} → Due text (a_term (suc n) k) (number_sign ∷ open_brace ∷ t)
      → WholeGap t u → ¬ BeginsWith close_brace u → Due text (a_pair n []) u
  next_pair : {n : ℕ} {es : List (Datum × Datum)} {t u v w : List ℕ} {key value : Datum}
      → Due text (a_pair n es) t → length es < map_limit → IsNew key es → Pair n t key value u
      → Gap u (comma ∷ v) → WholeGap v w → Due text (a_pair n ((key, value) ∷ es)) w
  key : {n : ℕ} {es : List (Datum × Datum)} {t : List ℕ} → Due text (a_pair n es) t
      → length es < map_limit → Due text (a_term n 0) t
  value : {n : ℕ} {es : List (Datum × Datum)} {t u v w : List ℕ} {k : Datum}
      → Due text (a_pair n es) t → length es < map_limit → IsNew k es → Spelled n t k u
      → Gap u (equals ∷ greater ∷ v) → WholeGap v w → Due text (a_term n 0) w
  in_binary : {n k : ℕ} {t u : List ℕ} → Due text (a_term (suc n) k) (less ∷ less ∷ t)
      → WholeGap t u → ¬ BeginsWithBoth greater greater u → Due text (a_segment 0) u
  next_segment : {k : ℕ} {t u v w bytes : List ℕ} → Due text (a_segment k) t → Segment t bytes u
      → k + length bytes ≤ binary_limit → Gap u (comma ∷ v) → WholeGap v w
      → Due text (a_segment (k + length bytes)) w
  in_atom : {n k : ℕ} {t : List ℕ} → Due text (a_term (suc n) k) (single_quote ∷ t)
      → Due text (a_character of_atom 0) t
  in_string : {n k : ℕ} {t : List ℕ} → Due text (a_term (suc n) k) (double_quote ∷ t)
      → Due text (a_character (of_string n) k) t
  in_bytes : {k : ℕ} {t : List ℕ} → Due text (a_segment k) (double_quote ∷ t)
      → Due text (a_character of_bytes k) t
  behind_plain : {q : Quotes} {k c : ℕ} {t : List ℕ} → Due text (a_character q k) (c ∷ t)
      → c ≢ mark_of q → c ≢ backslash → k < most_characters q → MayStand q c
      → Due text (a_character q (suc k)) t
  behind_escape : {q : Quotes} {k e c : ℕ} {t : List ℕ}
      → Due text (a_character q k) (backslash ∷ e ∷ t) → escaped e ≡ Some c → k < most_characters q
      → MayStand q c → Due text (a_character q (suc k)) t
  in_word : {n k c : ℕ} {t : List ℕ} → Due text (a_term (suc n) k) (c ∷ t)
      → IsTrue (is_ascii_lowercase c) → Due text (a_letter 0) (c ∷ t)
  next_letter : {k c : ℕ} {t : List ℕ} → Due text (a_letter k) (c ∷ t) → k < atom_limit
      → IsTrue (is_word c) → Due text (a_letter (suc k)) t

-- an integer begins: a digit, or a sign directly followed by one
pub data BeginsInteger : List ℕ → Type 0 where
  digit : {c : ℕ} {text : List ℕ} → IsTrue (is_ascii_digit c) → BeginsInteger (c ∷ text)
  sign : {s c : ℕ} {text : List ℕ} → (s ≡ plus) ⊎ (s ≡ minus) → IsTrue (is_ascii_digit c)
      → BeginsInteger (s ∷ c ∷ text)

-- a term begins, whether it is complete and correct or not
pub data BeginsTerm : List ℕ → Type 0 where
  an_integer : {text : List ℕ} → BeginsInteger text → BeginsTerm text
  a_word : {c : ℕ} {text : List ℕ} → IsTrue (is_ascii_lowercase c) → BeginsTerm (c ∷ text)
  an_atom : {text : List ℕ} → BeginsTerm (single_quote ∷ text)
  a_string : {text : List ℕ} → BeginsTerm (double_quote ∷ text)
  a_tuple : {text : List ℕ} → BeginsTerm (open_brace ∷ text)
  a_list : {text : List ℕ} → BeginsTerm (open_bracket ∷ text)
  a_map : {text : List ℕ} → BeginsTerm (number_sign ∷ open_brace ∷ text)
  a_binary : {text : List ℕ} → BeginsTerm (less ∷ less ∷ text)

-- a term, an element, a key or a string's character for which no level is left
pub data IsTooDeep (text : List ℕ) : List ℕ → Type 0 where
  deep_term : {k : ℕ} {rest : List ℕ} → Due text (a_term 0 k) rest → BeginsTerm rest
      → IsTooDeep text rest
  deep_element : {r : Row} {k : ℕ} {rest : List ℕ} → Due text (an_element r 0 k) rest
      → BeginsTerm rest → IsTooDeep text rest
  deep_key : {es : List (Datum × Datum)} {rest : List ℕ} → Due text (a_pair 0 es) rest
      → BeginsTerm rest → IsTooDeep text rest
  deep_character : {k c : ℕ} {rest : List ℕ} → Due text (a_character (of_string 0) k) (c ∷ rest)
      → c ≢ double_quote → IsTooDeep text (c ∷ rest)

-- one element, pair, byte, character or letter more than is allowed
pub data IsTooLong (text : List ℕ) : List ℕ → Type 0 where
  one_element : {r : Row} {n k : ℕ} {rest : List ℕ} → Due text (an_element r n k) rest → 0 < n
      → k ≡ most_elements r → BeginsTerm rest → IsTooLong text rest
  one_pair : {n : ℕ} {es : List (Datum × Datum)} {rest : List ℕ} → Due text (a_pair n es) rest → 0 < n
      → length es ≡ map_limit → BeginsTerm rest → IsTooLong text rest
  one_byte : {k : ℕ} {rest : List ℕ} → Due text (a_segment k) rest → k ≡ binary_limit
      → BeginsInteger rest → IsTooLong text rest
  one_character : {q : Quotes} {k c : ℕ} {rest : List ℕ} → Due text (a_character q k) (c ∷ rest)
      → HasLevel q → k ≡ most_characters q → c ≢ mark_of q → IsTooLong text (c ∷ rest)
  one_letter : {k c : ℕ} {rest : List ℕ} → Due text (a_letter k) (c ∷ rest) → k ≡ atom_limit
      → IsTrue (is_word c) → IsTooLong text (c ∷ rest)

-- a key that one of the pairs before it has
pub data IsKeyTwice (text : List ℕ) : List ℕ → Type 0 where
  key_twice : {n : ℕ} {es : List (Datum × Datum)} {t rest : List ℕ} {k v : Datum}
      → Due text (a_pair n es) t → length es < map_limit → Spelled n t k rest → Contains es (k, v)
      → IsKeyTwice text t

-- an integer that needs more than 64 bits
pub data IsWide : List ℕ → Type 0 where
  wide : {text rest : List ℕ} {n : ℕ} → Number text n rest → 9223372036854775807 < n → IsWide text
  wide_positive : {text rest : List ℕ} {n : ℕ} → Number text n rest → 9223372036854775807 < n
      → IsWide (plus ∷ text)
  wide_negative : {text rest : List ℕ} {n : ℕ} → Number text n rest → 9223372036854775808 < n
      → IsWide (minus ∷ text)

-- an integer that is not a byte: below 0 or above 255
abbrev pub IsNoByte : ℤ → Type 0
IsNoByte (pos n) = 255 < n
IsNoByte (negsuc n) = Unit {0}

-- an integer of more than 64 bits, or what is not a byte where a byte is due
pub data IsOutOfRange (text : List ℕ) : List ℕ → Type 0 where
  wide_term : {n k : ℕ} {rest : List ℕ} → Due text (a_term n k) rest → 0 < n → IsWide rest
      → IsOutOfRange text rest
  wide_segment : {k : ℕ} {rest : List ℕ} → Due text (a_segment k) rest → k < binary_limit
      → IsWide rest → IsOutOfRange text rest
  no_byte : {k : ℕ} {z : ℤ} {rest t : List ℕ} → Due text (a_segment k) rest → k < binary_limit
      → Integer rest z t → IsNoByte z → IsOutOfRange text rest
  no_byte_character : {k c : ℕ} {rest : List ℕ} → Due text (a_character of_bytes k) (c ∷ rest)
      → k < binary_limit → 255 < c → IsOutOfRange text (c ∷ rest)

-- a backslash in quotes, followed by a character that makes no escape
pub data IsNoEscape (text : List ℕ) : List ℕ → Type 0 where
  no_escape : {q : Quotes} {k e : ℕ} {rest : List ℕ}
      → Due text (a_character q k) (backslash ∷ e ∷ rest) → k < most_characters q → HasLevel q
      → escaped e ≡ None → IsNoEscape text (backslash ∷ e ∷ rest)

-- the text begins with a dot, followed by a gap or the end
abbrev pub BeginsDot : List ℕ → Type 0
BeginsDot [] = ⊥
BeginsDot (x ∷ text) = (x ≡ dot) × BeginsGap text

-- what may follow an element
abbrev pub FollowsElement : Row → List ℕ → Type 0
FollowsElement in_tuple text = BeginsWith comma text ⊎ BeginsWith close_brace text
FollowsElement in_list text =
    BeginsWith comma text ⊎ (BeginsWith bar text ⊎ BeginsWith close_bracket text)

-- what is not allowed where it is; it may be the end of the text
pub data IsUnexpected (text : List ℕ) : List ℕ → Type 0 where
  no_character : {q : Quotes} {k : ℕ} → Due text (a_character q k) [] → IsUnexpected text []
  no_escaped : {q : Quotes} {k : ℕ} → Due text (a_character q k) (backslash ∷ [])
      → k < most_characters q → MayStand q backslash → IsUnexpected text []
  no_term : {n k : ℕ} {rest : List ℕ} → Due text (a_term n k) rest → ¬ BeginsTerm rest
      → IsUnexpected text rest
  no_element : {r : Row} {n k : ℕ} {rest : List ℕ} → Due text (an_element r n k) rest
      → ¬ BeginsTerm rest → IsUnexpected text rest
  no_key : {n : ℕ} {es : List (Datum × Datum)} {rest : List ℕ} → Due text (a_pair n es) rest
      → ¬ BeginsTerm rest → IsUnexpected text rest
  no_segment : {k : ℕ} {rest : List ℕ} → Due text (a_segment k) rest → ¬ BeginsInteger rest
      → ¬ BeginsWith double_quote rest → IsUnexpected text rest
  behind_element : {r : Row} {n k : ℕ} {t u rest : List ℕ} {d : Datum}
      → Due text (an_element r n k) t → k < most_elements r → Spelled n t d u → WholeGap u rest
      → ¬ FollowsElement r rest → IsUnexpected text rest
  behind_tail : {n k : ℕ} {t u rest : List ℕ} {d : Datum} → Due text (a_term n (suc k)) t
      → Spelled n t d u → suc k + cell_count d ≤ list_limit → WholeGap u rest
      → ¬ BeginsWith close_bracket rest → IsUnexpected text rest
  after_key : {n : ℕ} {es : List (Datum × Datum)} {t u rest : List ℕ} {d : Datum}
      → Due text (a_pair n es) t → length es < map_limit → IsNew d es → Spelled n t d u
      → WholeGap u rest → ¬ BeginsWithBoth equals greater rest → IsUnexpected text rest
  behind_pair : {n : ℕ} {es : List (Datum × Datum)} {t u rest : List ℕ} {key value : Datum}
      → Due text (a_pair n es) t → length es < map_limit → IsNew key es → Pair n t key value u
      → WholeGap u rest → ¬ BeginsWith comma rest → ¬ BeginsWith close_brace rest
      → IsUnexpected text rest
  behind_segment : {k : ℕ} {t u rest bytes : List ℕ} → Due text (a_segment k) t → Segment t bytes u
      → k + length bytes ≤ binary_limit → WholeGap u rest → ¬ BeginsWith comma rest
      → ¬ BeginsWithBoth greater greater rest → IsUnexpected text rest
  no_dot : {t u rest : List ℕ} {d : Datum} → Due text a_sentence t → Spelled depth_limit t d u
      → WholeGap u rest → ¬ BeginsDot rest → IsUnexpected text rest

-- what begins at this byte of the text, in UTF-8, satisfies a condition
pub record StandsAt (at : ℕ) (text : List ℕ) (IsSuch : List ℕ → Type 0) : Type 0 where
  pub front : List ℕ
  pub rest : List ℕ
  pub whole : text ≡ front ++ rest
  pub place : at ≡ length (encode_utf8_all front)
  pub such : IsSuch rest

-- the cause that a fault names is at its place in the text
abbrev pub HasCause : List ℕ → TextFault → Type 0
HasCause bytes (faults.TooDeep at) = StandsAt at (chars bytes) (IsTooDeep (chars bytes))
HasCause bytes (faults.TooLong at) = StandsAt at (chars bytes) (IsTooLong (chars bytes))
HasCause bytes (faults.DuplicateKey at) = StandsAt at (chars bytes) (IsKeyTwice (chars bytes))
HasCause bytes (faults.Syntax at) = StandsAt at (chars bytes) (IsUnexpected (chars bytes))
HasCause bytes (faults.IntegerRange at) = StandsAt at (chars bytes) (IsOutOfRange (chars bytes))
HasCause bytes (faults.UnsupportedEscape at) = StandsAt at (chars bytes) (IsNoEscape (chars bytes))
HasCause bytes fault = Unit {0}
