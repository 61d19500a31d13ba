-- Term text (Erlang Reference Manual, "Data Types", "Terms"): what a text spells. Each relation has a text, what is
-- spelled at its beginning, and the text that follows.
use Rattle.std.specs.Prelude.{ℕ, suc, ◌≡◌, ◌<◌, ◌≤◌, ◌⊎◌, ℤ, pos, Option, Some, None, List, [], ◌∷◌, ◌++◌, length, IsTrue}
use Rattle.std.specs.List.{AllByRecursion}
use Rattle.std.specs.List.Sorted.{IsPermutation}
use Rattle.std.specs.Char.{is_ascii_lowercase}
use Rattle.std.specs.Str.{IsUtf8, chars}
use Rattle.std.specs.Prelude.{map as each}
use Rattle.term_core.specs.Datum.{Datum, items_of, entries_of, cells, cell_count}
use Rattle.term_core.specs.MapPairs.{AreRising}
use Rattle.term_core.specs.Datum.Datum.{integer, atom, tuple, map, nil, binary}
use Rattle.term_core.specs.Sizes.{atom_limit, tuple_limit, map_limit, list_limit, binary_limit, depth_limit}
use Rattle.term_text.specs.Character.{percent, comma, dot, single_quote, double_quote, open_brace, close_brace, open_bracket, close_bracket, bar, number_sign, equals, less, greater, is_white_space, is_word}
use Rattle.term_text.specs.Tokens.{Gap, IsLastComment, Run, Integer, Quoted}

-- a character as an element of a list
abbrev pub code_point : ℕ → Datum
code_point c = integer (pos c)

-- a text begins with a segment of a binary: an integer that is a byte, or a string of characters that are bytes
pub data Segment : List ℕ → List ℕ → List ℕ → Type 0 where
  a_byte : {text rest : List ℕ} {b : ℕ} → Integer text (pos b) rest → b < 256
      → Segment text (b ∷ []) rest
  some_bytes : {text rest bytes : List ℕ} → Quoted double_quote text bytes rest
      → AllByRecursion (λ b. b < 256) bytes → Segment (double_quote ∷ text) bytes rest

-- one or more segments separated by commas
pub data Segments : List ℕ → List ℕ → List ℕ → Type 0 where
  last_segment : {text t rest bs : List ℕ} → Segment text bs t → Gap t rest → Segments text bs rest
  more_segments : {text t u v rest bs cs : List ℕ} → Segment text bs t → Gap t (comma ∷ u) → Gap u v
      → Segments v cs rest → Segments text (bs ++ cs) rest

mutual
  -- A term nested at most this many levels deep, counting itself as one. Elements, tails, keys, values and the
  -- characters of a string are one level below their term.
  pub data Spelled : ℕ → List ℕ → Datum → List ℕ → Type 0 where
    an_integer : {n : ℕ} {text rest : List ℕ} {z : ℤ} → Integer text z rest
        → Spelled (suc n) text (integer z) rest
    a_word : {n c : ℕ} {text cs rest : List ℕ} → IsTrue (is_ascii_lowercase c)
        → Run is_word (c ∷ text) cs rest → length cs ≤ atom_limit
        → Spelled (suc n) (c ∷ text) (atom cs) rest
    a_quoted_atom : {n : ℕ} {text cs rest : List ℕ} → Quoted single_quote text cs rest
        → length cs ≤ atom_limit → Spelled (suc n) (single_quote ∷ text) (atom cs) rest
    an_empty_string : {n : ℕ} {rest : List ℕ}
        → Spelled (suc n) (double_quote ∷ double_quote ∷ rest) nil rest
    a_string : {n : ℕ} {text cs rest : List ℕ} → Quoted double_quote text cs rest
        → length cs ≤ list_limit → Spelled (suc (suc n)) (double_quote ∷ text)
        (cells (each code_point cs) nil) rest
    an_empty_tuple : {n : ℕ} {text rest : List ℕ} → Gap text (close_brace ∷ rest)
        → Spelled (suc n) (open_brace ∷ text) (tuple (items_of [])) rest
    a_tuple : {n : ℕ} {text t rest : List ℕ} {ds : List Datum} → Gap text t
        → Elements n t ds (close_brace ∷ rest) → length ds ≤ tuple_limit
        → Spelled (suc n) (open_brace ∷ text) (tuple (items_of ds)) rest
    an_empty_list : {n : ℕ} {text rest : List ℕ} → Gap text (close_bracket ∷ rest)
        → Spelled (suc n) (open_bracket ∷ text) nil rest
    a_list : {n : ℕ} {text t rest : List ℕ} {ds : List Datum} → Gap text t
        → Elements n t ds (close_bracket ∷ rest) → length ds ≤ list_limit
        → Spelled (suc n) (open_bracket ∷ text) (cells ds nil) rest
    a_list_with_tail : {n : ℕ} {text t u v w rest : List ℕ} {ds : List Datum} {d : Datum}
        → Gap text t → Elements n t ds (bar ∷ u) → Gap u v → Spelled n v d w
        → Gap w (close_bracket ∷ rest) → cell_count (cells ds d) ≤ list_limit
        → Spelled (suc n) (open_bracket ∷ text) (cells ds d) rest
    an_empty_map : {n : ℕ} {text rest : List ℕ} → Gap text (close_brace ∷ rest)
        → Spelled (suc n) (number_sign ∷ open_brace ∷ text) (map (entries_of [])) rest
    a_map : {n : ℕ} {text t rest : List ℕ} {es ordered : List (Datum × Datum)} → Gap text t
        → Pairs n t es (close_brace ∷ rest) → length es ≤ map_limit → IsPermutation es ordered
        → AreRising (entries_of ordered) → Spelled (suc n) (number_sign ∷ open_brace ∷ text)
        (map (entries_of ordered)) rest
    an_empty_binary : {n : ℕ} {text rest : List ℕ} → Gap text (greater ∷ greater ∷ rest)
        → Spelled (suc n) (less ∷ less ∷ text) (binary []) rest
    a_binary : {n : ℕ} {text t rest bytes : List ℕ} → Gap text t
        → Segments t bytes (greater ∷ greater ∷ rest) → length bytes ≤ binary_limit
        → Spelled (suc n) (less ∷ less ∷ text) (binary bytes) rest

  -- one or more terms separated by commas, and the gap after the last
  pub data Elements : ℕ → List ℕ → List Datum → List ℕ → Type 0 where
    last : {n : ℕ} {text t rest : List ℕ} {d : Datum} → Spelled n text d t → Gap t rest
        → Elements n text (d ∷ []) rest
    more : {n : ℕ} {text t u v rest : List ℕ} {d : Datum} {ds : List Datum} → Spelled n text d t
        → Gap t (comma ∷ u) → Gap u v → Elements n v ds rest → Elements n text (d ∷ ds) rest

  -- a key, an arrow and a value
  pub data Pair : ℕ → List ℕ → Datum → Datum → List ℕ → Type 0 where
    arrow : {n : ℕ} {text t u v rest : List ℕ} {key value : Datum} → Spelled n text key t
        → Gap t (equals ∷ greater ∷ u) → Gap u v → Spelled n v value rest
        → Pair n text key value rest

  -- one or more pairs separated by commas, in any order
  pub data Pairs : ℕ → List ℕ → List (Datum × Datum) → List ℕ → Type 0 where
    last_pair : {n : ℕ} {text t rest : List ℕ} {key value : Datum} → Pair n text key value t
        → Gap t rest → Pairs n text ((key, value) ∷ []) rest
    more_pairs : {n : ℕ} {text t u v rest : List ℕ} {key value : Datum} {es : List (Datum × Datum)}
        → Pair n text key value t → Gap t (comma ∷ u) → Gap u v → Pairs n v es rest
        → Pairs n text ((key, value) ∷ es) rest

-- a dot has to be followed by white space, a comment, or the end of the text
abbrev pub BeginsGap : List ℕ → Type 0
BeginsGap [] = Unit {0}
BeginsGap (c ∷ text) = IsTrue (is_white_space c) ⊎ (c ≡ percent)

-- a gap, a term and its dot, and the text that follows
pub record Sentence (text : List ℕ) (d : Datum) (rest : List ℕ) : Type 0 where
  pub begin : List ℕ
  pub end : List ℕ
  pub gap : Gap text begin
  pub term : Spelled depth_limit begin d end
  pub dot : Gap end (dot ∷ rest)
  pub ended : BeginsGap rest

-- a text begins with these terms, each followed by a dot, and goes on with the rest
pub data Front (text : List ℕ) : List Datum → List ℕ → Type 0 where
  at_first : Front text [] text
  behind : {t rest : List ℕ} {ds : List Datum} {d : Datum} → Front text ds t → Sentence t d rest
      → Front text (ds ++ d ∷ []) rest

-- a text of characters consists of terms, each followed by a dot
pub data Sentences : List ℕ → List Datum → Type 0 where
  none : {text rest : List ℕ} → Gap text rest → IsLastComment rest → Sentences text []
  sentence : {text t u rest : List ℕ} {d : Datum} {ds : List Datum} → Gap text t
      → Spelled depth_limit t d u → Gap u (dot ∷ rest) → BeginsGap rest → Sentences rest ds
      → Sentences text (d ∷ ds)

-- the text, in UTF-8, spells these terms
pub record Spells (bytes : List ℕ) (ds : List Datum) : Type 0 where
  pub utf8 : IsUtf8 bytes
  pub sentences : Sentences (chars bytes) ds

-- what comes next in a text: a term with its dot and the text that follows, or only a gap
abbrev pub Next : List ℕ → Option (Datum × List ℕ) → Type 0
Next text None = Sentences text []
Next text (Some x) = Sentence text x.0 x.1
