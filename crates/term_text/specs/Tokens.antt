-- The tokens of term text (Erlang Reference Manual, "Data Types", "Terms"): what a text spells. Each relation has a
-- text, what is spelled at its beginning, and the text that follows.
use Rattle.std.specs.Prelude.{ℕ, ◌≡◌, ◌≢◌, ◌<◌, ◌≤◌, ℤ, pos, neg_ℤ, List, [], ◌∷◌, ◌++◌, length, Bool, true, false, IsTrue, Some}
use Rattle.std.specs.List.{AllByRecursion}
use Rattle.std.specs.Char.{is_ascii_digit}
use Rattle.std.specs.Str.Parse.{digits_value}
use Rattle.term_text.specs.Character.{line_feed, percent, plus, minus, backslash, is_white_space, escaped}

mutual
  -- any amount of white space and comments
  pub data Gap : List ℕ → List ℕ → Type 0 where
    no_gap : {text : List ℕ} → Gap text text
    white : {c : ℕ} {text rest : List ℕ} → IsTrue (is_white_space c) → Gap text rest
        → Gap (c ∷ text) rest
    comment : {text rest : List ℕ} → Comment text rest → Gap (percent ∷ text) rest

  -- a comment after its percent sign: up to a line feed
  pub data Comment : List ℕ → List ℕ → Type 0 where
    ended : {text rest : List ℕ} → Gap text rest → Comment (line_feed ∷ text) rest
    passed : {c : ℕ} {text rest : List ℕ} → c ≢ line_feed → Comment text rest
        → Comment (c ∷ text) rest

-- nothing, or a comment that the end of the text ends
abbrev pub IsLastComment : List ℕ → Type 0
IsLastComment [] = Unit {0}
IsLastComment (c ∷ text) = (c ≡ percent) × AllByRecursion (λ x. x ≢ line_feed) text

-- no character that passes the test comes next
abbrev pub EndsRun : (ℕ → Bool) → List ℕ → Type 0
EndsRun p [] = Unit {0}
EndsRun p (c ∷ text) = p c ≡ false

-- all characters at the beginning that pass the test
pub record Run (p : ℕ → Bool) (text run rest : List ℕ) : Type 0 where
  pub whole : text ≡ run ++ rest
  pub each : AllByRecursion (λ c. p c ≡ true) run
  pub ended : EndsRun p rest

-- one or more decimal digits, and their number
pub record Number (text : List ℕ) (n : ℕ) (rest : List ℕ) : Type 0 where
  pub digits : List ℕ
  pub some : 0 < length digits
  pub run : Run is_ascii_digit text digits rest
  pub value : n ≡ digits_value 10 digits

-- an integer: an optional sign, directly followed by digits
pub data Integer : List ℕ → ℤ → List ℕ → Type 0 where
  unsigned : {text rest : List ℕ} {n : ℕ} → Number text n rest → n ≤ 9223372036854775807
      → Integer text (pos n) rest
  positive : {text rest : List ℕ} {n : ℕ} → Number text n rest → n ≤ 9223372036854775807
      → Integer (plus ∷ text) (pos n) rest
  negative : {text rest : List ℕ} {n : ℕ} → Number text n rest → n ≤ 9223372036854775808
      → Integer (minus ∷ text) (neg_ℤ (pos n)) rest

-- the characters up to a closing mark, each given as itself or as an escape
pub data Quoted (mark : ℕ) : List ℕ → List ℕ → List ℕ → Type 0 where
  closed : {rest : List ℕ} → Quoted mark (mark ∷ rest) [] rest
  plain : {c : ℕ} {text rest cs : List ℕ} → c ≢ mark → c ≢ backslash → Quoted mark text cs rest
      → Quoted mark (c ∷ text) (c ∷ cs) rest
  escape : {e c : ℕ} {text rest cs : List ℕ} → escaped e ≡ Some c → Quoted mark text cs rest
      → Quoted mark (backslash ∷ e ∷ text) (c ∷ cs) rest
