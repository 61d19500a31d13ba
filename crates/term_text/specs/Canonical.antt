-- The one canonical text of a term: no white space, lists never as strings, binaries as decimal bytes. And the readable
-- text, which has lists and binaries of printable characters between double quotes.
use Rattle.std.specs.Prelude.{ℕ, ◌≡◌, ◌==◌, ◌&&◌, ◌||◌, ◌↔◌, pos, negsuc, List, [], ◌∷◌, ◌++◌, Bool, true, false, not, if◌then◌else◌, codes, decimal}
use Rattle.std.specs.Fmt.{signed_decimal}
use Rattle.std.specs.List.{list_any}
use Rattle.std.specs.Str.{bytes_eq, encode_utf8_all}
use Rattle.std.specs.Char.{is_ascii_lowercase}
use Rattle.std.specs.Int.{is_in_range}
use Rattle.term_core.specs.Datum.{Datum, Items, Entries}
use Rattle.term_core.specs.Datum.Datum.{integer, atom, tuple, map, nil, cons, binary}
use Rattle.term_core.specs.Datum.Items.{no_items, item}
use Rattle.term_core.specs.Datum.Entries.{no_entries, entry}
use Rattle.term_text.specs.Text.{Spells}
use Rattle.term_text.specs.declared.write.Form.{Form}
use Rattle.term_text.specs.declared.write.Form.TheVariants as forms
use Rattle.term_text.specs.Character.{line_feed, dot, comma, backslash, single_quote, double_quote, open_brace, close_brace, open_bracket, close_bracket, bar, number_sign, equals, less, greater, is_word}

-- the reserved words, of which an atom is written in quotes
abbrev pub reserved : List (List ℕ)
reserved =
    codes "after" ∷ codes "and" ∷ codes "andalso" ∷ codes "band" ∷ codes "begin" ∷ codes "bnot" ∷ codes "bor" ∷ codes "bsl"
    ∷ codes "bsr" ∷ codes "bxor" ∷ codes "case" ∷ codes "catch" ∷ codes "cond" ∷ codes "div" ∷ codes "else" ∷ codes "end"
    ∷ codes "fun" ∷ codes "if" ∷ codes "let" ∷ codes "maybe" ∷ codes "not" ∷ codes "of" ∷ codes "or" ∷ codes "orelse"
    ∷ codes "receive" ∷ codes "rem" ∷ codes "try" ∷ codes "when" ∷ codes "xor" ∷ []

unfoldable pub is_reserved : List ℕ → Bool
is_reserved cs = list_any (bytes_eq cs) reserved

-- whether a reserved word begins with this character
abbrev pub begins_reserved : ℕ → Bool
begins_reserved c =
    is_in_range 97 102 c || (c == 105 || (is_in_range 108 111 c || (c == 114 || (c == 116 || (c == 119 || c == 120)))))

abbrev pub are_word : List ℕ → Bool
are_word [] = true
are_word (c ∷ cs) = is_word c && are_word cs

-- whether a text is a bare word: a small letter, followed by letters, digits, `_` and `@`
abbrev pub has_bare_form : List ℕ → Bool
has_bare_form [] = false
has_bare_form (c ∷ cs) = is_ascii_lowercase c && are_word cs

abbrev pub is_bare : List ℕ → Bool
is_bare cs = has_bare_form cs && not (is_reserved cs)

-- a character as it is written between these quotation marks
abbrev pub quoted_character : ℕ → ℕ → List ℕ
quoted_character mark c =
    if c == backslash then backslash ∷ backslash ∷ []
    else if c == mark then backslash ∷ mark ∷ []
    else if c == 10 then backslash ∷ 110 ∷ []
    else if c == 13 then backslash ∷ 114 ∷ []
    else if c == 9 then backslash ∷ 116 ∷ []
    else c ∷ []

abbrev pub quoted_characters : ℕ → List ℕ → List ℕ
quoted_characters mark [] = []
quoted_characters mark (c ∷ cs) = quoted_character mark c ++ quoted_characters mark cs

abbrev pub quoted_text : ℕ → List ℕ → List ℕ
quoted_text mark cs = (mark ∷ quoted_characters mark cs) ++ mark ∷ []

abbrev pub atom_text : List ℕ → List ℕ
atom_text cs = if is_bare cs then cs else quoted_text single_quote cs

-- ---- strings

-- whether a character is printable ASCII, a tab, a line feed or a carriage return
abbrev pub is_shown : ℕ → Bool
is_shown c = is_in_range 32 126 c || (c == 9 || (c == 10 || c == 13))

abbrev pub are_shown : List ℕ → Bool
are_shown [] = true
are_shown (c ∷ cs) = is_shown c && are_shown cs

-- whether a term is the code of a printable character
abbrev pub is_character : Datum → Bool
is_character (integer (pos c)) = is_shown c
is_character (integer (negsuc n)) = false
is_character (atom cs) = false
is_character (tuple ds) = false
is_character (map es) = false
is_character nil = false
is_character (cons head tail) = false
is_character (binary bs) = false

-- whether a term is a proper list of codes of printable characters
abbrev pub is_string : Datum → Bool
is_string nil = true
is_string (cons head tail) = is_character head && is_string tail
is_string (integer z) = false
is_string (atom cs) = false
is_string (tuple ds) = false
is_string (map es) = false
is_string (binary bs) = false

abbrev pub code_of : Datum → ℕ
code_of (integer (pos c)) = c
code_of (integer (negsuc n)) = 0
code_of (atom cs) = 0
code_of (tuple ds) = 0
code_of (map es) = 0
code_of nil = 0
code_of (cons head tail) = 0
code_of (binary bs) = 0

-- the characters of a proper list of their codes
abbrev pub codes_of : Datum → List ℕ
codes_of (cons head tail) = code_of head ∷ codes_of tail
codes_of nil = []
codes_of (integer z) = []
codes_of (atom cs) = []
codes_of (tuple ds) = []
codes_of (map es) = []
codes_of (binary bs) = []

-- ---- terms

-- whether lists and binaries of printable characters are written between double quotes
abbrev pub shows_strings : Form → Bool
shows_strings forms.Canonical = false
shows_strings forms.Readable = true

-- the bytes after the first, each after a comma
abbrev pub more_bytes : List ℕ → List ℕ
more_bytes [] = []
more_bytes (b ∷ bs) = (comma ∷ decimal b) ++ more_bytes bs

abbrev pub bytes_text : List ℕ → List ℕ
bytes_text [] = []
bytes_text (b ∷ bs) = decimal b ++ more_bytes bs

abbrev pub is_some : List ℕ → Bool
is_some [] = false
is_some (b ∷ bs) = true

-- the content of a binary
abbrev pub segments_text : Form → List ℕ → List ℕ
segments_text f bs =
    if shows_strings f && (is_some bs && are_shown bs) then quoted_text double_quote bs else bytes_text bs

abbrev pub binary_text : Form → List ℕ → List ℕ
binary_text f bs = (less ∷ less ∷ segments_text f bs) ++ greater ∷ greater ∷ []

unfoldable mutual
  pub text_as : Form → Datum → List ℕ
  text_as f (integer z) = signed_decimal z
  text_as f (atom cs) = atom_text cs
  text_as f (tuple ds) = (open_brace ∷ items_text f ds) ++ close_brace ∷ []
  text_as f (map es) = (number_sign ∷ open_brace ∷ entries_text f es) ++ close_brace ∷ []
  text_as f nil = open_bracket ∷ close_bracket ∷ []
  text_as f (cons head tail) =
      if shows_strings f && is_string (cons head tail) then quoted_text double_quote (codes_of (cons head tail))
      else (open_bracket ∷ text_as f head) ++ tail_text f tail
  text_as f (binary bs) = binary_text f bs

  pub items_text : Form → Items → List ℕ
  items_text f no_items = []
  items_text f (item d ds) = text_as f d ++ more_items_text f ds

  -- the elements after the first, each after a comma
  pub more_items_text : Form → Items → List ℕ
  more_items_text f no_items = []
  more_items_text f (item d ds) = (comma ∷ text_as f d) ++ more_items_text f ds

  pub entries_text : Form → Entries → List ℕ
  entries_text f no_entries = []
  entries_text f (entry k v es) =
      text_as f k ++ (equals ∷ greater ∷ text_as f v) ++ more_entries_text f es

  pub more_entries_text : Form → Entries → List ℕ
  more_entries_text f no_entries = []
  more_entries_text f (entry k v es) =
      (comma ∷ text_as f k) ++ (equals ∷ greater ∷ text_as f v) ++ more_entries_text f es

  -- what follows an element of a list: more elements, each after a comma, the tail after a bar, and the closing bracket
  pub tail_text : Form → Datum → List ℕ
  tail_text f nil = close_bracket ∷ []
  tail_text f (cons head tail) = (comma ∷ text_as f head) ++ tail_text f tail
  tail_text f (integer z) = (bar ∷ signed_decimal z) ++ close_bracket ∷ []
  tail_text f (atom cs) = (bar ∷ atom_text cs) ++ close_bracket ∷ []
  tail_text f (tuple ds) =
      (bar ∷ (open_brace ∷ items_text f ds) ++ close_brace ∷ []) ++ close_bracket ∷ []
  tail_text f (map es) =
      (bar ∷ (number_sign ∷ open_brace ∷ entries_text f es) ++ close_brace ∷ []) ++ close_bracket ∷ []
  tail_text f (binary bs) = (bar ∷ binary_text f bs) ++ close_bracket ∷ []

abbrev pub canonical : Datum → List ℕ
canonical d = text_as forms.Canonical d

abbrev pub readable : Datum → List ℕ
readable d = text_as forms.Readable d

-- This text of a term, a dot and a line feed spell that term, and what follows them spells what it spells alone.
abbrev pub IsReadBack : (Datum → List ℕ) → Datum → Type 0
IsReadBack text d =
    (more : List ℕ) (ds : List Datum) →
    Spells (encode_utf8_all (text d) ++ dot ∷ line_feed ∷ more) ds
    ↔ ((es : List Datum) × (ds ≡ d ∷ es) × Spells more es)
