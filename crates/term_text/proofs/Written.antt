-- A canonical text spells its term.
use Rattle.std.proofs.Common.{◌≡◌, ℕ, zero, suc, ◌+◌, ◌%◌, ◌^◌, ◌≤◌, ◌<◌, inl, inr, true, false, not, Some, List, [], ◌∷◌, ◌++◌, length, ℤ, pos, negsuc, refl, sym, ap, ◌∙◌, subst, arith, append_assoc, decimal}
use Rattle.std.specs.Prelude.{◌==◌, ◌&&◌, FitsSigned}
use Rattle.std.proofs.Common.{map as each}
use Rattle.std.specs.Int.{w64}
use Rattle.std.specs.Fmt.{signed_decimal}
use Rattle.std.specs.List.{AllByRecursion}
use Rattle.std.specs.Char.{is_ascii_digit, is_ascii_lowercase, digit_value}
use Rattle.std.specs.Str.Parse.{digits_value}
use Rattle.std.proofs.lemmas.Bool.{eqb-true, eqb-false, and_parts, cases_Bool}
use Rattle.std.proofs.lemmas.Fmt.{decimal_by_steps}
use Rattle.std.proofs.lemmas.Int.{ints}
use Rattle.std.proofs.lemmas.Int.Digits.{digits_value_push}
use Rattle.std.proofs.lemmas.List.{length-append}
use Rattle.term_core.specs.Datum.{Datum, Items, Entries, items_of, entries_of, cells, cell_count, item_count, entry_count}
use Rattle.term_core.specs.Datum.Datum.{integer, atom, tuple, map, nil, cons, binary}
use Rattle.term_core.specs.Datum.Items.{no_items, item}
use Rattle.term_core.specs.Datum.Entries.{no_entries, entry}
use Rattle.term_core.specs.Limits.{depth, tail_depth, items_depth, entries_depth, AreBytes, IsSound, AreSound, ArePairsSound}
use Rattle.term_core.specs.declared.TheConstants.{MAX_CHARACTERS, MAX_TUPLE, MAX_MAP, MAX_LIST, MAX_BINARY}
use Rattle.std.proofs.lemmas.List.Sorted.{IsPermutation-refl}
use Rattle.term_text.proofs.Sound.{cell_count-cells}
use Rattle.term_text.specs.Character.{is_word, escaped, backslash, single_quote, double_quote, comma, bar, equals, greater, less, number_sign, open_brace, close_brace, open_bracket, close_bracket}
use Rattle.term_text.specs.Text.{code_point, Segment, Segments, Spelled, Elements, Pair, Pairs}
use Rattle.term_text.proofs.Keys.{AreRising}
use Rattle.term_text.specs.Tokens.Gap.{no_gap}
use Rattle.term_text.specs.Text.Segment.{a_byte, some_bytes}
use Rattle.term_text.specs.Text.Segments.{last_segment, more_segments}
use Rattle.term_text.specs.Text.Spelled.{an_integer, a_word, a_quoted_atom, a_string, an_empty_tuple, a_tuple, an_empty_list, a_list, a_list_with_tail, an_empty_map, a_map, an_empty_binary, a_binary}
use Rattle.term_text.specs.Text.Elements.{last, more as more_elements}
use Rattle.term_text.specs.Text.Pair.{arrow}
use Rattle.term_text.specs.Text.Pairs.{last_pair, more_pairs}
use Rattle.term_text.specs.Tokens.{EndsRun, Number, Integer, Quoted}
use Rattle.term_text.specs.Tokens.Integer.{unsigned, negative}
use Rattle.term_text.specs.Tokens.Quoted.{closed, plain, escape}
use Rattle.term_text.specs.declared.write.Form.{Form}
use Rattle.term_text.specs.Canonical.{text_as, more_items_text, more_entries_text, tail_text, atom_text, is_bare, is_reserved, bytes_text, more_bytes, quoted_character, quoted_characters, quoted_text, are_word, has_bare_form}
use Rattle.term_text.specs.Canonical.{shows_strings, segments_text, is_some, are_shown, is_character, is_string, code_of, codes_of}

-- what ends a word ends digits
digit_is_word : (c : ℕ) → is_word c ≡ false → is_ascii_digit c ≡ false
digit_is_word c h = grind arith

pub ends_digits : (rest : List ℕ) → EndsRun is_word rest → EndsRun is_ascii_digit rest
ends_digits [] h = tt
ends_digits (c ∷ cs) h = digit_is_word c h

-- ---- numbers

pub record IsDecimal (n : ℕ) (ds : List ℕ) : Type 0 where
  pub some : 0 < length ds
  pub each : AllByRecursion (λ c. is_ascii_digit c ≡ true) ds
  pub value : n ≡ digits_value 10 ds

all_push : (ds : List ℕ) (c : ℕ) → AllByRecursion (λ c. is_ascii_digit c ≡ true) ds → is_ascii_digit c ≡ true → AllByRecursion (λ c. is_ascii_digit c ≡ true) (ds ++ c ∷ [])
all_push [] c h k = (k, tt)
all_push (d ∷ ds) c h k = (h.0, all_push ds c h.1 k)

digit_of : (d : ℕ) → d < 10 → (is_ascii_digit (48 + d) ≡ true) × (digit_value (48 + d) ≡ d)
digit_of d h = (grind arith, grind arith)

pub decimal_is : (n : ℕ) → n < 2 ^ 64 → IsDecimal n (decimal n)
decimal_is n h =
    decimal_by_steps IsDecimal
    (λ n lt. let d = digit_of n lt in record { some = omega arith; each = (d.0, tt); value = rw d.1 (omega arith) })
    (λ n ds ge r.
    let d = digit_of (n % 10) (omega arith) in
    record {
      some = omega (arith, length-append ds ((48 + n % 10) ∷ []));
      each = all_push ds (48 + n % 10) r.each d.0;
      value = let v = digits_value_push 10 ds (48 + n % 10) in let w = r.value in let x = d.1 in omega arith;
    })
    n h

pub number_written : (n : ℕ) → n < 2 ^ 64 → (rest : List ℕ) → EndsRun is_word rest → Number (decimal n ++ rest) n rest
number_written n h rest e =
    let d = decimal_is n h in
    record { digits = decimal n; some = d.some; run = record { whole = refl; each = d.each; ended = ends_digits rest e }; value = d.value }

pub integer_written : (z : ℤ) → FitsSigned w64 z → (rest : List ℕ) → EndsRun is_word rest → Integer (signed_decimal z ++ rest) z rest
integer_written (pos n) f rest e = let small : n ≤ 9223372036854775807 = omega (arith, ints) in unsigned (number_written n (omega arith) rest e) small
integer_written (negsuc n) f rest e = let small : suc n ≤ 9223372036854775808 = omega (arith, ints) in negative (number_written (suc n) (omega arith) rest e) small

-- ---- atoms

small_word : (c : ℕ) → is_ascii_lowercase c ≡ true → is_word c ≡ true
small_word c h = grind arith

words : (cs : List ℕ) → are_word cs ≡ true → AllByRecursion (λ c. is_word c ≡ true) cs
words [] h = tt
words (c ∷ cs) h = let p = and_parts (is_word c) (are_word cs) h in (p.0, words cs p.1)

-- a mark that an escape can stand for
abbrev IsMark : ℕ → Type 0
IsMark m = escaped m ≡ Some m

character_written : (m : ℕ) → IsMark m → (c : ℕ) (cs text rest : List ℕ) → Quoted m text cs rest → Quoted m (quoted_character m c ++ text) (c ∷ cs) rest
character_written m k c cs text rest q = elim (cases_Bool (c == backslash)) [
  | inl e ↦ rw (e, eqb-true c backslash e) (escape refl q)
  | inr n1 ↦ elim (cases_Bool (c == m)) [
    | inl e ↦ rw (n1, e) (subst (λ (x : ℕ). Quoted m (backslash ∷ m ∷ text) (x ∷ cs) rest) (sym (eqb-true c m e)) (escape k q))
    | inr n2 ↦ elim (cases_Bool (c == 10)) [
      | inl e ↦ rw (n1, n2, e, eqb-true c 10 e) (escape refl q)
      | inr n3 ↦ elim (cases_Bool (c == 13)) [
        | inl e ↦ rw (n1, n2, n3, e, eqb-true c 13 e) (escape refl q)
        | inr n4 ↦ elim (cases_Bool (c == 9)) [
          | inl e ↦ rw (n1, n2, n3, n4, e, eqb-true c 9 e) (escape refl q)
          | inr n5 ↦ rw (n1, n2, n3, n4, n5) (plain (eqb-false c m n2) (eqb-false c backslash n1) q)
        ]
      ]
    ]
  ]
]

quoted_written : (m : ℕ) → IsMark m → (cs rest : List ℕ) → Quoted m (quoted_characters m cs ++ m ∷ rest) cs rest
quoted_written m k [] rest = closed
quoted_written m k (c ∷ cs) rest = rw append_assoc (character_written m k c cs (quoted_characters m cs ++ m ∷ rest) rest (quoted_written m k cs rest))

-- ---- binaries

bytes_are : (bs : List ℕ) → AreBytes bs → AllByRecursion (λ b. b < 256) bs
bytes_are [] h = tt
bytes_are (b ∷ bs) h = (h.0, bytes_are bs h.1)

byte_segment : (b : ℕ) (rest : List ℕ) → b < 256 → EndsRun is_word rest → Segment (decimal b ++ rest) (b ∷ []) rest
byte_segment b rest h e = a_byte (unsigned (number_written b (omega arith) rest e) (omega arith)) h

segments_written : (b : ℕ) (bs rest : List ℕ) → b < 256 → AreBytes bs → Segments (decimal b ++ (more_bytes bs ++ (greater ∷ rest))) (b ∷ bs) (greater ∷ rest)
segments_written b [] rest h k = last_segment (byte_segment b (greater ∷ rest) h refl) no_gap
segments_written b (c ∷ bs) rest h k =
    rw append_assoc (more_segments {bs = b ∷ []} {cs = c ∷ bs} (byte_segment b (comma ∷ (decimal c ++ (more_bytes bs ++ (greater ∷ rest)))) h refl) no_gap no_gap (segments_written c bs rest k.0 k.1))

bytes_written : (n : ℕ) (bs rest : List ℕ) → length bs ≤ MAX_BINARY → AreBytes bs → Spelled (suc n) (less ∷ less ∷ (bytes_text bs ++ (greater ∷ greater ∷ rest))) (binary bs) rest
bytes_written n [] rest h k = an_empty_binary no_gap
bytes_written n (b ∷ bs) rest h k = rw append_assoc (a_binary no_gap (segments_written b bs (greater ∷ rest) k.0 k.1) h)

shown_written : (n : ℕ) (bs rest : List ℕ) → length bs ≤ MAX_BINARY → AreBytes bs → Spelled (suc n) (less ∷ less ∷ (quoted_text double_quote bs ++ (greater ∷ greater ∷ rest))) (binary bs) rest
shown_written n bs rest h k = rw append_assoc (a_binary no_gap (last_segment (some_bytes (quoted_written double_quote refl bs (greater ∷ greater ∷ rest)) (bytes_are bs k)) no_gap) h)

binary_written : (f : Form) (n : ℕ) (bs rest : List ℕ) → length bs ≤ MAX_BINARY → AreBytes bs → Spelled (suc n) (less ∷ less ∷ (segments_text f bs ++ (greater ∷ greater ∷ rest))) (binary bs) rest
binary_written f n bs rest h k = elim (cases_Bool (shows_strings f && (is_some bs && are_shown bs))) [
  | inl shown ↦ rw shown (shown_written n bs rest h k)
  | inr other ↦ rw other (bytes_written n bs rest h k)
]

-- ---- strings

character_is : (d : Datum) → is_character d ≡ true → d ≡ code_point (code_of d)
character_is (integer (pos c)) h = refl
character_is (integer (negsuc c)) h = absurd cc
character_is (atom cs) h = absurd cc
character_is (tuple ds) h = absurd cc
character_is (map es) h = absurd cc
character_is nil h = absurd cc
character_is (cons head tail) h = absurd cc
character_is (binary bs) h = absurd cc

-- a string is the list of its characters
string_is : (d : Datum) → is_string d ≡ true → d ≡ cells (each code_point (codes_of d)) nil
string_is nil h = refl
string_is (cons head tail) h =
    let p = and_parts (is_character head) (is_string tail) h in
    ap (λ (x : Datum). cons x tail) (character_is head p.0) ∙ ap (λ (x : Datum). cons (code_point (code_of head)) x) (string_is tail p.1)
string_is (integer z) h = absurd cc
string_is (atom cs) h = absurd cc
string_is (tuple ds) h = absurd cc
string_is (map es) h = absurd cc
string_is (binary bs) h = absurd cc

string_count : (d : Datum) → is_string d ≡ true → length (codes_of d) ≡ cell_count d
string_count nil h = refl
string_count (cons head tail) h = ap suc (string_count tail (and_parts (is_character head) (is_string tail) h).1)
string_count (integer z) h = absurd cc
string_count (atom cs) h = absurd cc
string_count (tuple ds) h = absurd cc
string_count (map es) h = absurd cc
string_count (binary bs) h = absurd cc

spelled_string : (n : ℕ) (d : Datum) (rest : List ℕ) → is_string d ≡ true → cell_count d ≤ MAX_LIST → Spelled (suc (suc n)) (double_quote ∷ (quoted_characters double_quote (codes_of d) ++ double_quote ∷ rest)) d rest
spelled_string n d rest h few =
    subst (λ (x : Datum). Spelled (suc (suc n)) (double_quote ∷ (quoted_characters double_quote (codes_of d) ++ double_quote ∷ rest)) x rest) (sym (string_is d h))
    (a_string (quoted_written double_quote refl (codes_of d) rest) (let c = string_count d h in omega arith))

-- ---- terms

-- the elements of a tuple, and the pairs of a map, as lists
abbrev list_of : Items → List Datum
list_of no_items = []
list_of (item d ds) = d ∷ list_of ds

abbrev pairs_of : Entries → List (Datum × Datum)
pairs_of no_entries = []
pairs_of (entry k v es) = (k, v) ∷ pairs_of es

items_of-list_of : (ds : Items) → items_of (list_of ds) ≡ ds
items_of-list_of no_items = refl
items_of-list_of (item d ds) = ap (item d) (items_of-list_of ds)

entries_of-pairs_of : (es : Entries) → entries_of (pairs_of es) ≡ es
entries_of-pairs_of no_entries = refl
entries_of-pairs_of (entry k v es) = ap (entry k v) (entries_of-pairs_of es)

length-list_of : (ds : Items) → length (list_of ds) ≡ item_count ds
length-list_of no_items = refl
length-list_of (item d ds) = ap suc (length-list_of ds)

length-pairs_of : (es : Entries) → length (pairs_of es) ≡ entry_count es
length-pairs_of no_entries = refl
length-pairs_of (entry k v es) = ap suc (length-pairs_of es)

rising_pairs : (es : Entries) → ArePairsSound es → AreRising (pairs_of es)
rising_pairs no_entries h = tt
rising_pairs (entry k v es) h = (rw (entries_of-pairs_of es) h.2, rising_pairs es h.3)

-- the text of a list after its opening
data ListText (n : ℕ) (text : List ℕ) : Datum → List ℕ → Type 0 where
  proper : {ds : List Datum} {rest : List ℕ} → Elements n text ds (close_bracket ∷ rest) → ListText n text (cells ds nil) rest
  improper : {ds : List Datum} {d : Datum} {u rest : List ℕ} → Elements n text ds (bar ∷ u) → Spelled n u d (close_bracket ∷ rest) → ListText n text (cells ds d) rest

prepended : (n : ℕ) (text u rest : List ℕ) (head tail : Datum) → Spelled n text head (comma ∷ u) → ListText n u tail rest → ListText n text (cons head tail) rest
prepended n text u rest head tail s (proper {ds} es) = proper {ds = head ∷ ds} (more_elements s no_gap no_gap es)
prepended n text u rest head tail s (improper {ds} {d} es t) = improper {ds = head ∷ ds} {d = d} (more_elements s no_gap no_gap es) t

ended_by : (n : ℕ) (text u rest : List ℕ) (head d : Datum) → Spelled n text head (bar ∷ u) → Spelled n u d (close_bracket ∷ rest) → ListText n text (cons head d) rest
ended_by n text u rest head d s t = improper {ds = head ∷ []} {d = d} (last s no_gap) t

list_spelled : (n : ℕ) (text rest : List ℕ) (d : Datum) → ListText n text d rest → cell_count d ≤ MAX_LIST → Spelled (suc n) (open_bracket ∷ text) d rest
list_spelled n text rest d (proper {ds} es) h = a_list no_gap es (let c = cell_count-cells ds nil in omega arith)
list_spelled n text rest d (improper es t) h = a_list_with_tail no_gap es no_gap t no_gap h

depth_positive : (d : Datum) → 0 < depth d
depth_positive (integer z) = omega arith
depth_positive (atom cs) = omega arith
depth_positive (tuple ds) = omega arith
depth_positive (map es) = omega arith
depth_positive nil = omega arith
depth_positive (cons head tail) = omega arith
depth_positive (binary bs) = omega arith

bare_written : (cs : List ℕ) (n : ℕ) (rest : List ℕ) → length cs ≤ MAX_CHARACTERS → EndsRun is_word rest → has_bare_form cs ≡ true → Spelled (suc n) (cs ++ rest) (atom cs) rest
bare_written [] n rest h e b = absurd cc
bare_written (c ∷ cs) n rest h e b =
    let p = and_parts (is_ascii_lowercase c) (are_word cs) b in
    let first : is_word c ≡ true = small_word c p.0 in
    a_word p.0 (record { whole = refl; each = (first, words cs p.1); ended = e }) h

atom_written : (cs : List ℕ) (n : ℕ) (rest : List ℕ) → length cs ≤ MAX_CHARACTERS → EndsRun is_word rest → Spelled (suc n) (atom_text cs ++ rest) (atom cs) rest
atom_written cs n rest h e = elim (cases_Bool (is_bare cs)) [
  | inl bare ↦ let p = and_parts (has_bare_form cs) (not (is_reserved cs)) bare in rw bare (bare_written cs n rest h e p.0)
  | inr quoted ↦ rw (quoted, append_assoc) (a_quoted_atom (quoted_written single_quote refl cs rest) h)
]

-- how a term is spelled, before any text that doesn't continue a word
abbrev IsWritten : Form → ℕ → Datum → Type 0
IsWritten f n d = (rest : List ℕ) → EndsRun is_word rest → Spelled n (text_as f d ++ rest) d rest

integer_again : (f : Form) → (z : ℤ) → FitsSigned w64 z → (n : ℕ) → 1 ≤ n → IsWritten f n (integer z)
unfolding text_as
integer_again f z s zero h rest e = absurd (omega arith)
integer_again f z s (suc n) h rest e = an_integer (integer_written z s rest e)

atom_again : (f : Form) → (cs : List ℕ) → length cs ≤ MAX_CHARACTERS → (n : ℕ) → 1 ≤ n → IsWritten f n (atom cs)
unfolding text_as
atom_again f cs s zero h rest e = absurd (omega arith)
atom_again f cs s (suc n) h rest e = atom_written cs n rest s e

nil_again : (f : Form) → (n : ℕ) → 1 ≤ n → IsWritten f n nil
unfolding text_as
nil_again f zero h rest e = absurd (omega arith)
nil_again f (suc n) h rest e = an_empty_list no_gap

binary_again : (f : Form) → (bs : List ℕ) → length bs ≤ MAX_BINARY → AreBytes bs → (n : ℕ) → 1 ≤ n → IsWritten f n (binary bs)
unfolding text_as
binary_again f bs s t zero h rest e = absurd (omega arith)
binary_again f bs s t (suc n) h rest e = rw append_assoc (binary_written f n bs rest s t)

pair_written : (f : Form) → (n : ℕ) (k v : Datum) → IsWritten f n k → IsWritten f n v → (rest : List ℕ) → EndsRun is_word rest → Pair n (text_as f k ++ (equals ∷ greater ∷ (text_as f v ++ rest))) k v rest
pair_written f n k v a b rest e = arrow (a (equals ∷ greater ∷ (text_as f v ++ rest)) refl) no_gap no_gap (b rest e)

-- a list of characters is spelled by its string if it may be deep enough for them
string_written : (n : ℕ) (d : Datum) (rest : List ℕ) → is_string d ≡ true → cell_count d ≤ MAX_LIST → depth d ≤ suc n → 0 < cell_count d → Spelled (suc n) (double_quote ∷ (quoted_characters double_quote (codes_of d) ++ double_quote ∷ rest)) d rest
string_written zero nil rest h few deep some = absurd (omega arith)
string_written zero (cons head tail) rest h few deep some = absurd (let p = depth_positive head in omega arith)
string_written zero (integer z) rest h few deep some = absurd cc
string_written zero (atom cs) rest h few deep some = absurd cc
string_written zero (tuple ds) rest h few deep some = absurd cc
string_written zero (map es) rest h few deep some = absurd cc
string_written zero (binary bs) rest h few deep some = absurd cc
string_written (suc n) d rest h few deep some = spelled_string n d rest h few

mutual
  unfolding text_as

  pub written : (f : Form) → (d : Datum) → IsSound d → (n : ℕ) → depth d ≤ n → IsWritten f n d
  written f (integer z) s n h rest e = integer_again f z s n h rest e
  written f (atom cs) s n h rest e = atom_again f cs s.0 n h rest e
  written f (tuple ds) s n h rest e = tuple_written f ds s.0 s.1 n h rest e
  written f (map es) s n h rest e = map_written f es s.0 s.1 n h rest e
  written f nil s n h rest e = nil_again f n h rest e
  written f (cons head tail) s zero h rest e = absurd (omega arith)
  written f (cons head tail) s (suc n) h rest e = elim (cases_Bool (shows_strings f && is_string (cons head tail))) [
    | inl shown ↦ rw (shown, append_assoc) (string_written n (cons head tail) rest (and_parts (shows_strings f) (is_string (cons head tail)) shown).1 s.0 h (omega arith))
    | inr other ↦ rw (other, append_assoc) (list_spelled n (text_as f head ++ (tail_text f tail ++ rest)) rest (cons head tail) (list_written f tail s.2 n (omega arith) head (written f head s.1 n (omega arith)) rest) s.0)
  ]
  written f (binary bs) s n h rest e = binary_again f bs s.0 s.1 n h rest e

  tuple_written : (f : Form) → (ds : Items) → item_count ds ≤ MAX_TUPLE → AreSound ds → (n : ℕ) → suc (items_depth ds) ≤ n → IsWritten f n (tuple ds)
  tuple_written f ds few s zero h rest e = absurd (omega arith)
  tuple_written f no_items few s (suc n) h rest e = an_empty_tuple no_gap
  tuple_written f (item d ds) few s (suc n) h rest e =
      let es = elements_written f ds s.1 n (omega arith) d (written f d s.0 n (omega arith)) (close_brace ∷ rest) refl in
      let whole = a_tuple {n = n} no_gap es (let l = length-list_of ds in omega arith) in
      rw (append_assoc, append_assoc) (subst (λ (t : Items). Spelled (suc n) (open_brace ∷ (text_as f d ++ (more_items_text f ds ++ (close_brace ∷ rest)))) (tuple (item d t)) rest) (items_of-list_of ds) whole)

  elements_written : (f : Form) → (ds : Items) → AreSound ds → (n : ℕ) → items_depth ds ≤ n → (d : Datum) → IsWritten f n d → (rest : List ℕ) → EndsRun is_word rest → Elements n (text_as f d ++ (more_items_text f ds ++ rest)) (d ∷ list_of ds) rest
  elements_written f no_items k n l d w rest e = last (w rest e) no_gap
  elements_written f (item c ds) k n l d w rest e =
      rw append_assoc (more_elements (w (comma ∷ (text_as f c ++ (more_items_text f ds ++ rest))) refl) no_gap no_gap (elements_written f ds k.1 n (omega arith) c (written f c k.0 n (omega arith)) rest e))

  map_written : (f : Form) → (es : Entries) → entry_count es ≤ MAX_MAP → ArePairsSound es → (n : ℕ) → suc (entries_depth es) ≤ n → IsWritten f n (map es)
  map_written f es few s zero h rest e = absurd (omega arith)
  map_written f no_entries few s (suc n) h rest e = an_empty_map no_gap
  map_written f (entry k v es) few s (suc n) h rest e =
      let ps = pairs_written f es s.3 n (omega arith) k v (written f k s.0 n (omega arith)) (written f v s.1 n (omega arith)) (close_brace ∷ rest) refl in
      let whole = a_map {n = n} no_gap ps (let l = length-pairs_of es in omega arith) (IsPermutation-refl ((k, v) ∷ pairs_of es)) (rising_pairs (entry k v es) s) in
      simp append_assoc (subst (λ (t : Entries). Spelled (suc n) (number_sign ∷ open_brace ∷ (text_as f k ++ (equals ∷ greater ∷ (text_as f v ++ (more_entries_text f es ++ (close_brace ∷ rest)))))) (map (entry k v t)) rest) (entries_of-pairs_of es) whole)

  pairs_written : (f : Form) → (es : Entries) → ArePairsSound es → (n : ℕ) → entries_depth es ≤ n → (k v : Datum) → IsWritten f n k → IsWritten f n v → (rest : List ℕ) → EndsRun is_word rest → Pairs n (text_as f k ++ (equals ∷ greater ∷ (text_as f v ++ (more_entries_text f es ++ rest)))) ((k, v) ∷ pairs_of es) rest
  pairs_written f no_entries s n h k v a b rest e = last_pair (pair_written f n k v a b rest e) no_gap
  pairs_written f (entry l w es) s n h k v a b rest e =
      simp append_assoc (more_pairs (pair_written f n k v a b (comma ∷ (text_as f l ++ (equals ∷ greater ∷ (text_as f w ++ (more_entries_text f es ++ rest))))) refl) no_gap no_gap
      (pairs_written f es s.3 n (omega arith) l w (written f l s.0 n (omega arith)) (written f w s.1 n (omega arith)) rest e))

  list_written : (f : Form) → (tail : Datum) → IsSound tail → (n : ℕ) → tail_depth tail ≤ n → (head : Datum) → IsWritten f n head → (rest : List ℕ) → ListText n (text_as f head ++ (tail_text f tail ++ rest)) (cons head tail) rest
  list_written f nil t n l head w rest = proper (last (w (close_bracket ∷ rest) refl) no_gap)
  list_written f (cons d tail) t n l head w rest =
      rw append_assoc (prepended n _ _ rest head (cons d tail) (w (comma ∷ (text_as f d ++ (tail_text f tail ++ rest))) refl) (list_written f tail t.2 n (omega arith) d (written f d t.1 n (omega arith)) rest))
  list_written f (integer z) t n l head w rest = rw append_assoc (ended_by n _ _ rest head (integer z) (w (bar ∷ (text_as f (integer z) ++ (close_bracket ∷ rest))) refl) (integer_again f z t n l (close_bracket ∷ rest) refl))
  list_written f (atom cs) t n l head w rest = rw append_assoc (ended_by n _ _ rest head (atom cs) (w (bar ∷ (text_as f (atom cs) ++ (close_bracket ∷ rest))) refl) (atom_again f cs t.0 n l (close_bracket ∷ rest) refl))
  list_written f (tuple ds) t n l head w rest = rw append_assoc (ended_by n _ _ rest head (tuple ds) (w (bar ∷ (text_as f (tuple ds) ++ (close_bracket ∷ rest))) refl) (tuple_written f ds t.0 t.1 n l (close_bracket ∷ rest) refl))
  list_written f (map es) t n l head w rest = rw append_assoc (ended_by n _ _ rest head (map es) (w (bar ∷ (text_as f (map es) ++ (close_bracket ∷ rest))) refl) (map_written f es t.0 t.1 n l (close_bracket ∷ rest) refl))
  list_written f (binary bs) t n l head w rest = rw append_assoc (ended_by n _ _ rest head (binary bs) (w (bar ∷ (text_as f (binary bs) ++ (close_bracket ∷ rest))) refl) (binary_again f bs t.0 t.1 n l (close_bracket ∷ rest) refl))
