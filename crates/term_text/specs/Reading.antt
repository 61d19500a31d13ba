-- Reading from left to right, up to the first fault: terms and whole texts. Only the contracts of readers use this;
-- what a text spells is defined in Text.antt.
use Rattle.std.specs.Prelude.{ℕ, zero, suc, ◌<◌, ◌≤◌, ◌-◌, ◌≡◌, ◌==◌, ◌||◌, ℤ, pos, negsuc, List, [], ◌∷◌, ◌++◌, length, Bool, true, false, nat_lt, Option, Some, None, Result, Ok, if◌then◌else◌}
use Rattle.std.specs.Prelude.{map as each}
use Rattle.std.specs.Ordering.{is_eq}
use Rattle.std.specs.List.{insert}
use Rattle.std.specs.BTreeMap.{insert_entry}
use Rattle.term_core.specs.Datum.{Datum, items_of, entries_of, cells}
use Rattle.term_core.specs.Datum.Datum.{integer, atom, tuple, map, nil, binary}
use Rattle.term_core.specs.Order.{datum_cmp}
use Rattle.term_core.specs.Limits.{depth, items_depth}
use Rattle.term_core.specs.Fault.{IsTooLong}
use Rattle.term_core.specs.Sizes.{atom_limit, tuple_limit, map_limit, list_limit, binary_limit, depth_limit}
use Rattle.term_text.specs.declared.stop.Cause.TheVariants.{TooDeep, TooLong, DuplicateKey, Syntax, IntegerRange}
use Rattle.term_text.specs.declared.token.Opening.{Opening}
use Rattle.term_text.specs.declared.token.Marks.{Marks}
use Rattle.term_text.specs.declared.token.Opening.TheVariants as opens
use Rattle.term_text.specs.Character.{comma, single_quote, double_quote, close_brace, close_bracket, bar, equals, greater}
use Rattle.term_text.specs.TokenReading.{Fault, Read, ◌>>=◌, stop, after_gap, Step, all_steps, expect, expect_both, behind, opening, integer_at, word_at, quoted_at, after_both, dot_at}
use Rattle.term_text.specs.Text.{code_point}

-- whether a comma follows an item, and the text after it
abbrev pub comma_in : List ℕ → Bool × List ℕ
comma_in [] = (false, [])
comma_in (c ∷ cs) = if c == comma then (true, after_gap false cs) else (false, c ∷ cs)

abbrev pub after_comma : List ℕ → Bool × List ℕ
after_comma text = comma_in (after_gap false text)

abbrev pub behind_item : {S : Type 0} → S → List ℕ → Bool × S × List ℕ
behind_item s text = ((after_comma text).0, s, (after_comma text).1)

-- reads one item and says whether a comma and so another item follow
abbrev pub separated : {S : Type 0} → (S → List ℕ → Read S) → Step S
separated item s text = item s text >>= λ x. Ok (behind_item x.0 x.1)

abbrev pub enter_as : ℕ → ℕ → List ℕ → Option (Opening × List ℕ) → Read Opening
enter_as levels room text None = stop Syntax text
enter_as levels room text (Some o) =
    if levels == 0 then stop TooDeep text else if room == 0 then stop TooLong text else Ok o

-- reads how a term begins, with this number of levels left and room for this number of terms
unfoldable pub enter : ℕ → ℕ → List ℕ → Read Opening
enter levels room text = enter_as levels room text (opening text)

abbrev pub atom_marks : Marks
atom_marks = record { mark = single_quote; room = atom_limit; past = TooLong; only_bytes = false }

-- how a string is read that follows this number of elements, its characters having this number of levels left
abbrev pub string_marks : ℕ → ℕ → Marks
string_marks levels before = record {
  mark = double_quote;
  room = (if levels == 0 then 0 else list_limit - before);
  past = (if levels == 0 then TooDeep else TooLong);
  only_bytes = false;
}

abbrev pub byte_marks : ℕ → Marks
byte_marks before =
    record { mark = double_quote; room = binary_limit - before; past = TooLong; only_bytes = true }

-- reads a string and gives the list of these elements followed by its characters
unfoldable pub string_at : ℕ → List Datum → List ℕ → Read Datum
string_at levels front text =
    quoted_at (string_marks levels (length front)) text >>= λ x. Ok
    (cells (front ++ each code_point x.0) nil, x.1)

-- an integer as a byte
abbrev pub byte_of : ℤ → List ℕ → Result ℕ Fault
byte_of (pos b) start = if nat_lt b 256 then Ok b else stop IntegerRange start
byte_of (negsuc b) start = stop IntegerRange start

unfoldable pub byte_at : List ℕ → Read ℕ
byte_at text = integer_at text >>= λ z. byte_of z.0 text >>= λ b. Ok (b, z.1)

abbrev pub one_byte_at : List ℕ → List ℕ → Read (List ℕ)
one_byte_at bytes text =
    if length bytes == binary_limit then stop TooLong text else byte_at text >>= λ b. Ok
    (bytes ++ b.0 ∷ [], b.1)

abbrev pub segment_as : Option (Opening × List ℕ) → List ℕ → List ℕ → Read (List ℕ)
segment_as None bytes text = stop Syntax text
segment_as (Some (opens.Integer, rest)) bytes text = one_byte_at bytes text
segment_as (Some (opens.String, rest)) bytes text =
    quoted_at (byte_marks (length bytes)) rest >>= λ x. Ok (bytes ++ x.0, x.1)
segment_as (Some (o, rest)) bytes text = stop Syntax text

-- reads one more segment and appends it to these bytes
unfoldable pub segment_at : List ℕ → List ℕ → Read (List ℕ)
segment_at bytes text = segment_as (opening text) bytes text

abbrev pub segments_at : List ℕ → List ℕ → Read (List ℕ)
segments_at bytes text = all_steps (separated segment_at) bytes text

-- the bytes of a binary, none if it closes at once
abbrev pub bytes_at : Option (List ℕ) → List ℕ → Read (List ℕ)
bytes_at (Some rest) text = Ok ([], rest)
bytes_at None text =
    segments_at [] text >>= λ x. expect_both greater greater x.1 >>= λ rest. Ok (x.0, rest)

-- reads a binary, after its opening
unfoldable pub binary_at : List ℕ → Read Datum
binary_at text =
    bytes_at (after_both greater greater (after_gap false text)) (after_gap false text) >>= λ x. Ok
    (binary x.0, x.1)

-- Readers of terms nested one level deeper: one of a term, given room for this number of terms, and one of the tail of
-- a list of these elements, which gives the list.
abbrev pub TermReader : Type 0
TermReader = ℕ → List ℕ → Read Datum

abbrev pub TailReader : Type 0
TailReader = List Datum → List ℕ → Read Datum

-- reads one more element and appends it to these
unfoldable pub element_at : TermReader → ℕ → List Datum → List ℕ → Read (List Datum)
element_at read limit ds text = read (limit - length ds) text >>= λ x. Ok (ds ++ x.0 ∷ [], x.1)

abbrev pub elements_at : TermReader → ℕ → List Datum → List ℕ → Read (List Datum)
elements_at read limit ds text = all_steps (separated (element_at read limit)) ds text

-- reads more elements, if more follow those so far
abbrev pub elements_from : TermReader → ℕ → Bool → List Datum → List ℕ → Read (List Datum)
elements_from read limit true ds text = elements_at read limit ds text
elements_from read limit false ds text = Ok (ds, text)

-- the elements of a tuple, none if it closes at once
abbrev pub items_at : TermReader → Option (List ℕ) → List ℕ → Read (List Datum)
items_at read (Some rest) text = Ok ([], rest)
items_at read None text =
    elements_at read tuple_limit [] text >>= λ x. expect close_brace x.1 >>= λ rest. Ok (x.0, rest)

-- reads a tuple, after its opening
unfoldable pub tuple_at : TermReader → List ℕ → Read Datum
tuple_at read text =
    items_at read (behind close_brace (after_gap false text)) (after_gap false text) >>= λ x. Ok
    (tuple (items_of x.0), x.1)

-- reads the end of a list after its elements: a bar and a tail, if any, and the closing bracket
abbrev pub end_at : TailReader → List Datum → Option (List ℕ) → List ℕ → Read Datum
end_at read_tail ds (Some rest) text =
    read_tail ds (after_gap false rest) >>= λ x. expect close_bracket (after_gap false x.1) >>=
    λ rest. Ok (x.0, rest)
end_at read_tail ds None text = expect close_bracket text >>= λ rest. Ok (cells ds nil, rest)

unfoldable pub list_end : TailReader → List Datum → List ℕ → Read Datum
list_end read_tail ds text = end_at read_tail ds (behind bar text) text

abbrev pub list_from : TermReader → TailReader → List Datum → Option (List ℕ) → List ℕ → Read Datum
list_from read read_tail front (Some rest) text = Ok (cells front nil, rest)
list_from read read_tail front None text =
    elements_at read list_limit front text >>= λ x. list_end read_tail x.0 x.1

-- reads a list that begins with these elements, after the opening of its last part
unfoldable pub list_at : TermReader → TailReader → List Datum → List ℕ → Read Datum
list_at read read_tail front text =
    list_from read read_tail front (behind close_bracket (after_gap false text))
    (after_gap false text)

abbrev pub has_key : Datum → List (Datum × Datum) → Bool
has_key k [] = false
has_key k (e ∷ es) = is_eq (datum_cmp k e.0) || has_key k es

unfoldable pub pair_at : TermReader → List (Datum × Datum) → List ℕ → Read (List (Datum × Datum))
pair_at read es text = read (map_limit - length es) text >>= λ k.
    if has_key k.0 es then stop DuplicateKey text
    else expect_both equals greater (after_gap false k.1) >>= λ rest. read 1 (after_gap false rest)
    >>= λ v. Ok (insert_entry datum_cmp es k.0 v.0, v.1)

-- reads more pairs, if more follow those so far
abbrev pub pairs_from : TermReader → Bool → List (Datum × Datum) → List ℕ → Read (List (Datum × Datum))
pairs_from read true es text = all_steps (separated (pair_at read)) es text
pairs_from read false es text = Ok (es, text)

-- the place where a key that isn't among these belongs
pub record IsPlace (place : ℕ) (k : Datum) (es : List (Datum × Datum)) : Type 0 where
  pub within : place ≤ length es
  pub fresh : has_key k es ≡ false
  pub put : (v : Datum) → insert es place (k, v) ≡ insert_entry datum_cmp es k v

-- the pairs of a map, none if it closes at once
abbrev pub pairs_at : TermReader → Option (List ℕ) → List ℕ → Read (List (Datum × Datum))
pairs_at read (Some rest) text = Ok ([], rest)
pairs_at read None text =
    all_steps (separated (pair_at read)) [] text >>= λ x. expect close_brace x.1 >>= λ rest. Ok
    (x.0, rest)

-- reads a map, after its opening
unfoldable pub map_at : TermReader → List ℕ → Read Datum
map_at read text =
    pairs_at read (behind close_brace (after_gap false text)) (after_gap false text) >>= λ x. Ok
    (map (entries_of x.0), x.1)

unfoldable pub quoted_atom_at : List ℕ → Read Datum
quoted_atom_at text = quoted_at atom_marks text >>= λ x. Ok (atom x.0, x.1)

unfoldable pub word_term_at : List ℕ → Read Datum
word_term_at text = word_at text >>= λ x. Ok (atom x.0, x.1)

unfoldable pub integer_term_at : List ℕ → Read Datum
integer_term_at text = integer_at text >>= λ x. Ok (integer x.0, x.1)

abbrev pub form_at : TermReader → TailReader → ℕ → Opening → List ℕ → Read Datum
form_at read read_tail levels opens.Integer text = integer_term_at text
form_at read read_tail levels opens.Word text = word_term_at text
form_at read read_tail levels opens.QuotedAtom text = quoted_atom_at text
form_at read read_tail levels opens.String text = string_at levels [] text
form_at read read_tail levels opens.Tuple text = tuple_at read text
form_at read read_tail levels opens.List text = list_at read read_tail [] text
form_at read read_tail levels opens.Map text = map_at read text
form_at read read_tail levels opens.Binary text = binary_at text

-- reads a tail of this form: a list and a string continue the elements, another term ends them
abbrev pub tail_form : TermReader → TailReader → ℕ → List Datum → Opening → List ℕ → Read Datum
tail_form read read_tail levels front opens.String text = string_at levels front text
tail_form read read_tail levels front opens.List text = list_at read read_tail front text
tail_form read read_tail levels front o text =
    form_at read read_tail levels o text >>= λ x. Ok (cells front x.0, x.1)

unfoldable mutual
  -- reads a term, with this number of levels left and room for this number of terms
  pub term_at : ℕ → TermReader
  term_at zero room text = enter zero room text >>= λ o. stop Syntax text
  term_at (suc n) room text =
      enter (suc n) room text >>= λ o. form_at (term_at n) (tail_at n) n o.0 o.1

  -- reads the tail of a list, and gives the list of these elements and that tail
  pub tail_at : ℕ → TailReader
  tail_at zero front text = enter zero 1 text >>= λ o. stop Syntax text
  tail_at (suc n) front text =
      enter (suc n) 1 text >>= λ o. tail_form (term_at n) (tail_at n) n front o.0 o.1

unfoldable pub sentence_at : List ℕ → Read Datum
sentence_at text =
    term_at depth_limit 1 text >>= λ x. dot_at (after_gap false x.1) >>= λ rest. Ok (x.0, rest)

abbrev pub next_from : List ℕ → Result (Option (Datum × List ℕ)) Fault
next_from [] = Ok None
next_from (c ∷ cs) = sentence_at (c ∷ cs) >>= λ x. Ok (Some x)

-- reads the next term, None if only a gap remains
unfoldable pub next_at : List ℕ → Result (Option (Datum × List ℕ)) Fault
next_at text = next_from (after_gap false text)

unfoldable pub sentence_step : Step (List Datum)
sentence_step ds [] = Ok (false, ds, [])
sentence_step ds (c ∷ cs) =
    sentence_at (c ∷ cs) >>= λ x. Ok (true, ds ++ x.0 ∷ [], after_gap false x.1)

-- reads all terms of a text
unfoldable pub text_at : List ℕ → Result (List Datum) Fault
text_at text = all_steps sentence_step [] (after_gap false text) >>= λ x. Ok x.0

-- a term within the limits, so that making it fails only if memory runs out
abbrev pub IsWithin : Datum → Type 0
IsWithin d = (depth d ≤ depth_limit) × ¬ IsTooLong d

-- elements that a list may begin with
pub record AreElements (ds : List Datum) : Type 0 where
  pub few : length ds ≤ list_limit
  pub shallow : items_depth (items_of ds) < depth_limit
