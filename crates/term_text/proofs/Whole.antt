-- What a text spells is what is read.
use Rattle.std.proofs.Common.{◌≡◌, ℕ, suc, ◌+◌, ◌-◌, ◌≤◌, ◌<◌, ◌⊎◌, inl, inr, true, false, List, [], ◌∷◌, ◌++◌, length, Some, None, Ok, ℤ, pos, refl, sym, ap, ◌∙◌, arith, append_assoc, lit<}
use Rattle.std.proofs.Common.{map as each}
use Rattle.std.specs.Prelude.{◌==◌}
use Rattle.std.proofs.lemmas.Bool.{ne_eqb, lt-ltb, le-leb}
use Rattle.std.proofs.lemmas.List.{length-append, length-map, append-nil}
use Rattle.std.specs.List.{AllByRecursion}
use Rattle.std.specs.Char.{is_ascii_digit, is_ascii_lowercase}
use Rattle.term_core.specs.Datum.{Datum, items_of, entries_of, cells, cell_count}
use Rattle.term_core.specs.Datum.Datum.{integer, atom, tuple, map, nil, binary}
use Rattle.term_core.specs.declared.TheConstants.{MAX_CHARACTERS, MAX_TUPLE, MAX_MAP, MAX_LIST, MAX_BINARY}
use Rattle.term_text.specs.Character.{equals, is_word, is_white_space, percent, comma, single_quote, double_quote, open_brace, close_brace, open_bracket, close_bracket, bar, number_sign, less, greater}
use Rattle.term_text.specs.declared.token.Opening.{Opening}
use Rattle.term_text.specs.declared.token.Opening.TheVariants as opens
use Rattle.term_text.specs.Tokens.{Gap, Quoted, Run, Integer}
use Rattle.term_text.specs.Text.{Segment, Segments, Spelled, Elements, Pair, Pairs, code_point}
use Rattle.term_text.specs.Tokens.Quoted.{closed}
use Rattle.term_text.specs.Text.Segment.{a_byte, some_bytes}
use Rattle.term_text.specs.Text.Segments.{last_segment, more_segments}
use Rattle.term_text.specs.Text.Spelled.{an_integer, a_word, a_quoted_atom, an_empty_string, a_string, an_empty_tuple, a_tuple, an_empty_list, a_list, a_list_with_tail, an_empty_map, a_map, an_empty_binary, a_binary}
use Rattle.term_text.specs.Text.Elements.{last, more}
use Rattle.term_text.specs.Text.Pair.{arrow}
use Rattle.term_text.specs.Text.Pairs.{last_pair, more_pairs}
use Rattle.std.specs.BTreeMap.{insert_entry}
use Rattle.std.proofs.lemmas.List.Sorted.{length_permutation}
use Rattle.term_core.specs.Order.{datum_cmp}
use Rattle.term_text.proofs.Keys.{put_permutes, put_all, put_all-none, put_all-more, put_all_ordered, AreApart, apart_fresh, apart_next, apart_at_first}
use Rattle.term_text.specs.TokenReading.{is_allowed, Read, ◌>>=◌, all_steps, after_gap, behind, after_both, opening, is_sign, quoted_at}
use Rattle.term_text.specs.Reading.{has_key, pair_at, map_at, comma_in, after_comma, enter, atom_marks, string_marks, byte_marks, string_at, integer_term_at, word_term_at, quoted_atom_at, element_at, elements_at, separated, tuple_at, list_at, list_end, byte_at, segment_at, segments_at, binary_at, form_at, tail_form, term_at, tail_at}
use Rattle.term_text.proofs.Steps.{Shrinks, all_steps_is}
use Rattle.term_text.proofs.Tokens.{quoted_again, gap_again}
use Rattle.term_text.proofs.Words.{BeginsInteger, integer_again, integer_begins, word_again, opening_integer, opening_word}
use Rattle.term_text.proofs.Sound.{term_holds, element_shrinks, segment_shrinks, pair_shrinks, cells-append, cell_count-cells}

-- ---- how a term begins

-- a character that begins no gap and closes nothing
abbrev pub IsFirst : List ℕ → Type 0
IsFirst [] = ⊥
IsFirst (c ∷ cs) = ((c == percent) ≡ false) × (is_white_space c ≡ false) × ((c == close_brace) ≡ false) × ((c == close_bracket) ≡ false) × ((c == greater) ≡ false)

integer_first_at : (c : ℕ) → (is_ascii_digit c ≡ true) ⊎ (is_sign c ≡ true) → ((c == percent) ≡ false) × (is_white_space c ≡ false) × ((c == close_brace) ≡ false) × ((c == close_bracket) ≡ false) × ((c == greater) ≡ false)
integer_first_at c h = (grind arith, grind arith, grind arith, grind arith, grind arith)

integer_first : (text : List ℕ) → BeginsInteger text → IsFirst text
integer_first [] h = absurd h
integer_first (c ∷ cs) (inl d) = integer_first_at c (inl d)
integer_first (c ∷ cs) (inr s) = integer_first_at c (inr s.0)

word_first : (c : ℕ) (cs : List ℕ) → is_ascii_lowercase c ≡ true → IsFirst (c ∷ cs)
word_first c cs h = (grind arith, grind arith, grind arith, grind arith, grind arith)

pub spelled_first : {n : ℕ} {text rest : List ℕ} {d : Datum} → Spelled n text d rest → IsFirst text
spelled_first (an_integer {n} {text} i) = integer_first text (integer_begins i)
spelled_first (a_word {n} {c} {text} h r l) = word_first c text h
spelled_first (a_quoted_atom q l) = (refl, refl, refl, refl, refl)
spelled_first an_empty_string = (refl, refl, refl, refl, refl)
spelled_first (a_string q l) = (refl, refl, refl, refl, refl)
spelled_first (an_empty_tuple g) = (refl, refl, refl, refl, refl)
spelled_first (a_tuple g es l) = (refl, refl, refl, refl, refl)
spelled_first (an_empty_list g) = (refl, refl, refl, refl, refl)
spelled_first (a_list g es l) = (refl, refl, refl, refl, refl)
spelled_first (a_list_with_tail g es h s k l) = (refl, refl, refl, refl, refl)
spelled_first (an_empty_map g) = (refl, refl, refl, refl, refl)
spelled_first (a_map g ps l p r) = (refl, refl, refl, refl, refl)
spelled_first (an_empty_binary g) = (refl, refl, refl, refl, refl)
spelled_first (a_binary g ss l) = (refl, refl, refl, refl, refl)

pub elements_first : {n : ℕ} {text rest : List ℕ} {ds : List Datum} → Elements n text ds rest → IsFirst text
elements_first (last s g) = spelled_first s
elements_first (more s g h es) = spelled_first s

segment_first : {text bs rest : List ℕ} → Segment text bs rest → IsFirst text
segment_first (a_byte {text} i l) = integer_first text (integer_begins i)
segment_first (some_bytes q l) = (refl, refl, refl, refl, refl)

segments_first : {text bs rest : List ℕ} → Segments text bs rest → IsFirst text
segments_first (last_segment s g) = segment_first s
segments_first (more_segments s g h ss) = segment_first s

first_gap : (text : List ℕ) → IsFirst text → after_gap false text ≡ text
first_gap [] h = absurd h
first_gap (c ∷ cs) h = rw (h.0, h.1) refl

first_brace : (text : List ℕ) → IsFirst text → behind close_brace text ≡ None
first_brace [] h = absurd h
first_brace (c ∷ cs) h = rw h.2 refl

first_bracket : (text : List ℕ) → IsFirst text → behind close_bracket text ≡ None
first_bracket [] h = absurd h
first_bracket (c ∷ cs) h = rw h.3 refl

first_greater : (text : List ℕ) → IsFirst text → after_both greater greater text ≡ None
first_greater [] h = absurd h
first_greater (c ∷ []) h = refl
first_greater (c ∷ d ∷ cs) h = rw h.4 refl

-- the gap before a term is all that is passed
pub gap_first : {text t : List ℕ} → Gap text t → IsFirst t → after_gap false text ≡ t
gap_first {text} {t} g h = gap_again g ∙ first_gap t h

-- ---- what stops a row of items

abbrev pub Stops : List ℕ → Type 0
Stops [] = ⊥
Stops (c ∷ cs) = ((c == percent) ≡ false) × (is_white_space c ≡ false) × ((c == comma) ≡ false)

stops_gap : (rest : List ℕ) → Stops rest → after_gap false rest ≡ rest
stops_gap [] h = absurd h
stops_gap (c ∷ cs) h = rw (h.0, h.1) refl

stops_comma : (rest : List ℕ) → Stops rest → comma_in rest ≡ (false, rest)
stops_comma [] h = absurd h
stops_comma (c ∷ cs) h = rw h.2 refl

last_item : {t rest : List ℕ} → Gap t rest → Stops rest → after_comma t ≡ (false, rest)
last_item {t} {rest} g h = ap comma_in (gap_again g ∙ stops_gap rest h) ∙ stops_comma rest h

more_items : {t u v : List ℕ} → Gap t (comma ∷ u) → Gap u v → IsFirst v → after_comma t ≡ (true, v)
more_items {t} {u} {v} g k h = ap comma_in (gap_again g) ∙ ap (λ (r : List ℕ). (true, r)) (gap_first k h)

module _ {S : Type 0} (item : S → List ℕ → Read S) (shrinks : Shrinks (separated item)) where
  pub last_step : (s u : S) (text : List ℕ) {t rest : List ℕ} → item s text ≡ Ok (u, t) → Gap t rest → Stops rest → all_steps (separated item) s text ≡ Ok (u, rest)
  last_step s u text {t} {rest} e g h = all_steps_is (separated item) shrinks s text ∙ rw (e, last_item g h) refl

  pub more_step : (s u : S) (text : List ℕ) {t w v : List ℕ} → item s text ≡ Ok (u, t) → Gap t (comma ∷ w) → Gap w v → IsFirst v → all_steps (separated item) s text ≡ all_steps (separated item) u v
  more_step s u text {t} {w} {v} e g k h = all_steps_is (separated item) shrinks s text ∙ rw (e, more_items g k h) refl

-- ---- binaries

bytes_allowed : (cs : List ℕ) → AllByRecursion (λ b. b < 256) cs → AllByRecursion (λ c. is_allowed true c ≡ true) cs
bytes_allowed [] h = tt
bytes_allowed (c ∷ cs) h = (le-leb c 255 (let l = h.0 in omega arith), bytes_allowed cs h.1)

any_allowed : (cs : List ℕ) → AllByRecursion (λ c. is_allowed false c ≡ true) cs
any_allowed [] = tt
any_allowed (c ∷ cs) = (refl, any_allowed cs)

byte_again : {text rest : List ℕ} {b : ℕ} → Integer text (pos b) rest → b < 256 → byte_at text ≡ Ok (b, rest)
unfolding byte_at
byte_again {text} {rest} {b} i l = rw (integer_again i, lt-ltb b 256 l) refl

byte_segment : (bytes text rest : List ℕ) (b : ℕ) → opening text ≡ Some (opens.Integer, text) → (length bytes == MAX_BINARY) ≡ false → byte_at text ≡ Ok (b, rest) → segment_at bytes text ≡ Ok (bytes ++ b ∷ [], rest)
unfolding segment_at
byte_segment bytes text rest b o full e = rw (o, full, e) refl

string_segment : (bytes text rest cs : List ℕ) → quoted_at (byte_marks (length bytes)) text ≡ Ok (cs, rest) → segment_at bytes (double_quote ∷ text) ≡ Ok (bytes ++ cs, rest)
unfolding segment_at
string_segment bytes text rest cs e = rw e refl

not_full : (x y n : ℕ) → 0 < y → x + y ≤ n → x ≡ n → ⊥
not_full x y n some h e = omega arith

fits_behind : (x y n : ℕ) → x + y ≤ n → 0 + y ≤ n - x
fits_behind x y n h = omega arith

byte_case : (bytes : List ℕ) {text rest : List ℕ} {b : ℕ} → Integer text (pos b) rest → b < 256 → length bytes + 1 ≤ MAX_BINARY → segment_at bytes text ≡ Ok (bytes ++ b ∷ [], rest)
byte_case bytes {text} {rest} {b} i l room =
    byte_segment bytes text rest b (opening_integer text (integer_begins i)) (ne_eqb (length bytes) MAX_BINARY (not_full (length bytes) 1 MAX_BINARY (lit< tt) room)) (byte_again i l)

string_case : (bytes : List ℕ) {text rest cs : List ℕ} → Quoted double_quote text cs rest → AllByRecursion (λ b. b < 256) cs → length bytes + length cs ≤ MAX_BINARY → segment_at bytes (double_quote ∷ text) ≡ Ok (bytes ++ cs, rest)
string_case bytes {text} {rest} {cs} q l room =
    string_segment bytes text rest cs (quoted_again (byte_marks (length bytes)) (λ e. absurd cc) q [] (fits_behind (length bytes) (length cs) MAX_BINARY room) (bytes_allowed cs l))

pub segment_again : {text bs rest : List ℕ} → Segment text bs rest → (bytes : List ℕ) → length bytes + length bs ≤ MAX_BINARY → segment_at bytes text ≡ Ok (bytes ++ bs, rest)
segment_again (a_byte i l) bytes room = byte_case bytes i l room
segment_again (some_bytes q l) bytes room = string_case bytes q l room

segments_again : {text bs rest : List ℕ} → Segments text bs rest → Stops rest → (bytes : List ℕ) → length bytes + length bs ≤ MAX_BINARY → segments_at bytes text ≡ Ok (bytes ++ bs, rest)
segments_again (last_segment {text} {t} {rest} {bs} s g) h bytes room = last_step segment_at segment_shrinks bytes (bytes ++ bs) text (segment_again s bytes room) g h
segments_again (more_segments {text} {t} {u} {v} {rest} {bs} {cs} s g k ss) h bytes room =
    let len = length-append bs cs in
    let joined = length-append bytes bs in
    more_step segment_at segment_shrinks bytes (bytes ++ bs) text (segment_again s bytes (omega arith)) g k (segments_first ss)
    ∙ segments_again ss h (bytes ++ bs) (omega arith)
    ∙ ap (λ (all : List ℕ). Ok (all, rest)) (append_assoc bytes bs cs)

binary_again : {text t bytes rest : List ℕ} → Gap text t → Segments t bytes (greater ∷ greater ∷ rest) → length bytes ≤ MAX_BINARY → binary_at text ≡ Ok (binary bytes, rest)
unfolding binary_at
binary_again {text} {t} g ss h = rw (gap_first g (segments_first ss), first_greater t (segments_first ss), segments_again ss (refl, refl, refl) [] (omega arith)) refl

empty_binary_again : {text rest : List ℕ} → Gap text (greater ∷ greater ∷ rest) → binary_at text ≡ Ok (binary [], rest)
unfolding binary_at
empty_binary_again g = rw (gap_again g) refl

-- ---- terms

-- a term is read again, alone and as the tail of a list
record Again (n : ℕ) (text : List ℕ) (d : Datum) (rest : List ℕ) : Type 0 where
  term : (room : ℕ) → 0 < room → term_at n room text ≡ Ok (d, rest)
  tail : (front : List Datum) → cell_count (cells front d) ≤ MAX_LIST → tail_at n front text ≡ Ok (cells front d, rest)

pub enter_again : (n room : ℕ) (text rest : List ℕ) (o : Opening) → opening text ≡ Some (o, rest) → 0 < room → enter (suc n) room text ≡ Ok (o, rest)
unfolding enter
enter_again n room text rest o e h =
    let levels : (suc n == 0) ≡ false = ne_eqb (suc n) 0 (λ e. omega arith) in
    let some : (room == 0) ≡ false = ne_eqb room 0 (λ e. omega arith) in
    rw (e, levels, some) refl

again_by : (n : ℕ) (text behind : List ℕ) (d : Datum) (rest : List ℕ) (o : Opening) → opening text ≡ Some (o, behind) → form_at (term_at n) (tail_at n) n o behind ≡ Ok (d, rest) → ((front : List Datum) → cell_count (cells front d) ≤ MAX_LIST → tail_form (term_at n) (tail_at n) n front o behind ≡ Ok (cells front d, rest)) → Again (suc n) text d rest
unfolding term_at tail_at
again_by n text behind d rest o e form tail = record {
  term = λ room h. rw (enter_again n room text behind o e h) form;
  tail = λ front h. rw (enter_again n 1 text behind o e (omega arith)) (tail front h);
}

ended : (front : List Datum) (d : Datum) (rest : List ℕ) (r : Read Datum) → r ≡ Ok (d, rest) → (let after : Datum × List ℕ → Read Datum = λ x. Ok (cells front x.0, x.1) in (r >>= after) ≡ Ok (cells front d, rest))
ended front d rest r e = rw e refl

integer_form : {text rest : List ℕ} {z : ℤ} → Integer text z rest → integer_term_at text ≡ Ok (integer z, rest)
unfolding integer_term_at
integer_form i = rw (integer_again i) refl

word_form : {text cs rest : List ℕ} → Run is_word text cs rest → length cs ≤ MAX_CHARACTERS → word_term_at text ≡ Ok (atom cs, rest)
unfolding word_term_at
word_form r l = rw (word_again r l) refl

quoted_form : {text cs rest : List ℕ} → Quoted single_quote text cs rest → length cs ≤ MAX_CHARACTERS → quoted_atom_at text ≡ Ok (atom cs, rest)
unfolding quoted_atom_at
quoted_form {text} {cs} q l = rw (quoted_again atom_marks (λ e. absurd cc) q [] (omega arith) (any_allowed cs)) refl

empty_string_form : (n : ℕ) (front : List Datum) (rest : List ℕ) → string_at n front (double_quote ∷ rest) ≡ Ok (cells front nil, rest)
unfolding string_at
empty_string_form n front rest = rw (quoted_again (string_marks n (length front)) (λ e. absurd cc) (closed {rest = rest}) [] (omega arith) tt) (ap (λ (l : List Datum). Ok (cells l nil, rest)) (append-nil front))

string_form : (n : ℕ) (front : List Datum) {text cs rest : List ℕ} → Quoted double_quote text cs rest → length front + length cs ≤ MAX_LIST → string_at (suc n) front text ≡ Ok (cells front (cells (each code_point cs) nil), rest)
unfolding string_at
string_form n front {text} {cs} {rest} q l =
    let levels : (suc n == 0) ≡ false = ne_eqb (suc n) 0 (λ e. omega arith) in
    let room : 0 + length cs ≤ (string_marks (suc n) (length front)).room = rw levels (omega arith) in
    rw (quoted_again (string_marks (suc n) (length front)) (λ e. absurd cc) q [] room (any_allowed cs)) (ap (λ (e : Datum). Ok (e, rest)) (cells-append front (each code_point cs) nil))

empty_tuple_form : (n : ℕ) {text rest : List ℕ} → Gap text (close_brace ∷ rest) → tuple_at (term_at n) text ≡ Ok (tuple (items_of []), rest)
unfolding tuple_at
empty_tuple_form n g = rw (gap_again g) refl

tuple_form : (n : ℕ) {text t rest : List ℕ} {ds : List Datum} → Gap text t → IsFirst t → elements_at (term_at n) MAX_TUPLE [] t ≡ Ok (ds, close_brace ∷ rest) → tuple_at (term_at n) text ≡ Ok (tuple (items_of ds), rest)
unfolding tuple_at
tuple_form n {text} {t} g f e = rw (gap_first g f, first_brace t f, e) refl

empty_list_form : (n : ℕ) (front : List Datum) {text rest : List ℕ} → Gap text (close_bracket ∷ rest) → list_at (term_at n) (tail_at n) front text ≡ Ok (cells front nil, rest)
unfolding list_at
empty_list_form n front g = rw (gap_again g) refl

list_form : (n : ℕ) (front ds : List Datum) {text t rest : List ℕ} → Gap text t → IsFirst t → elements_at (term_at n) MAX_LIST front t ≡ Ok (front ++ ds, close_bracket ∷ rest) → list_at (term_at n) (tail_at n) front text ≡ Ok (cells front (cells ds nil), rest)
unfolding list_at list_end
list_form n front ds {text} {t} {rest} g f e = rw (gap_first g f, first_bracket t f, e) (ap (λ (e : Datum). Ok (e, rest)) (cells-append front ds nil))

tailed_form : (n : ℕ) (front ds : List Datum) (d : Datum) {text t u v w rest : List ℕ} → Gap text t → IsFirst t → elements_at (term_at n) MAX_LIST front t ≡ Ok (front ++ ds, bar ∷ u) → Gap u v → IsFirst v → tail_at n (front ++ ds) v ≡ Ok (cells (front ++ ds) d, w) → Gap w (close_bracket ∷ rest) → list_at (term_at n) (tail_at n) front text ≡ Ok (cells front (cells ds d), rest)
unfolding list_at list_end
tailed_form n front ds d {text} {t} {u} {v} {w} {rest} g f e k h s m = rw (gap_first g f, first_bracket t f, e, gap_first k h, s, gap_again m) (ap (λ (e : Datum). Ok (e, rest)) (cells-append front ds d))

pub element_again : (n limit : ℕ) (text rest : List ℕ) (d : Datum) (front : List Datum) → term_at n (limit - length front) text ≡ Ok (d, rest) → element_at (term_at n) limit front text ≡ Ok (front ++ d ∷ [], rest)
unfolding element_at
element_again n limit text rest d front e = rw e refl

empty_map_form : (n : ℕ) {text rest : List ℕ} → Gap text (close_brace ∷ rest) → map_at (term_at n) text ≡ Ok (map (entries_of []), rest)
unfolding map_at
empty_map_form n g = rw (gap_again g) refl

map_form : (n : ℕ) {text t rest : List ℕ} {es ordered : List (Datum × Datum)} → Gap text t → IsFirst t → all_steps (separated (pair_at (term_at n))) [] t ≡ Ok (es, close_brace ∷ rest) → es ≡ ordered → map_at (term_at n) text ≡ Ok (map (entries_of ordered), rest)
unfolding map_at
map_form n {text} {t} g f e same = rw (gap_first g f, first_brace t f, e, same) refl

pair_form : (n : ℕ) (front : List (Datum × Datum)) (text rest : List ℕ) (key value : Datum) {t u v : List ℕ} → has_key key front ≡ false → term_at n (MAX_MAP - length front) text ≡ Ok (key, t) → Gap t (equals ∷ greater ∷ u) → Gap u v → IsFirst v → term_at n 1 v ≡ Ok (value, rest) → pair_at (term_at n) front text ≡ Ok (insert_entry datum_cmp front key value, rest)
unfolding pair_at
pair_form n front text rest key value fresh a g k f b = rw (a, fresh, gap_again g, gap_first k f, b) refl

room_left : (x y n : ℕ) → 0 < y → x + y ≤ n → 0 < n - x
room_left x y n some h = omega arith

pair_first : {n : ℕ} {text rest : List ℕ} {k v : Datum} → Pair n text k v rest → IsFirst text
pair_first (arrow s g h t) = spelled_first s

pairs_first : {n : ℕ} {text rest : List ℕ} {es : List (Datum × Datum)} → Pairs n text es rest → IsFirst text
pairs_first (last_pair p g) = pair_first p
pairs_first (more_pairs p g h ps) = pair_first p

mutual
  spelled_again : {n : ℕ} {text rest : List ℕ} {d : Datum} → Spelled n text d rest → Again n text d rest
  spelled_again (an_integer {n} {text} {rest} {z} i) = again_by n text text (integer z) rest opens.Integer (opening_integer text (integer_begins i)) (integer_form i) (λ front h. ended front (integer z) rest _ (integer_form i))
  spelled_again (a_word {n} {c} {text} {cs} {rest} h r l) = again_by n (c ∷ text) (c ∷ text) (atom cs) rest opens.Word (opening_word c text h) (word_form r l) (λ front h. ended front (atom cs) rest _ (word_form r l))
  spelled_again (a_quoted_atom {n} {text} {cs} {rest} q l) = again_by n (single_quote ∷ text) text (atom cs) rest opens.QuotedAtom refl (quoted_form q l) (λ front h. ended front (atom cs) rest _ (quoted_form q l))
  spelled_again (an_empty_string {n} {rest}) = again_by n (double_quote ∷ double_quote ∷ rest) (double_quote ∷ rest) nil rest opens.String refl (empty_string_form n [] rest) (λ front h. empty_string_form n front rest)
  spelled_again (a_string {n} {text} {cs} {rest} q l) =
      again_by (suc n) (double_quote ∷ text) text (cells (each code_point cs) nil) rest opens.String refl (string_form n [] q (omega arith))
      (λ front h. string_form n front q (let c = cell_count-cells front (cells (each code_point cs) nil) in let d = cell_count-cells (each code_point cs) nil in let len = length-map cs code_point in omega arith))
  spelled_again (an_empty_tuple {n} {text} {rest} g) = again_by n (open_brace ∷ text) text (tuple (items_of [])) rest opens.Tuple refl (empty_tuple_form n g) (λ front h. ended front (tuple (items_of [])) rest _ (empty_tuple_form n g))
  spelled_again (a_tuple {n} {text} {t} {rest} {ds} g es l) = again_by n (open_brace ∷ text) text (tuple (items_of ds)) rest opens.Tuple refl (tuple_form n g (elements_first es) (elements_again es (refl, refl, refl) MAX_TUPLE [] (omega arith))) (λ front h. ended front (tuple (items_of ds)) rest _ (tuple_form n g (elements_first es) (elements_again es (refl, refl, refl) MAX_TUPLE [] (omega arith))))
  spelled_again (an_empty_list {n} {text} {rest} g) = again_by n (open_bracket ∷ text) text nil rest opens.List refl (empty_list_form n [] g) (λ front h. empty_list_form n front g)
  spelled_again (a_list {n} {text} {t} {rest} {ds} g es l) =
      again_by n (open_bracket ∷ text) text (cells ds nil) rest opens.List refl (list_form n [] ds g (elements_first es) (elements_again es (refl, refl, refl) MAX_LIST [] (omega arith)))
      (λ front h. list_form n front ds g (elements_first es) (elements_again es (refl, refl, refl) MAX_LIST front (let c = cell_count-cells front (cells ds nil) in let d = cell_count-cells ds nil in omega arith)))
  spelled_again (a_list_with_tail {n} {text} {t} {u} {v} {w} {rest} {ds} {d} g es k s m l) =
      let tailed : (front : List Datum) → cell_count (cells front (cells ds d)) ≤ MAX_LIST → list_at (term_at n) (tail_at n) front text ≡ Ok (cells front (cells ds d), rest) =
      λ front l.
      let c = cell_count-cells front (cells ds d) in
      let e = cell_count-cells ds d in
      tailed_form n front ds d g (elements_first es) (elements_again es (refl, refl, refl) MAX_LIST front (omega arith)) k (spelled_first s)
      ((spelled_again s).tail (front ++ ds) (rw (cells-append front ds d) l)) m
      in
      again_by n (open_bracket ∷ text) text (cells ds d) rest opens.List refl (tailed [] l) tailed
  spelled_again (an_empty_map {n} {text} {rest} g) = again_by n (number_sign ∷ open_brace ∷ text) text (map (entries_of [])) rest opens.Map refl (empty_map_form n g) (λ front h. ended front (map (entries_of [])) rest _ (empty_map_form n g))
  spelled_again (a_map {n} {text} {t} {rest} {es} {ordered} g ps l p r) =
      let apart = apart_at_first es ordered p r in
      let form = map_form n g (pairs_first ps) (pairs_again ps (refl, refl, refl) [] (omega arith) apart) (put_all_ordered es ordered p r) in
      again_by n (number_sign ∷ open_brace ∷ text) text (map (entries_of ordered)) rest opens.Map refl form (λ front h. ended front (map (entries_of ordered)) rest _ form)
  spelled_again (an_empty_binary {n} {text} {rest} g) = again_by n (less ∷ less ∷ text) text (binary []) rest opens.Binary refl (empty_binary_again g) (λ front h. ended front (binary []) rest _ (empty_binary_again g))
  spelled_again (a_binary {n} {text} {t} {rest} {bytes} g ss l) = again_by n (less ∷ less ∷ text) text (binary bytes) rest opens.Binary refl (binary_again g ss l) (λ front h. ended front (binary bytes) rest _ (binary_again g ss l))

  elements_again : {n : ℕ} {text rest : List ℕ} {ds : List Datum} → Elements n text ds rest → Stops rest → (limit : ℕ) (front : List Datum) → length front + length ds ≤ limit → elements_at (term_at n) limit front text ≡ Ok (front ++ ds, rest)
  elements_again (last {n} {text} {t} {rest} {d} s g) h limit front room =
      last_step (element_at (term_at n) limit) (element_shrinks n (term_at n) (term_holds n) limit) front (front ++ d ∷ []) text (element_again n limit text t d front ((spelled_again s).term (limit - length front) (omega arith))) g h
  elements_again (more {n} {text} {t} {u} {v} {rest} {d} {ds} s g k es) h limit front room =
      let len = length-append front (d ∷ []) in
      more_step (element_at (term_at n) limit) (element_shrinks n (term_at n) (term_holds n) limit) front (front ++ d ∷ []) text (element_again n limit text t d front ((spelled_again s).term (limit - length front) (omega arith))) g k (elements_first es)
      ∙ elements_again es h limit (front ++ d ∷ []) (omega arith)
      ∙ ap (λ (all : List Datum). Ok (all, rest)) (append_assoc front (d ∷ []) ds)

  pairs_again : {n : ℕ} {text rest : List ℕ} {es : List (Datum × Datum)} → Pairs n text es rest → Stops rest → (front : List (Datum × Datum)) → length front + length es ≤ MAX_MAP → AreApart front es → all_steps (separated (pair_at (term_at n))) front text ≡ Ok (put_all front es, rest)
  pairs_again (last_pair {n} {text} {t} {rest} {key} {value} r g) h front room apart =
      last_step (pair_at (term_at n)) (pair_shrinks n (term_at n) (term_holds n)) front (insert_entry datum_cmp front key value) text (pair_again r front (apart_fresh front key value [] apart) (room_left (length front) 1 MAX_MAP (lit< tt) room)) g h
      ∙ ap (λ (es : List (Datum × Datum)). Ok (es, rest)) (sym (put_all-more front key value [] ∙ put_all-none (insert_entry datum_cmp front key value)))
  pairs_again (more_pairs {n} {text} {t} {u} {v} {rest} {key} {value} {es} r g k ps) h front room apart =
      let fresh = apart_fresh front key value es apart in
      let len = length_permutation ((key, value) ∷ front) (insert_entry datum_cmp front key value) (put_permutes key value front fresh) in
      more_step (pair_at (term_at n)) (pair_shrinks n (term_at n) (term_holds n)) front (insert_entry datum_cmp front key value) text (pair_again r front fresh (room_left (length front) (suc (length es)) MAX_MAP (omega arith) room)) g k (pairs_first ps)
      ∙ pairs_again ps h (insert_entry datum_cmp front key value) (omega arith) (apart_next front key value es apart)
      ∙ ap (λ (es : List (Datum × Datum)). Ok (es, rest)) (sym (put_all-more front key value es))

  pub pair_again : {n : ℕ} {text rest : List ℕ} {key value : Datum} → Pair n text key value rest → (front : List (Datum × Datum)) → has_key key front ≡ false → 0 < MAX_MAP - length front → pair_at (term_at n) front text ≡ Ok (insert_entry datum_cmp front key value, rest)
  pair_again (arrow {n} {text} {t} {u} {v} {rest} {key} {value} s g k w) front fresh room =
      pair_form n front text rest key value fresh ((spelled_again s).term (MAX_MAP - length front) room) g k (spelled_first w) ((spelled_again w).term 1 (lit< tt))

pub spelled_again_term : {n : ℕ} {text rest : List ℕ} {d : Datum} → Spelled n text d rest → (room : ℕ) → 0 < room → term_at n room text ≡ Ok (d, rest)
spelled_again_term s = (spelled_again s).term

pub spelled_again_tail : {n : ℕ} {text rest : List ℕ} {d : Datum} → Spelled n text d rest → (front : List Datum) → cell_count (cells front d) ≤ MAX_LIST → tail_at n front text ≡ Ok (cells front d, rest)
spelled_again_tail s = (spelled_again s).tail
