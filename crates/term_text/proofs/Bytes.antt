-- The bytes of canonical texts.
use Rattle.std.proofs.Common.{◌≡◌, ℕ, suc, ◌+◌, ◌/◌, ◌%◌, ◌^◌, ◌≤◌, ◌<◌, Bool, true, false, List, [], ◌∷◌, ◌++◌, length, get_or, drop, max, ℤ, pos, negsuc, Option, Some, None, refl, sym, ap, ◌∙◌, arith, append_assoc, decimal}
use Rattle.std.specs.Prelude.{◌&&◌, FitsSigned}
use Rattle.std.specs.Int.{w64}
use Rattle.std.specs.Fmt.{signed_decimal}
use Rattle.std.specs.Str.{encode_utf8_all}
use Rattle.std.proofs.Math.Utf8.{encode}
use Rattle.std.proofs.lemmas.Int.{ints}
use Rattle.std.proofs.lemmas.Fmt.{IsAscii-decimal, decimal_digit, decimal_step}
use Rattle.std.proofs.lemmas.Str.{encodes-append, encodes-IsAscii}
use Rattle.term_core.specs.Datum.{Datum, Items, Entries, items_of, entries_of, cells}
use Rattle.term_core.specs.Datum.Datum.{integer, atom, tuple, map, nil, cons, binary}
use Rattle.std.proofs.lemmas.List.{append-nil, drop_more, drop_all}
use Rattle.term_core.specs.Limits.{depth, tail_depth, items_depth, entries_depth}
use Rattle.term_core.specs.TermFalls.{depth-cells}
use Rattle.term_core.proofs.RowLemmas.{depth-element, depth-entry}
use Rattle.term_core.specs.Term.{IsTail, tail_of}
use Rattle.term_core.specs.View.{shown, IsSplit}
use Rattle.term_core.specs.declared.view.View.{View}
use Rattle.term_core.specs.declared.view.View.TheVariants as view
use Rattle.std.proofs.lemmas.Bool.{and_parts}
use Rattle.term_text.specs.Character.{single_quote, double_quote, equals, comma, bar, greater, less, number_sign, open_brace, close_brace, open_bracket, close_bracket}
use Rattle.term_text.specs.declared.write.Form.{Form}
use Rattle.term_text.specs.Canonical.{text_as, binary_text, atom_text, items_text, more_items_text, entries_text, more_entries_text, tail_text, quoted_character, quoted_characters, quoted_text, bytes_text, segments_text, more_bytes, shows_strings, is_character, is_string, code_of, codes_of}

pub decimal_bytes : (n : ℕ) → n < 2 ^ 64 → encode_utf8_all (decimal n) ≡ decimal n
decimal_bytes n h = encodes-IsAscii (decimal n) (IsAscii-decimal n h)

pub integer_bytes : (f : Form) → (z : ℤ) → FitsSigned w64 z → encode_utf8_all (text_as f (integer z)) ≡ signed_decimal z
unfolding text_as encode
integer_bytes f (pos n) h = decimal_bytes n (omega (arith, ints))
integer_bytes f (negsuc n) h = ap (λ (t : List ℕ). 45 ∷ t) (decimal_bytes (suc n) (omega (arith, ints)))

pub quoted_bytes : (cs : List ℕ) → encode_utf8_all (quoted_text single_quote cs) ≡ single_quote ∷ (encode_utf8_all (quoted_characters single_quote cs) ++ single_quote ∷ [])
unfolding encode
quoted_bytes cs = ap (λ (t : List ℕ). single_quote ∷ t) (encodes-append (quoted_characters single_quote cs) (single_quote ∷ []))

pub shown_bytes : (cs : List ℕ) → encode_utf8_all (quoted_text double_quote cs) ≡ double_quote ∷ (encode_utf8_all (quoted_characters double_quote cs) ++ double_quote ∷ [])
unfolding encode
shown_bytes cs = ap (λ (t : List ℕ). double_quote ∷ t) (encodes-append (quoted_characters double_quote cs) (double_quote ∷ []))

pub tuple_bytes : (f : Form) → (ds : Items) → encode_utf8_all (text_as f (tuple ds)) ≡ open_brace ∷ (encode_utf8_all (items_text f ds) ++ close_brace ∷ [])
unfolding text_as encode
tuple_bytes f ds = ap (λ (t : List ℕ). open_brace ∷ t) (encodes-append (items_text f ds) (close_brace ∷ []))

pub map_bytes : (f : Form) → (es : Entries) → encode_utf8_all (text_as f (map es)) ≡ number_sign ∷ open_brace ∷ (encode_utf8_all (entries_text f es) ++ close_brace ∷ [])
unfolding text_as encode
map_bytes f es = ap (λ (t : List ℕ). number_sign ∷ open_brace ∷ t) (encodes-append (entries_text f es) (close_brace ∷ []))

pub nil_bytes : (f : Form) → encode_utf8_all (text_as f nil) ≡ open_bracket ∷ close_bracket ∷ []
unfolding text_as encode
nil_bytes f = refl

more_ascii : (bs : List ℕ) → ((i : ℕ) → get_or bs i 0 < 2 ^ 8) → encode_utf8_all (more_bytes bs) ≡ more_bytes bs
unfolding encode
more_ascii [] h = refl
more_ascii (b ∷ bs) h = ap (λ (t : List ℕ). comma ∷ t) (encodes-append (decimal b) (more_bytes bs) ∙ rw (decimal_bytes b (let l = h 0 in omega arith), more_ascii bs (λ i. h (suc i))) refl)

pub bytes_ascii : (bs : List ℕ) → ((i : ℕ) → get_or bs i 0 < 2 ^ 8) → encode_utf8_all (bytes_text bs) ≡ bytes_text bs
bytes_ascii [] h = refl
bytes_ascii (b ∷ bs) h = encodes-append (decimal b) (more_bytes bs) ∙ rw (decimal_bytes b (let l = h 0 in omega arith), more_ascii bs (λ i. h (suc i))) refl

pub binary_bytes : (f : Form) (bs : List ℕ) → encode_utf8_all (binary_text f bs) ≡ less ∷ less ∷ (encode_utf8_all (segments_text f bs) ++ greater ∷ greater ∷ [])
unfolding encode
binary_bytes f bs = ap (λ (t : List ℕ). less ∷ less ∷ t) (encodes-append (segments_text f bs) (greater ∷ greater ∷ []))

pub binary_is : (f : Form) (bs : List ℕ) → text_as f (binary bs) ≡ binary_text f bs
unfolding text_as
binary_is f bs = refl

-- ---- lists

-- the bytes of a list's tail after a bar, none if there is no tail
abbrev pub tail_bytes : (f : Form) → Option Datum → List ℕ
tail_bytes f None = []
tail_bytes f (Some d) = bar ∷ encode_utf8_all (text_as f d)

ends : (f : Form) → (t : Option Datum) → IsTail t → encode_utf8_all (tail_text f (tail_of t)) ≡ tail_bytes f t ++ close_bracket ∷ []
unfolding text_as encode
ends f None h = refl
ends f (Some (integer z)) h = ap (λ (t : List ℕ). bar ∷ t) (encodes-append (signed_decimal z) (close_bracket ∷ []))
ends f (Some (atom cs)) h = ap (λ (t : List ℕ). bar ∷ t) (encodes-append (text_as f (atom cs)) (close_bracket ∷ []))
ends f (Some (tuple ds)) h = ap (λ (t : List ℕ). bar ∷ t) (encodes-append (text_as f (tuple ds)) (close_bracket ∷ []))
ends f (Some (map es)) h = ap (λ (t : List ℕ). bar ∷ t) (encodes-append (text_as f (map es)) (close_bracket ∷ []))
ends f (Some nil) h = absurd h
ends f (Some (cons head tail)) h = absurd h
ends f (Some (binary bs)) h = ap (λ (t : List ℕ). bar ∷ t) (encodes-append (text_as f (binary bs)) (close_bracket ∷ []))

tail_text-cells : (f : Form) → (ds : List Datum) (t : Datum) → tail_text f (cells ds t) ≡ more_items_text f (items_of ds) ++ tail_text f t
unfolding text_as
tail_text-cells f [] t = refl
tail_text-cells f (d ∷ ds) t = ap (λ (x : List ℕ). comma ∷ x) (ap (λ (x : List ℕ). text_as f d ++ x) (tail_text-cells f ds t) ∙ sym (append_assoc (text_as f d) (more_items_text f (items_of ds)) (tail_text f t)))

-- a list that isn't written as a string
abbrev pub IsPlain : Form → List Datum → Datum → Type 0
IsPlain f ds t = shows_strings f && is_string (cells ds t) ≡ false

and_false : (a b : Bool) → b ≡ false → a && b ≡ false
and_false true b h = h
and_false false b h = refl

list_text : (f : Form) → (ds : List Datum) (t : Datum) → 0 < length ds → IsPlain f ds t → text_as f (cells ds t) ≡ open_bracket ∷ (items_text f (items_of ds) ++ tail_text f t)
unfolding text_as
list_text f [] t h p = absurd (omega arith)
list_text f (d ∷ ds) t h p = rw p (ap (λ (x : List ℕ). open_bracket ∷ x) (ap (λ (x : List ℕ). text_as f d ++ x) (tail_text-cells f ds t) ∙ sym (append_assoc (text_as f d) (more_items_text f (items_of ds)) (tail_text f t))))

pub list_bytes : (f : Form) → (ds : List Datum) (t : Option Datum) → 0 < length ds → IsTail t → IsPlain f ds (tail_of t) → encode_utf8_all (text_as f (cells ds (tail_of t))) ≡ open_bracket ∷ (encode_utf8_all (items_text f (items_of ds)) ++ (tail_bytes f t ++ close_bracket ∷ []))
unfolding encode
list_bytes f ds t h k p = ap encode_utf8_all (list_text f ds (tail_of t) h p) ∙ ap (λ (x : List ℕ). open_bracket ∷ x) (encodes-append (items_text f (items_of ds)) (tail_text f (tail_of t)) ∙ rw (ends f t k) refl)

pub string_text : (f : Form) (ds : List Datum) (t : Datum) → 0 < length ds → shows_strings f ≡ true → is_string (cells ds t) ≡ true → text_as f (cells ds t) ≡ quoted_text double_quote (codes_of (cells ds t))
unfolding text_as
string_text f [] t h s p = absurd (omega arith)
string_text f (d ∷ ds) t h s p = rw (s, p) refl

-- a list with a tail of its own is not a string
pub no_string : (ds : List Datum) (t : Datum) → IsTail (Some t) → is_string (cells ds t) ≡ false
no_string [] (integer z) h = refl
no_string [] (atom cs) h = refl
no_string [] (tuple ds) h = refl
no_string [] (map es) h = refl
no_string [] nil h = absurd h
no_string [] (cons head tail) h = absurd h
no_string [] (binary bs) h = refl
no_string (d ∷ ds) t h = and_false (is_character d) (is_string (cells ds t)) (no_string ds t h)

-- ---- rows

pub more_items_bytes : (f : Form) → (d : Datum) (ds : List Datum) → encode_utf8_all (more_items_text f (items_of (d ∷ ds))) ≡ comma ∷ (encode_utf8_all (text_as f d) ++ encode_utf8_all (more_items_text f (items_of ds)))
unfolding text_as encode
more_items_bytes f d ds = ap (λ (x : List ℕ). comma ∷ x) (encodes-append (text_as f d) (more_items_text f (items_of ds)))

pub no_more_items : (f : Form) → encode_utf8_all (more_items_text f (items_of [])) ≡ []
unfolding text_as
no_more_items f = refl

pub no_items_bytes : (f : Form) → encode_utf8_all (items_text f (items_of [])) ≡ []
unfolding text_as
no_items_bytes f = refl

pub items_bytes : (f : Form) → (d : Datum) (ds : List Datum) → encode_utf8_all (items_text f (items_of (d ∷ ds))) ≡ encode_utf8_all (text_as f d) ++ encode_utf8_all (more_items_text f (items_of ds))
unfolding text_as
items_bytes f d ds = encodes-append (text_as f d) (more_items_text f (items_of ds))

pub atom_is : (f : Form) → (cs : List ℕ) → text_as f (atom cs) ≡ atom_text cs
unfolding text_as
atom_is f cs = refl

-- ---- pairs

pub pair_bytes : (f : Form) → (k v : Datum) → encode_utf8_all (text_as f k ++ (equals ∷ greater ∷ text_as f v)) ≡ encode_utf8_all (text_as f k) ++ (equals ∷ greater ∷ encode_utf8_all (text_as f v))
unfolding encode
pair_bytes f k v = encodes-append (text_as f k) (equals ∷ greater ∷ text_as f v)

pub more_pairs_bytes : (f : Form) → (k v : Datum) (es : List (Datum × Datum)) → encode_utf8_all (more_entries_text f (entries_of ((k, v) ∷ es))) ≡ comma ∷ (encode_utf8_all (text_as f k ++ (equals ∷ greater ∷ text_as f v)) ++ encode_utf8_all (more_entries_text f (entries_of es)))
unfolding text_as encode
more_pairs_bytes f k v es = ap (λ (x : List ℕ). comma ∷ x) (encodes-append (text_as f k ++ (equals ∷ greater ∷ text_as f v)) (more_entries_text f (entries_of es)))

pub no_more_pairs : (f : Form) → encode_utf8_all (more_entries_text f (entries_of [])) ≡ []
unfolding text_as
no_more_pairs f = refl

pub no_pairs_bytes : (f : Form) → encode_utf8_all (entries_text f (entries_of [])) ≡ []
unfolding text_as
no_pairs_bytes f = refl

pub pairs_bytes : (f : Form) → (k v : Datum) (es : List (Datum × Datum)) → encode_utf8_all (entries_text f (entries_of ((k, v) ∷ es))) ≡ encode_utf8_all (text_as f k ++ (equals ∷ greater ∷ text_as f v)) ++ encode_utf8_all (more_entries_text f (entries_of es))
unfolding text_as
pairs_bytes f k v es = encodes-append (text_as f k ++ (equals ∷ greater ∷ text_as f v)) (more_entries_text f (entries_of es))

-- ---- joining what was appended

pub three : (old a b c n1 n2 n3 : List ℕ) → n1 ≡ old ++ a → n2 ≡ n1 ++ b → n3 ≡ n2 ++ c → n3 ≡ old ++ (a ++ (b ++ c))
three old a b c n1 n2 n3 e f g = g ∙ ap (λ (t : List ℕ). t ++ c) (f ∙ ap (λ (t : List ℕ). t ++ b) e) ∙ append_assoc (old ++ a) b c ∙ append_assoc old a (b ++ c)

pub four : (old a b c d n1 n2 n3 n4 : List ℕ) → n1 ≡ old ++ a → n2 ≡ n1 ++ b → n3 ≡ n2 ++ c → n4 ≡ n3 ++ d → n4 ≡ old ++ (a ++ (b ++ (c ++ d)))
four old a b c d n1 n2 n3 n4 e f g h = h ∙ ap (λ (t : List ℕ). t ++ d) (three old a b c n1 n2 n3 e f g) ∙ append_assoc old (a ++ (b ++ c)) d ∙ ap (λ (t : List ℕ). old ++ t) (append_assoc a (b ++ c) d ∙ ap (λ (t : List ℕ). a ++ t) (append_assoc b c d))

pub onto : (old a rest n1 : List ℕ) → n1 ≡ old ++ a → n1 ++ rest ≡ old ++ (a ++ rest)
onto old a rest n1 e = ap (λ (t : List ℕ). t ++ rest) e ∙ append_assoc old a rest

pub two_onto : (old a b rest n1 n2 : List ℕ) → n1 ≡ old ++ a → n2 ≡ n1 ++ b → n2 ++ rest ≡ old ++ (a ++ (b ++ rest))
two_onto old a b rest n1 n2 e f = onto n1 b rest n2 f ∙ onto old a (b ++ rest) n1 e

pub element_depth : (xs : List Datum) (i : ℕ) (x : Datum) → i < length xs → x ≡ get_or xs i x → depth x ≤ items_depth (items_of xs)
element_depth xs i x h e = depth-element xs i x h e

pub entry_depth : (xs : List (Datum × Datum)) (i : ℕ) (x : Datum × Datum) → i < length xs → x ≡ get_or xs i x → max (depth x.0) (depth x.1) ≤ entries_depth (entries_of xs)
entry_depth xs i x h e = depth-entry xs i x h e

pub list_depth : (ds : List Datum) (t : Datum) → 0 < length ds → depth (cells ds t) ≡ suc (max (items_depth (items_of ds)) (tail_depth t))
list_depth ds t h = depth-cells ds t h

pub no_elements : (f : Form) → (ds : List Datum) → length ds ≡ 0 → encode_utf8_all (items_text f (items_of ds)) ≡ []
no_elements f [] h = no_items_bytes f
no_elements f (d ∷ ds) h = absurd (omega arith)

pub no_pairs : (f : Form) → (es : List (Datum × Datum)) → length es ≡ 0 → encode_utf8_all (entries_text f (entries_of es)) ≡ []
no_pairs f [] h = no_pairs_bytes f
no_pairs f (e ∷ es) h = absurd (omega arith)

pub one_element : (f : Form) → (ds : List Datum) (d : Datum) (rest : List Datum) → ds ≡ d ∷ rest → encode_utf8_all (items_text f (items_of ds)) ≡ encode_utf8_all (text_as f d) ++ encode_utf8_all (more_items_text f (items_of rest))
one_element f ds d rest e = ap (λ (t : List Datum). encode_utf8_all (items_text f (items_of t))) e ∙ items_bytes f d rest

pub one_pair : (f : Form) → (es : List (Datum × Datum)) (e : Datum × Datum) (rest : List (Datum × Datum)) → es ≡ e ∷ rest → encode_utf8_all (entries_text f (entries_of es)) ≡ encode_utf8_all (text_as f e.0 ++ (equals ∷ greater ∷ text_as f e.1)) ++ encode_utf8_all (more_entries_text f (entries_of rest))
one_pair f es e rest h = ap (λ (t : List (Datum × Datum)). encode_utf8_all (entries_text f (entries_of t))) h ∙ pairs_bytes f e.0 e.1 rest

pub next_element : (f : Form) → (ds : List Datum) (i : ℕ) (d : Datum) → i < length ds → d ≡ get_or ds i d → encode_utf8_all (more_items_text f (items_of (drop i ds))) ≡ comma ∷ (encode_utf8_all (text_as f d) ++ encode_utf8_all (more_items_text f (items_of (drop (i + 1) ds))))
next_element f ds i d h e = ap (λ (t : List Datum). encode_utf8_all (more_items_text f (items_of t))) (drop_more ds i d h ∙ ap (λ (x : Datum). x ∷ drop (i + 1) ds) (sym e)) ∙ more_items_bytes f d (drop (i + 1) ds)

pub next_pair : (f : Form) → (es : List (Datum × Datum)) (i : ℕ) (e : Datum × Datum) → i < length es → e ≡ get_or es i e → encode_utf8_all (more_entries_text f (entries_of (drop i es))) ≡ comma ∷ (encode_utf8_all (text_as f e.0 ++ (equals ∷ greater ∷ text_as f e.1)) ++ encode_utf8_all (more_entries_text f (entries_of (drop (i + 1) es))))
next_pair f es i e h k = ap (λ (t : List (Datum × Datum)). encode_utf8_all (more_entries_text f (entries_of t))) (drop_more es i e h ∙ ap (λ (x : Datum × Datum). x ∷ drop (i + 1) es) (sym k)) ∙ more_pairs_bytes f e.0 e.1 (drop (i + 1) es)

pub past_elements : (f : Form) → (ds : List Datum) (i : ℕ) → length ds ≤ i → encode_utf8_all (more_items_text f (items_of (drop i ds))) ≡ []
past_elements f ds i h = ap (λ (t : List Datum). encode_utf8_all (more_items_text f (items_of t))) (drop_all i ds h) ∙ no_more_items f

pub past_pairs : (f : Form) → (es : List (Datum × Datum)) (i : ℕ) → length es ≤ i → encode_utf8_all (more_entries_text f (entries_of (drop i es))) ≡ []
past_pairs f es i h = ap (λ (t : List (Datum × Datum)). encode_utf8_all (more_entries_text f (entries_of t))) (drop_all i es h) ∙ no_more_pairs f

-- ---- strings

no_cells : (ds : List Datum) (t : Datum) → 0 < length ds → is_character (cells ds t) ≡ false
no_cells [] t h = absurd (omega arith)
no_cells (d ∷ ds) t h = refl

-- a term that is not an integer is not a character
no_character_shown : {A : Type 0} (v : View A) → IsSplit v → ((z : ℤ) → v ≡ view.Integer z → ⊥) → is_character (shown v) ≡ false
no_character_shown (view.Integer z) split other = absurd (other z refl)
no_character_shown (view.Atom cs) split other = refl
no_character_shown (view.Tuple ds) split other = refl
no_character_shown view.Nil split other = refl
no_character_shown (view.List ds tail) split other = no_cells ds.now _ split.0
no_character_shown (view.Map es) split other = refl
no_character_shown (view.Binary bs) split other = refl

pub no_character : {A : Type 0} (v : View A) (d : Datum) → shown v ≡ d → IsSplit v → ((z : ℤ) → v ≡ view.Integer z → ⊥) → is_character d ≡ false
no_character v d e split other = ap is_character (sym e) ∙ no_character_shown v split other

-- a list that is a string has no tail
pub string_ends : (ds : List Datum) (t : Option Datum) → IsTail t → is_string (cells ds (tail_of t)) ≡ true → is_string (cells ds nil) ≡ true
string_ends ds None h e = e
string_ends ds (Some t) h e = let f : is_string (cells ds t) ≡ false = no_string ds t h in absurd cc

pub string_bytes : (f : Form) (ds : List Datum) (t : Option Datum) → 0 < length ds → IsTail t → shows_strings f && is_string (cells ds (tail_of t)) ≡ true → text_as f (cells ds (tail_of t)) ≡ quoted_text double_quote (codes_of (cells ds nil))
string_bytes f ds None h k e = let p = and_parts (shows_strings f) (is_string (cells ds nil)) e in string_text f ds nil h p.0 p.1
string_bytes f ds (Some t) h k e =
    let p = and_parts (shows_strings f) (is_string (cells ds t)) e in
    let no : is_string (cells ds t) ≡ false = no_string ds t k in
    absurd cc

-- an element of a string is a character, written before those of the others
pub next_code : (ds : List Datum) (i : ℕ) (d : Datum) → i < length ds → d ≡ get_or ds i d → is_string (cells (drop i ds) nil) ≡ true → (is_character d ≡ true) × (is_string (cells (drop (i + 1) ds) nil) ≡ true) × (encode_utf8_all (quoted_characters double_quote (codes_of (cells (drop i ds) nil))) ≡ encode_utf8_all (quoted_character double_quote (code_of d)) ++ encode_utf8_all (quoted_characters double_quote (codes_of (cells (drop (i + 1) ds) nil))))
next_code ds i d h e s =
    let split : drop i ds ≡ d ∷ drop (i + 1) ds = drop_more ds i d h ∙ ap (λ (x : Datum). x ∷ drop (i + 1) ds) (sym e) in
    let p = and_parts (is_character d) (is_string (cells (drop (i + 1) ds) nil)) (sym (ap (λ (t : List Datum). is_string (cells t nil)) split) ∙ s) in
    (p.0, p.1, ap (λ (t : List Datum). encode_utf8_all (quoted_characters double_quote (codes_of (cells t nil)))) split ∙ encodes-append (quoted_character double_quote (code_of d)) (quoted_characters double_quote (codes_of (cells (drop (i + 1) ds) nil))))

pub past_codes : (ds : List Datum) (i : ℕ) → length ds ≤ i → encode_utf8_all (quoted_characters double_quote (codes_of (cells (drop i ds) nil))) ≡ []
past_codes ds i h = ap (λ (t : List Datum). encode_utf8_all (quoted_characters double_quote (codes_of (cells t nil)))) (drop_all i ds h)

pub past_shown : (bs : List ℕ) (i : ℕ) → length bs ≤ i → encode_utf8_all (quoted_characters double_quote (drop i bs)) ≡ []
past_shown bs i h = ap (λ (t : List ℕ). encode_utf8_all (quoted_characters double_quote t)) (drop_all i bs h)

-- the text after the closing mark is appended
pub marked : (old cs rest out n : List ℕ) → out ++ rest ≡ old ++ (double_quote ∷ encode_utf8_all (quoted_characters double_quote cs)) → rest ≡ [] → n ≡ out ++ double_quote ∷ [] → n ≡ old ++ encode_utf8_all (quoted_text double_quote cs)
marked old cs rest out n e r f =
    f ∙ ap (λ (t : List ℕ). t ++ double_quote ∷ []) (sym (append-nil out) ∙ ap (λ (t : List ℕ). out ++ t) (sym r) ∙ e)
    ∙ append_assoc old (double_quote ∷ encode_utf8_all (quoted_characters double_quote cs)) (double_quote ∷ [])
    ∙ ap (λ (t : List ℕ). old ++ t) (sym (shown_bytes cs))

pub no_string_in : (f : Form) (ds : List Datum) (t : Datum) → IsTail (Some t) → false ≡ shows_strings f && is_string (cells ds t)
no_string_in f ds t h = sym (and_false (shows_strings f) (is_string (cells ds t)) (no_string ds t h))

-- ---- decimal numbers below 256

pub one_digit : (n : ℕ) → n < 10 → decimal n ≡ (48 + n) ∷ []
one_digit n h = decimal_digit n h

pub digits_more : (old mid new : List ℕ) (n : ℕ) → 10 ≤ n → n < 256 → mid ≡ old ++ decimal (n / 10) → new ≡ mid ++ (48 + n % 10) ∷ [] → new ≡ old ++ decimal n
digits_more old mid new n l h first last = last ∙ rw (first, decimal_step n l (omega arith)) (append_assoc old (decimal (n / 10)) ((48 + n % 10) ∷ []))

pub two_digits : (old mid new : List ℕ) (n : ℕ) → 10 ≤ n → n < 100 → mid ≡ old ++ (48 + n / 10) ∷ [] → new ≡ mid ++ (48 + n % 10) ∷ [] → new ≡ old ++ decimal n
two_digits old mid new n l h first last = digits_more old mid new n l (omega arith) (first ∙ rw (decimal_digit (n / 10) (omega arith)) refl) last
