-- Bare words, by the bytes of a text.
use Rattle.std.proofs.Common.{◌≡◌, ◌≢◌, ◌==◌, ℕ, zero, suc, ◌+◌, ◌≤◌, ◌<◌, inl, inr, Bool, true, false, List, [], ◌∷◌, ◌++◌, length, take, drop, get_or, Some, None, Ok, Err, refl, sym, ap, ◌∙◌, subst, arith}
use Rattle.std.specs.Prelude.{◌&&◌, nat_lt}
use Rattle.std.specs.List.{prefix_len, list_any, slice_get}
use Rattle.std.specs.Char.{is_ascii_lowercase}
use Rattle.std.specs.Str.{IsUtf8, IsAscii, IsCharBoundary, chars, encode_utf8_all, bytes_eq}
use Rattle.std.proofs.lemmas.Bool.{and_parts, cases_Bool, cases_lt, lt-ltb, ne_eqb}
use Rattle.std.proofs.lemmas.List.{take-append-drop, drop_at, length-take-le}
use Rattle.std.proofs.lemmas.List.Folds.{length-prefix_len}
use Rattle.std.proofs.lemmas.List.Sums.{prefix_len_passes, prefix_len-le-length}
use Rattle.std.proofs.lemmas.Slice.Eq.{bytes_eq-Decides}
use Rattle.std.proofs.lemmas.Str.{chars-nil, chars_past_char, chars-append, chars-IsAscii, encode_ascii, encodes-chars, IsCharBoundary-start, IsCharBoundary-after_ascii, IsUtf8-take, IsUtf8-drop}
use Rattle.term_core.proofs.TextEq.{ascii_eq, ascii_alike, ascii-nil, ascii-cons}
use Rattle.term_text.specs.Character.{is_word}
use Rattle.term_text.specs.Canonical.{reserved, is_reserved, begins_reserved, are_word, has_bare_form}
use Rattle.term_text.specs.declared.stop.Cause.TheVariants.{TooLong}
use Rattle.term_text.specs.Tokens.{EndsRun, Run}
use Rattle.term_text.specs.TokenReading.{word_at}
use Rattle.term_text.proofs.CharacterLemmas.{wide_first, no_word}
use Rattle.term_text.proofs.Words.{run_holds, run_len, word_again}

word_small : (c : ℕ) → is_word c ≡ true → c < 128
word_small c h = grind arith

-- ---- the bytes at the front of a text that pass a test, which only ASCII passes

module _ (p : ℕ → Bool) (small : (c : ℕ) → p c ≡ true → c < 128) where
  ascii_front : (bs : List ℕ) (n : ℕ) → n ≤ prefix_len p bs → IsAscii (take n bs)
  ascii_front bs zero h = ascii-nil
  ascii_front [] (suc n) h = absurd (omega arith)
  ascii_front (b ∷ bs) (suc n) h = elim (cases_Bool (p b)) [
    | inl w ↦ let left = rw w at h in ascii-cons b (take n bs) (small b w) (ascii_front bs n (omega arith))
    | inr o ↦ absurd (let none = rw o at h in omega arith)
  ]

  -- a text may be cut between the characters of such a run, and after it
  pub cut_front : (text : List ℕ) (m n : ℕ) → IsUtf8 text → m ≡ prefix_len p text → n ≤ m → IsCharBoundary text n
  cut_front text m zero u e le = IsCharBoundary-start text u
  cut_front text m (suc i) u e le =
      let inside : i < prefix_len p text = omega arith in
      let there : i < length text = let most = prefix_len-le-length p text in omega arith in
      let low = small (get_or text i 0) (prefix_len_passes p text i 0 inside) in
      let next : i + 1 ≡ suc i = omega arith in
      subst (λ (k : ℕ). IsCharBoundary text k) next (IsCharBoundary-after_ascii text i u there low)

  pub own_front : (text : List ℕ) (n : ℕ) → n ≤ prefix_len p text → chars (take n text) ≡ take n text
  own_front text n le = chars-IsAscii (take n text) (ascii_front text n le)

  pub front_spelled : (text : List ℕ) (n : ℕ) → IsUtf8 text → n ≤ prefix_len p text → chars text ≡ take n text ++ chars (drop n text)
  front_spelled text n u le =
      ap chars (sym (take-append-drop n text)) ∙ chars-append (take n text) (drop n text) (IsUtf8-take text n u (cut_front text (prefix_len p text) n u refl le)) ∙ ap (λ (t : List ℕ). t ++ chars (drop n text)) (own_front text n le)

pub cut_word : (text : List ℕ) (m n : ℕ) → IsUtf8 text → m ≡ prefix_len is_word text → n ≤ m → IsCharBoundary text n
cut_word = cut_front is_word word_small

ends_spelled : (text : List ℕ) → IsUtf8 text → EndsRun is_word text → EndsRun is_word (chars text)
ends_spelled [] u ended = rw chars-nil tt
ends_spelled (b ∷ bs) u ended = elim (cases_lt b 128) [
  | inl small ↦ rw (chars_past_char (b ∷ bs) bs b u (rw (encode_ascii b small) refl)) ended
  | inr wide ↦ no_word (chars (b ∷ bs)) (wide_first (b ∷ bs) (chars (b ∷ bs)) (encodes-chars (b ∷ bs) u) wide)
]

word_ended : (text : List ℕ) → IsUtf8 text → EndsRun is_word (chars (drop (prefix_len is_word text) text))
word_ended text u =
    let n : ℕ = prefix_len is_word text in
    ends_spelled (drop n text) (IsUtf8-drop text n u (cut_word text n n u refl (omega arith))) (run_holds is_word text).ended

word_here : (text : List ℕ) → IsUtf8 text → prefix_len is_word text ≤ 255 → word_at (chars text) ≡ Ok (chars (take (prefix_len is_word text) text), chars (drop (prefix_len is_word text) text))
word_here text u few =
    let n : ℕ = prefix_len is_word text in
    let all : length (take n text) ≡ n = length-prefix_len is_word text in
    let run : Run is_word (chars text) (take n text) (chars (drop n text)) = record { whole = front_spelled is_word word_small text n u (omega arith); each = (run_holds is_word text).each; ended = word_ended text u } in
    rw (own_front is_word word_small text n (omega arith)) (word_again run (omega arith))

pub word_is : (text : List ℕ) (n : ℕ) → IsUtf8 text → n ≡ prefix_len is_word text → n ≤ 255 → word_at (chars text) ≡ Ok (chars (take n text), chars (drop n text))
word_is text n u e few = rw e (word_here text u (omega arith))

pub word_is_long : (text : List ℕ) (n : ℕ) → IsUtf8 text → n ≡ prefix_len is_word text → 255 < n → word_at (chars text) ≡ Err (TooLong, length (chars (drop 255 text)))
unfolding word_at
word_is_long text n u e long =
    let k : ℕ = prefix_len is_word text in
    let all : length (take k text) ≡ k = length-prefix_len is_word text in
    let count : prefix_len is_word (chars text) ≡ k =
    ap (prefix_len is_word) (front_spelled is_word word_small text k u (omega arith)) ∙ run_len is_word (take k text) (chars (drop k text)) (run_holds is_word text).each (word_ended text u) ∙ all in
    let over : nat_lt 255 (prefix_len is_word (chars text)) ≡ true = lt-ltb 255 (prefix_len is_word (chars text)) (omega arith) in
    let most = prefix_len-le-length is_word text in
    let some : length (take 255 text) ≡ 255 = length-take-le 255 text (omega arith) in
    let left : drop 255 (chars text) ≡ chars (drop 255 text) =
    ap (drop 255) (front_spelled is_word word_small text 255 u (omega arith)) ∙ drop_at (take 255 text) (chars (drop 255 text)) 255 some in
    rw (over, left) refl

-- ---- bare atoms

words_ascii : (bs : List ℕ) → are_word bs ≡ true → IsAscii bs
words_ascii [] h = ascii-nil
words_ascii (b ∷ bs) h = let parts = and_parts (is_word b) (are_word bs) h in ascii-cons b bs (word_small b parts.0) (words_ascii bs parts.1)

bare_ascii : (bs : List ℕ) → has_bare_form bs ≡ true → IsAscii bs
bare_ascii [] h = absurd cc
bare_ascii (b ∷ bs) h =
    let parts = and_parts (is_ascii_lowercase b) (are_word bs) h in
    let first : is_ascii_lowercase b ≡ true = parts.0 in
    let small : b < 128 = grind arith in
    ascii-cons b bs small (words_ascii bs parts.1)

-- the bytes of a text have the form of a bare word exactly if its characters have
pub same_form : (text : List ℕ) → IsUtf8 text → has_bare_form text ≡ has_bare_form (chars text)
same_form text u = ascii_alike has_bare_form bare_ascii text u

abbrev are_plain : List (List ℕ) → Bool
are_plain [] = true
are_plain (w ∷ ws) = bytes_eq (encode_utf8_all w) w && are_plain ws

reserved_plain : are_plain reserved ≡ true
unfolding lib.Utf8.encode
reserved_plain = refl

among_alike : (text : List ℕ) (ws : List (List ℕ)) → IsUtf8 text → are_plain ws ≡ true → list_any (bytes_eq text) ws ≡ list_any (bytes_eq (chars text)) ws
among_alike text [] u plain = refl
among_alike text (w ∷ ws) u plain =
    let parts = and_parts (bytes_eq (encode_utf8_all w) w) (are_plain ws) plain in
    rw (ascii_eq text w u ((bytes_eq-Decides (encode_utf8_all w) w).0 parts.0), among_alike text ws u parts.1) refl

-- a text is a reserved word exactly if its characters are
pub same_reserved : (text : List ℕ) → IsUtf8 text → list_any (bytes_eq text) reserved ≡ is_reserved (chars text)
unfolding is_reserved
same_reserved text u = among_alike text reserved u reserved_plain

-- a text that begins with this byte is among these words exactly if it is reserved
pub reserved_by : (text : List ℕ) (b k : ℕ) (ws : List (List ℕ)) → IsUtf8 text → Some b ≡ slice_get text 0 → b ≡ k → ((rest : List ℕ) → list_any (bytes_eq (k ∷ rest)) ws ≡ list_any (bytes_eq (k ∷ rest)) reserved) → list_any (bytes_eq text) ws ≡ is_reserved (chars text)
reserved_by [] b k ws u first is same = absurd cc
reserved_by (c ∷ cs) b k ws u first is same =
    let head : b ≡ c = cc in
    let all : list_any (bytes_eq (c ∷ cs)) ws ≡ list_any (bytes_eq (c ∷ cs)) reserved = rw (sym head ∙ is) (same cs) in
    all ∙ same_reserved (c ∷ cs) u

-- a letter with which no reserved word begins
other_letter : (b k : ℕ) → begins_reserved b ≡ false → begins_reserved k ≡ true → b ≢ k
other_letter b k h h' e = let no : true ≡ false = sym h' ∙ sym (ap begins_reserved e) ∙ h in cc

none_begins : (b : ℕ) (cs : List ℕ) → begins_reserved b ≡ false → list_any (bytes_eq (b ∷ cs)) reserved ≡ false
none_begins b cs h =
    let o : (k : ℕ) → begins_reserved k ≡ true → (b == k) ≡ false = λ k t. ne_eqb b k (other_letter b k h t) in
    rw (o 97 refl, o 98 refl, o 99 refl, o 100 refl, o 101 refl, o 102 refl, o 105 refl, o 108 refl, o 109 refl, o 110 refl, o 111 refl, o 114 refl, o 116 refl, o 119 refl, o 120 refl) refl

-- a text that begins with a letter with which no reserved word begins
pub not_reserved : (text : List ℕ) (b : ℕ) → IsUtf8 text → Some b ≡ slice_get text 0 → begins_reserved b ≡ false → false ≡ is_reserved (chars text)
not_reserved [] b u first h = absurd cc
not_reserved (c ∷ cs) b u first h =
    let head : b ≡ c = cc in
    sym (none_begins c cs (rw head at h)) ∙ same_reserved (c ∷ cs) u

pub no_word_reserved : (text bytes : List ℕ) → bytes ≡ text → None ≡ slice_get bytes 0 → false ≡ is_reserved (chars text)
unfolding is_reserved
no_word_reserved [] bytes e none = rw chars-nil refl
no_word_reserved (b ∷ bs) bytes e none = absurd (let other = rw e at none in cc)
