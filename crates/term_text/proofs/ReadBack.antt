-- A canonical text with its dot and line feed is read back, and what follows is read as it would be alone.
use Rattle.std.proofs.Common.{◌≡◌, ℕ, suc, ◌^◌, ◌<◌, inl, inr, Bool, true, false, cond, List, [], ◌∷◌, ◌++◌, Ok, ℤ, pos, negsuc, refl, sym, ap, ◌∙◌, arith, append_assoc, decimal}
use Rattle.std.specs.Prelude.{◌==◌, ◌&&◌, FitsSigned}
use Rattle.std.specs.Int.{w64}
use Rattle.std.specs.Fmt.{signed_decimal}
use Rattle.std.specs.List.{AllByRecursion}
use Rattle.std.specs.Char.{is_ascii_digit}
use Rattle.std.proofs.Math.Utf8.{scalar, low_scalar, encode}
use Rattle.std.specs.Str.{IsUtf8, chars, encode_utf8_all, all_scalars}
use Rattle.std.proofs.lemmas.Bool.{and_parts, and_from, cases_Bool}
use Rattle.std.proofs.lemmas.Int.{ints}
use Rattle.std.proofs.lemmas.Str.{encodes-append, chars-append, chars-encodes, IsUtf8-append, IsUtf8-past_char}
use Rattle.term_core.specs.Datum.{Datum, Items, Entries}
use Rattle.term_core.specs.Datum.Datum.{integer, atom, tuple, map, nil, cons, binary}
use Rattle.term_core.specs.Datum.Items.{no_items, item}
use Rattle.term_core.specs.Datum.Entries.{no_entries, entry}
use Rattle.term_core.specs.Limits.{IsTerm, AreScalars, AreBytes, IsSound, AreSound, ArePairsSound}
use Rattle.term_core.specs.declared.TheConstants.{MAX_DEPTH}
use Rattle.term_text.specs.Character.{dot, line_feed, backslash, single_quote, double_quote, equals, greater, close_brace, close_bracket}
use Rattle.term_text.specs.Text.{Sentences, Spells}
use Rattle.term_text.specs.Tokens.Gap.{no_gap, white}
use Rattle.term_text.specs.Text.Sentences.{none, sentence}
use Rattle.term_text.specs.declared.write.Form.{Form}
use Rattle.term_text.specs.Canonical.{text_as, items_text, more_items_text, entries_text, more_entries_text, tail_text, atom_text, is_bare, quoted_character, quoted_characters, quoted_text, bytes_text, more_bytes, IsReadBack}
use Rattle.term_text.specs.Canonical.{shows_strings, segments_text, binary_text, is_some, is_shown, are_shown, is_character, is_string, code_of, codes_of}
use Rattle.term_text.specs.TokenReading.{after_gap, all_steps}
use Rattle.term_text.specs.Reading.{sentence_step}
use Rattle.term_text.proofs.Steps.{goes_on}
use Rattle.term_text.proofs.Tokens.{gap_holds}
use Rattle.term_text.proofs.Whole.{spelled_first, gap_first}
use Rattle.term_text.proofs.Texts.{sentence_shrinks, sentence_again, step_again, sentences_again, terms_read}
use Rattle.term_text.proofs.Written.{written, decimal_is}

-- ---- over characters

widened : (text : List ℕ) (ds : List Datum) → Sentences text ds → Sentences (line_feed ∷ text) ds
widened text ds (none g l) = none (white refl g) l
widened text ds (sentence g s h b more) = sentence (white refl g) s h b more

module _ (f : Form) (d : Datum) (term : IsTerm d) (more : List ℕ) where
  spelled_here : Rattle.term_text.specs.Text.Spelled MAX_DEPTH (text_as f d ++ dot ∷ line_feed ∷ more) d (dot ∷ line_feed ∷ more)
  spelled_here = written f d term.sound MAX_DEPTH term.shallow (dot ∷ line_feed ∷ more) refl

  put_first : (es : List Datum) → Sentences more es → Sentences (text_as f d ++ dot ∷ line_feed ∷ more) (d ∷ es)
  put_first es h = sentence no_gap spelled_here no_gap (inl refl) (widened more es h)

  taken_first : (ds : List Datum) → Sentences (text_as f d ++ dot ∷ line_feed ∷ more) ds → (es : List Datum) × (ds ≡ d ∷ es) × Sentences more es
  taken_first ds h =
      let text : List ℕ = text_as f d ++ dot ∷ line_feed ∷ more in
      let all : all_steps sentence_step [] text ≡ Ok (ds, []) = ap (all_steps sentence_step []) (sym (gap_first no_gap (spelled_first spelled_here))) ∙ sentences_again h [] in
      let step = step_again [] text (line_feed ∷ more) d (spelled_first spelled_here) (sentence_again text (line_feed ∷ more) d spelled_here no_gap (inl refl)) in
      let rest : all_steps sentence_step (d ∷ []) (after_gap false more) ≡ Ok (ds, []) = goes_on sentence_step sentence_shrinks [] (d ∷ []) text (after_gap false more) (Ok (ds, [])) step all in
      let read = terms_read (d ∷ []) (after_gap false more) ds [] rest in
      (read.more, read.joined, read.spelled more (gap_holds more))

-- ---- the characters of a canonical text

join : (xs ys : List ℕ) → all_scalars xs ≡ true → all_scalars ys ≡ true → all_scalars (xs ++ ys) ≡ true
join [] ys h k = k
join (x ∷ xs) ys h k = let p = and_parts (scalar x) (all_scalars xs) h in and_from (scalar x) (all_scalars (xs ++ ys)) p.0 (join xs ys p.1 k)

put : (c : ℕ) (cs : List ℕ) → scalar c ≡ true → all_scalars cs ≡ true → all_scalars (c ∷ cs) ≡ true
put c cs h k = and_from (scalar c) (all_scalars cs) h k

digit_scalar : (c : ℕ) → is_ascii_digit c ≡ true → c < 55296
digit_scalar c h = grind arith

digits_scalar : (ds : List ℕ) → AllByRecursion (λ c. is_ascii_digit c ≡ true) ds → all_scalars ds ≡ true
digits_scalar [] h = refl
digits_scalar (c ∷ ds) h = put c ds (low_scalar c (digit_scalar c h.0)) (digits_scalar ds h.1)

decimal_scalar : (n : ℕ) → n < 2 ^ 64 → all_scalars (decimal n) ≡ true
decimal_scalar n h = digits_scalar (decimal n) (decimal_is n h).each

integer_scalar : (z : ℤ) → FitsSigned w64 z → all_scalars (signed_decimal z) ≡ true
integer_scalar (pos n) f = decimal_scalar n (omega (arith, ints))
integer_scalar (negsuc n) f = decimal_scalar (suc n) (omega (arith, ints))

characters_scalar : (cs : List ℕ) → AreScalars cs → all_scalars cs ≡ true
characters_scalar [] h = refl
characters_scalar (c ∷ cs) h = put c cs h.0 (characters_scalar cs h.1)

cond_scalar : (b : Bool) (xs ys : List ℕ) → all_scalars xs ≡ true → all_scalars ys ≡ true → all_scalars (cond b xs ys) ≡ true
cond_scalar true xs ys h k = h
cond_scalar false xs ys h k = k

character_scalar : (m : ℕ) → scalar m ≡ true → (c : ℕ) → scalar c ≡ true → all_scalars (quoted_character m c) ≡ true
character_scalar m k c h =
    cond_scalar (c == backslash) _ _ refl (cond_scalar (c == m) _ _ (put backslash (m ∷ []) refl (put m [] k refl)) (cond_scalar (c == 10) _ _ refl (cond_scalar (c == 13) _ _ refl (cond_scalar (c == 9) _ _ refl (put c [] h refl)))))

quoted_scalar : (m : ℕ) → scalar m ≡ true → (cs : List ℕ) → AreScalars cs → all_scalars (quoted_characters m cs) ≡ true
quoted_scalar m k [] h = refl
quoted_scalar m k (c ∷ cs) h = join (quoted_character m c) (quoted_characters m cs) (character_scalar m k c h.0) (quoted_scalar m k cs h.1)

marked_scalar : (m : ℕ) → scalar m ≡ true → (cs : List ℕ) → AreScalars cs → all_scalars (quoted_text m cs) ≡ true
marked_scalar m k cs h = put m (quoted_characters m cs ++ m ∷ []) k (join (quoted_characters m cs) (m ∷ []) (quoted_scalar m k cs h) (put m [] k refl))

atom_scalar : (cs : List ℕ) → AreScalars cs → all_scalars (atom_text cs) ≡ true
atom_scalar cs h = cond_scalar (is_bare cs) cs _ (characters_scalar cs h) (marked_scalar single_quote refl cs h)

shown_small : (c : ℕ) → is_shown c ≡ true → c < 55296
shown_small c h = grind arith

shown_scalar : (d : Datum) → is_character d ≡ true → scalar (code_of d) ≡ true
shown_scalar (integer (pos c)) h = low_scalar c (shown_small c h)
shown_scalar (integer (negsuc c)) h = absurd cc
shown_scalar (atom cs) h = absurd cc
shown_scalar (tuple ds) h = absurd cc
shown_scalar (map es) h = absurd cc
shown_scalar nil h = absurd cc
shown_scalar (cons head tail) h = absurd cc
shown_scalar (binary bs) h = absurd cc

codes_scalar : (d : Datum) → is_string d ≡ true → AreScalars (codes_of d)
codes_scalar nil h = tt
codes_scalar (cons head tail) h = let p = and_parts (is_character head) (is_string tail) h in (shown_scalar head p.0, codes_scalar tail p.1)
codes_scalar (integer z) h = tt
codes_scalar (atom cs) h = tt
codes_scalar (tuple ds) h = tt
codes_scalar (map es) h = tt
codes_scalar (binary bs) h = tt

more_bytes_scalar : (bs : List ℕ) → AreBytes bs → all_scalars (more_bytes bs) ≡ true
more_bytes_scalar [] h = refl
more_bytes_scalar (b ∷ bs) h = join (decimal b) (more_bytes bs) (decimal_scalar b (let l = h.0 in omega arith)) (more_bytes_scalar bs h.1)

bytes_scalar : (bs : List ℕ) → AreBytes bs → all_scalars (bytes_text bs) ≡ true
bytes_scalar [] h = refl
bytes_scalar (b ∷ bs) h = join (decimal b) (more_bytes bs) (decimal_scalar b (let l = h.0 in omega arith)) (more_bytes_scalar bs h.1)

byte_scalars : (bs : List ℕ) → AreBytes bs → AreScalars bs
byte_scalars [] h = tt
byte_scalars (b ∷ bs) h = (low_scalar b (let l = h.0 in omega arith), byte_scalars bs h.1)

segments_scalar : (f : Form) (bs : List ℕ) → AreBytes bs → all_scalars (segments_text f bs) ≡ true
segments_scalar f bs h = cond_scalar (shows_strings f && (is_some bs && are_shown bs)) _ _ (marked_scalar double_quote refl bs (byte_scalars bs h)) (bytes_scalar bs h)

binary_scalar : (f : Form) (bs : List ℕ) → AreBytes bs → all_scalars (binary_text f bs) ≡ true
binary_scalar f bs h = join (segments_text f bs) (greater ∷ greater ∷ []) (segments_scalar f bs h) refl

mutual
  unfolding text_as

  text_scalar : (f : Form) → (d : Datum) → IsSound d → all_scalars (text_as f d) ≡ true
  text_scalar f (integer z) s = integer_scalar z s
  text_scalar f (atom cs) s = atom_scalar cs s.1
  text_scalar f (tuple ds) s = join (items_text f ds) (close_brace ∷ []) (items_scalar f ds s.1) refl
  text_scalar f (map es) s = join (entries_text f es) (close_brace ∷ []) (entries_scalar f es s.1) refl
  text_scalar f nil s = refl
  text_scalar f (cons head tail) s = elim (cases_Bool (shows_strings f && is_string (cons head tail))) [
    | inl shown ↦ rw shown (marked_scalar double_quote refl (codes_of (cons head tail)) (codes_scalar (cons head tail) (and_parts (shows_strings f) (is_string (cons head tail)) shown).1))
    | inr other ↦ rw other (join (text_as f head) (tail_text f tail) (text_scalar f head s.1) (tail_scalar f tail s.2))
  ]
  text_scalar f (binary bs) s = binary_scalar f bs s.1

  items_scalar : (f : Form) → (ds : Items) → AreSound ds → all_scalars (items_text f ds) ≡ true
  items_scalar f no_items s = refl
  items_scalar f (item d ds) s = join (text_as f d) (more_items_text f ds) (text_scalar f d s.0) (more_items_scalar f ds s.1)

  more_items_scalar : (f : Form) → (ds : Items) → AreSound ds → all_scalars (more_items_text f ds) ≡ true
  more_items_scalar f no_items s = refl
  more_items_scalar f (item d ds) s = join (text_as f d) (more_items_text f ds) (text_scalar f d s.0) (more_items_scalar f ds s.1)

  entries_scalar : (f : Form) → (es : Entries) → ArePairsSound es → all_scalars (entries_text f es) ≡ true
  entries_scalar f no_entries s = refl
  entries_scalar f (entry k v es) s =
      join (text_as f k ++ (equals ∷ greater ∷ text_as f v)) (more_entries_text f es) (join (text_as f k) (equals ∷ greater ∷ text_as f v) (text_scalar f k s.0) (text_scalar f v s.1)) (more_entries_scalar f es s.3)

  more_entries_scalar : (f : Form) → (es : Entries) → ArePairsSound es → all_scalars (more_entries_text f es) ≡ true
  more_entries_scalar f no_entries s = refl
  more_entries_scalar f (entry k v es) s =
      join (text_as f k ++ (equals ∷ greater ∷ text_as f v)) (more_entries_text f es) (join (text_as f k) (equals ∷ greater ∷ text_as f v) (text_scalar f k s.0) (text_scalar f v s.1)) (more_entries_scalar f es s.3)

  tail_scalar : (f : Form) → (d : Datum) → IsSound d → all_scalars (tail_text f d) ≡ true
  tail_scalar f nil s = refl
  tail_scalar f (cons head tail) s = join (text_as f head) (tail_text f tail) (text_scalar f head s.1) (tail_scalar f tail s.2)
  tail_scalar f (integer z) s = join (signed_decimal z) (close_bracket ∷ []) (integer_scalar z s) refl
  tail_scalar f (atom cs) s = join (atom_text cs) (close_bracket ∷ []) (atom_scalar cs s.1) refl
  tail_scalar f (tuple ds) s = join (items_text f ds ++ close_brace ∷ []) (close_bracket ∷ []) (join (items_text f ds) (close_brace ∷ []) (items_scalar f ds s.1) refl) refl
  tail_scalar f (map es) s = join (entries_text f es ++ close_brace ∷ []) (close_bracket ∷ []) (join (entries_text f es) (close_brace ∷ []) (entries_scalar f es s.1) refl) refl
  tail_scalar f (binary bs) s = join (binary_text f bs) (close_bracket ∷ []) (binary_scalar f bs s.1) refl

-- ---- over bytes

rest_utf8 : (cs ys : List ℕ) → IsUtf8 (encode_utf8_all cs ++ ys) → IsUtf8 ys
rest_utf8 [] ys h = h
rest_utf8 (c ∷ cs) ys h = rest_utf8 cs ys (IsUtf8-past_char (encode_utf8_all (c ∷ cs) ++ ys) (encode_utf8_all cs ++ ys) c h (append_assoc (encode c) (encode_utf8_all cs) ys))

module _ (f : Form) (d : Datum) (term : IsTerm d) (more : List ℕ) where
  first : List ℕ
  first = text_as f d ++ dot ∷ line_feed ∷ []

  first_scalar : all_scalars first ≡ true
  unfolding first encode
  first_scalar = join (text_as f d) (dot ∷ line_feed ∷ []) (text_scalar f d term.sound) refl

  first_utf8 : IsUtf8 (encode_utf8_all first)
  first_utf8 = (first, (first_scalar, refl))

  whole_is : encode_utf8_all (text_as f d) ++ dot ∷ line_feed ∷ more ≡ encode_utf8_all first ++ more
  unfolding first encode
  whole_is = sym (ap (λ (t : List ℕ). t ++ more) (encodes-append (text_as f d) (dot ∷ line_feed ∷ [])) ∙ append_assoc (encode_utf8_all (text_as f d)) (dot ∷ line_feed ∷ []) more)

  whole_characters : chars (encode_utf8_all first ++ more) ≡ text_as f d ++ dot ∷ line_feed ∷ chars more
  unfolding first encode
  whole_characters = chars-append (encode_utf8_all first) more first_utf8 ∙ ap (λ (t : List ℕ). t ++ chars more) (chars-encodes first first_scalar) ∙ append_assoc (text_as f d) (dot ∷ line_feed ∷ []) (chars more)

  taken : (ds : List Datum) → Spells (encode_utf8_all first ++ more) ds → (es : List Datum) × (ds ≡ d ∷ es) × Spells more es
  taken ds h =
      let t = taken_first f d term (chars more) ds (rw whole_characters at h.sentences) in
      (t.0, t.1, record { utf8 = rest_utf8 first more h.utf8; sentences = t.2 })

  given : (es : List Datum) → Spells more es → Spells (encode_utf8_all first ++ more) (d ∷ es)
  given es h = record { utf8 = IsUtf8-append (encode_utf8_all first) more first_utf8 h.utf8; sentences = rw whole_characters (put_first f d term (chars more) es h.sentences) }

pub read_back : (f : Form) (d : Datum) → IsTerm d → IsReadBack (text_as f) d
read_back f d term more ds = rw (whole_is f d term more) (λ h. taken f d term more ds h, λ h. rw h.1 (given f d term more h.0 h.2))
