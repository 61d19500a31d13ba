-- A reader that stops names the cause that is at the place where it stops: terms and whole texts.
use Rattle.std.proofs.Common.{◌≡◌, ◌&&◌, ℕ, zero, suc, ◌+◌, ◌-◌, ◌≤◌, ◌<◌, inl, inr, true, false, List, [], ◌∷◌, length, take, Option, Some, None, refl, sym, ap, subst, ◌∙◌, arith}
use Rattle.std.specs.Prelude.{IfOk, IfErr, IfSome, ◌==◌}
use Rattle.std.specs.List.{Contains}
use Rattle.std.specs.List.Sorted.{IsPermutation}
use Rattle.std.specs.Ordering.{is_eq}
use Rattle.std.specs.Str.{encode_utf8_all, chars}
use Rattle.std.proofs.lemmas.Bool.{eqb-true, eqb-false, eq-eqb, or_cases, or_parts}
use Rattle.std.proofs.lemmas.List.{length-append, take_at}
use Rattle.std.proofs.lemmas.List.Sorted.{Contains-permutation, IsPermutation-refl, IsPermutation-sym, IsPermutation-cons, IsPermutation-trans, length_permutation}
use Rattle.std.proofs.lemmas.Result.{IfErr-at_err}
use Rattle.term_core.specs.Datum.{Datum, cell_count}
use Rattle.term_core.specs.Order.{datum_cmp}
use Rattle.term_core.specs.OrderLaws.{datum_cmp-equal, datum_cmp-same}
use Rattle.std.specs.declared.cmp.Ordering.TheVariants.{Equal}
use Rattle.term_core.specs.declared.TheConstants.{MAX_TUPLE, MAX_MAP, MAX_LIST, MAX_BINARY, MAX_DEPTH}
use Rattle.term_text.specs.Character.{backslash, comma, dot, equals, greater, single_quote, double_quote, open_brace, close_brace, open_bracket, close_bracket, bar, number_sign, less}
use Rattle.term_text.specs.declared.stop.Cause.{Cause}
use Rattle.term_text.specs.declared.stop.Cause.TheVariants as causes
use Rattle.term_text.specs.declared.stop.Stop.{Stop}
use Rattle.term_text.specs.declared.stop.Stop.TheVariants as stops
use Rattle.term_text.specs.declared.token.Opening.{Opening}
use Rattle.term_text.specs.declared.token.Opening.TheVariants as opens
use Rattle.term_text.specs.Tokens.{Gap}
use Rattle.term_text.specs.Text.{Spelled}
use Rattle.term_text.specs.Fault.{fault_of}
use Rattle.term_text.specs.Causes.{Due, Due as due, WholeGap, Row, most_elements, BeginsTerm, IsTooDeep, IsTooLong, IsKeyTwice, IsOutOfRange, IsNoEscape, StandsAt, HasCause, BeginsInteger, BeginsWith, BeginsWithBoth, BeginsDot, FollowsElement, IsUnexpected, IsNew}
use Rattle.term_text.specs.Causes.{BeginsTerm as begins_term}
use Rattle.term_text.specs.Causes.IsUnexpected.{no_character, no_escaped, no_term, no_element, no_key, no_segment, behind_element, behind_tail, after_key, behind_pair, behind_segment, no_dot}
use Rattle.term_text.specs.Causes.Place.{a_sentence, a_term, an_element, a_pair, a_segment}
use Rattle.term_text.specs.Causes.Row.{in_tuple, in_list}
use Rattle.term_text.specs.Causes.Quotes.{of_atom, of_string, of_bytes}
use Rattle.term_text.specs.Causes.IsTooDeep.{deep_term, deep_element, deep_key, deep_character}
use Rattle.term_text.specs.Causes.IsTooLong.{one_element, one_pair, one_byte, one_character, one_letter}
use Rattle.term_text.specs.Causes.IsKeyTwice.{key_twice}
use Rattle.term_text.specs.Causes.IsOutOfRange.{wide_term, wide_segment, no_byte, no_byte_character}
use Rattle.term_text.specs.Causes.IsNoEscape.{no_escape}
use Rattle.term_text.specs.TokenReading.{Fails, after_gap, behind, after_both, all_steps, expect, expect_both, opening, quoted_at, integer_at, word_at, dot_at, begins_gap}
use Rattle.term_text.specs.Reading.{TermReader, TailReader, separated, enter, atom_marks, byte_marks, string_marks, string_at, segment_as, segment_at, segments_at, byte_at, bytes_at, binary_at, integer_term_at, word_term_at, quoted_atom_at, element_at, elements_at, items_at, tuple_at, list_at, list_end, list_from, end_at, has_key, pair_at, pairs_at, map_at, form_at, tail_form, term_at, tail_at, sentence_at, sentence_step, text_at}
use Rattle.term_text.proofs.Words.{Opens, BeginsWord, opening_holds, opening_integer, behind_holds}
use Rattle.term_text.proofs.Sound.{IsReader, IsTailReader, ElementRead, SegmentRead, PairRead, TailRead, cell_count-cells, enter_holds, element_holds, element_shrinks, segment_holds, segment_shrinks, pair_holds, pair_shrinks, expect_both_holds, term_holds, tail_holds}
use Rattle.term_text.proofs.Steps.{bind_holds}
use Rattle.term_text.proofs.Texts.{SentenceRead, sentence_holds, sentence_shrinks, begins_from}
use Rattle.term_text.proofs.Keys.{put_permutes, is_eq-equal}
use Rattle.term_text.proofs.Ends.{EndsIn, due_ends, whole_gap_ends, spelled_ends, segment_ends, pair_ends, then}
use Rattle.term_text.proofs.Ends.{behind as ends_behind}
use Rattle.term_text.proofs.Blames.{Left, Blames, at_once, whole_gap, gap_before, opens_none, integer_begun, LastItem, StaysGood, bind_blames, bind_any, if_blames, steps_blame, separated_blames, separated_last, expect_blames, expect_both_blames, enter_blames, integer_blames, byte_blames, word_blames, quoted_blames, atom_are, byte_are, string_are}
use Rattle.term_text.proofs.Words.{BeginsInteger as IsIntegerStart}
use Rattle.term_text.proofs.Blames.{integer_starts}

-- A term with this number of levels left is due at a place if there is room for one more, with what else may be wrong
-- there.
pub record TermDue (whole : List ℕ) (n room : ℕ) (text : List ℕ) : Type 0 where
  pub due_here : 0 < room → Due whole (a_term n 0) text
  pub deep : n ≡ 0 → BeginsTerm text → IsTooDeep whole text
  pub long : 0 < n → room ≡ 0 → BeginsTerm text → IsTooLong whole text
  pub other : ¬ BeginsTerm text → IsUnexpected whole text

one_due : (whole : List ℕ) (n : ℕ) (text : List ℕ) → Due whole (a_term n 0) text → TermDue whole n 1 text
one_due whole n text d =
    record {
      due_here = λ room. d;
      deep = λ none b. deep_term (subst (λ m. Due whole (a_term m 0) text) none d) b;
      long = λ some none b. absurd (omega arith);
      other = λ no. no_term d no;
    }

-- a reader of terms that names the cause at the place where it stops
abbrev pub BlamesTerm : List ℕ → ℕ → TermReader → Type 0
BlamesTerm whole n read = (room : ℕ) (text : List ℕ) → TermDue whole n room text → IfErr (read room text) (Blames whole)

abbrev pub BlamesTail : List ℕ → ℕ → TailReader → Type 0
BlamesTail whole n read = (front : List Datum) (text : List ℕ) → length front ≤ MAX_LIST → Due whole (a_term n (length front)) text → IfErr (read front text) (Blames whole)

-- ---- integers, atoms and strings

integer_term_blames : (whole text rest : List ℕ) (n k : ℕ) → Opens opens.Integer text rest → Due whole (a_term (suc n) k) text → IfErr (integer_term_at rest) (Blames whole)
unfolding integer_term_at
integer_term_blames whole text rest n k o d =
    let start : IsIntegerStart rest = rw o.0 at o.1 in
    let here : Due whole (a_term (suc n) k) rest = rw o.0 at d in
    bind_any (Blames whole) (integer_at rest) _ (integer_blames (Blames whole) rest start (λ w. at_once rest (wide_term here (omega arith) w))) (λ x. tt)

word_term_blames : (whole text rest : List ℕ) (n k : ℕ) → Opens opens.Word text rest → Due whole (a_term (suc n) k) text → IfErr (word_term_at rest) (Blames whole)
unfolding word_term_at
word_term_blames whole text rest n k o d =
    let start : BeginsWord rest = rw o.0 at o.1 in
    let here : Due whole (a_term (suc n) k) rest = rw o.0 at d in
    bind_any (Blames whole) (word_at rest) _ (word_blames whole rest n k start here) (λ x. tt)

quoted_atom_blames : (whole text : List ℕ) (n k : ℕ) → Due whole (a_term (suc n) k) (single_quote ∷ text) → IfErr (quoted_atom_at text) (Blames whole)
unfolding quoted_atom_at
quoted_atom_blames whole text n k d = bind_any (Blames whole) (quoted_at atom_marks text) _ (quoted_blames whole atom_marks of_atom 0 (atom_are whole) text (due.in_atom d)) (λ x. tt)

string_blames : (whole text : List ℕ) (n : ℕ) (front : List Datum) → length front ≤ MAX_LIST → Due whole (a_term (suc n) (length front)) (double_quote ∷ text) → IfErr (string_at n front text) (Blames whole)
unfolding string_at
string_blames whole text n front l d =
    bind_any (Blames whole) (quoted_at (string_marks n (length front)) text) _ (quoted_blames whole (string_marks n (length front)) (of_string n) (length front) (string_are whole n (length front) l) text (due.in_string d)) (λ x. tt)

-- a text that is found not to begin with a character does not begin with it
none_behind : (a : ℕ) (text : List ℕ) → behind a text ≡ None → ¬ BeginsWith a text
none_behind a [] e h = h
none_behind a (c ∷ cs) e h = let found = rw (eq-eqb c a h) at e in absurd cc

neither : (a b : ℕ) (text : List ℕ) → after_both a b text ≡ None → ¬ BeginsWithBoth a b text
neither a b [] e h = h
neither a b (x ∷ []) e h = h.1
neither a b (x ∷ y ∷ ys) e h = let found = rw (eq-eqb x a h.0, eq-eqb y b h.1) at e in absurd cc

-- ---- binaries

record SegmentDue (whole bytes text : List ℕ) : Type 0 where
  few : length bytes ≤ MAX_BINARY
  place : Due whole (a_segment (length bytes)) text

quote_starts : (text : List ℕ) → BeginsWith double_quote text → BeginsTerm text
quote_starts [] h = absurd h
quote_starts (c ∷ cs) h = rw h begins_term.a_string

no_segment_starts : (text : List ℕ) → opening text ≡ None → (¬ BeginsInteger text) × (¬ BeginsWith double_quote text)
no_segment_starts text e = (λ i. opens_none text e (begins_term.an_integer i), λ q. opens_none text e (quote_starts text q))

opening_of : (o p : Opening) (rest text : List ℕ) (found : Option (Opening × List ℕ)) → found ≡ Some (o, rest) → found ≡ Some (p, text) → o ≡ p
opening_of o p rest text found e f =
    let both : Some (o, rest) ≡ Some (p, text) = sym e ∙ f in
    let pair : (o, rest) ≡ (p, text) = cc in
    ap (λ (x : Opening × List ℕ). x.0) pair

opening_quote : (text rest : List ℕ) (o : Opening) → (o ≡ opens.String → ⊥) → opening text ≡ Some (o, rest) → ¬ BeginsWith double_quote text
opening_quote [] rest o other e h = h
opening_quote (c ∷ cs) rest o other e h = other (opening_of o opens.String rest cs (opening (c ∷ cs)) e (rw h refl))

other_starts : (text rest : List ℕ) (o : Opening) → (o ≡ opens.Integer → ⊥) → (o ≡ opens.String → ⊥) → opening text ≡ Some (o, rest) → (¬ BeginsInteger text) × (¬ BeginsWith double_quote text)
other_starts text rest o no_integer no_string e =
    (λ i. no_integer (opening_of o opens.Integer rest text (opening text) e (opening_integer text (integer_begun i))), opening_quote text rest o no_string e)

segment_as_blames : (whole bytes text : List ℕ) (o : Option (Opening × List ℕ)) → IfSome o (λ o. Opens o.0 text o.1) → opening text ≡ o → SegmentDue whole bytes text → IfErr (segment_as o bytes text) (Blames whole)
segment_as_blames whole bytes text None h e g = let no = no_segment_starts text e in at_once text (no_segment g.place no.0 no.1)
segment_as_blames whole bytes text (Some (opens.Integer, rest)) h e g =
    if_blames (Blames whole) (length bytes == MAX_BINARY) _ _ (λ f. at_once text (one_byte g.place (eqb-true (length bytes) MAX_BINARY f) (integer_starts text h.1)))
    (λ more. bind_any (Blames whole) (byte_at text) _ (byte_blames whole text (length bytes) h.1 g.place (let few = g.few in let full = eqb-false (length bytes) MAX_BINARY more in omega arith)) (λ b. tt))
segment_as_blames whole bytes text (Some (opens.String, rest)) h e g =
    let here = rw h at g.place in
    bind_any (Blames whole) (quoted_at (byte_marks (length bytes)) rest) _ (quoted_blames whole (byte_marks (length bytes)) of_bytes (length bytes) (byte_are whole (length bytes) g.few) rest (due.in_bytes here)) (λ x. tt)
segment_as_blames whole bytes text (Some (o, rest)) h e g = let no = other_starts text rest o (λ p. absurd cc) (λ p. absurd cc) e in at_once text (no_segment g.place no.0 no.1)

segment_blames : (whole bytes text : List ℕ) → SegmentDue whole bytes text → IfErr (segment_at bytes text) (Blames whole)
unfolding segment_at
segment_blames whole bytes text g = segment_as_blames whole bytes text (opening text) (opening_holds text) refl g

segment_count : (s text u t : List ℕ) → (r : SegmentRead s text u t) → length u ≡ length s + length r.segment
segment_count s text u t r = ap length r.made ∙ length-append s r.segment

next_segment_due : (whole s text u t w rest : List ℕ) → SegmentDue whole s text → SegmentRead s text u t → Gap t (comma ∷ w) → WholeGap w rest → SegmentDue whole u rest
next_segment_due whole s text u t w rest g r gap b =
    let len = segment_count s text u t r in
    record {
      few = r.within g.few;
      place = rw len (due.next_segment g.place r.spelled (let few = r.within g.few in omega arith) gap b);
    }

segments_blame : (whole text : List ℕ) → Due whole (a_segment 0) text → IfErr (segments_at [] text) (Blames whole)
segments_blame whole text d =
    separated_blames segment_at SegmentRead (SegmentDue whole) segment_holds (next_segment_due whole) (Blames whole) segment_shrinks (segment_blames whole) [] text (record { few = omega arith; place = d })

-- the last of some segments, and what follows it
abbrev LastSegment : List ℕ → List ℕ × List ℕ → Type 0
LastSegment whole x = LastItem SegmentRead (SegmentDue whole) x.0 x.1

last_segment : (whole text : List ℕ) → Due whole (a_segment 0) text → IfOk (segments_at [] text) (LastSegment whole)
last_segment whole text d = separated_last segment_at SegmentRead (SegmentDue whole) segment_holds (next_segment_due whole) [] text (record { few = omega arith; place = d })

after_segments : (whole : List ℕ) (x : List ℕ × List ℕ) → LastSegment whole x → ¬ BeginsWithBoth greater greater x.1 → IsUnexpected whole x.1
after_segments whole x l no_end =
    let len = segment_count l.before l.text x.0 l.behind l.item in
    behind_segment l.good.place l.item.spelled (let few = l.item.within l.good.few in omega arith) l.gap l.no_comma no_end

bytes_blame : (whole g : List ℕ) (o : Option (List ℕ)) → after_both greater greater g ≡ o → (¬ BeginsWithBoth greater greater g → Due whole (a_segment 0) g) → IfErr (bytes_at o g) (Blames whole)
bytes_blame whole g (Some rest) e d = tt
bytes_blame whole g None e d =
    let here = d (neither greater greater g e) in
    bind_blames (LastSegment whole) (Blames whole) (segments_at [] g) _ (last_segment whole g here) (segments_blame whole g here)
    (λ x l. bind_any (Blames whole) (expect_both greater greater x.1) _ (expect_both_blames whole greater greater x.1 (after_segments whole x l)) (λ rest. tt))

binary_blames : (whole text : List ℕ) (n k : ℕ) → Due whole (a_term (suc n) k) (less ∷ less ∷ text) → IfErr (binary_at text) (Blames whole)
unfolding binary_at
binary_blames whole text n k d =
    bind_any (Blames whole) (bytes_at (after_both greater greater (after_gap false text)) (after_gap false text)) _ (bytes_blame whole (after_gap false text) (after_both greater greater (after_gap false text)) refl (λ unclosed. due.in_binary d (whole_gap text) unclosed)) (λ x. tt)

-- ---- a key that occurs twice

pub has_one : (k : Datum) (es : List (Datum × Datum)) → has_key k es ≡ true → (v : Datum) × Contains es (k, v)
has_one k [] h = absurd cc
has_one k (e ∷ es) h = elim (or_cases (is_eq (datum_cmp k e.0)) (has_key k es) h) [
  | inl same ↦ let key : k ≡ e.0 = datum_cmp-equal k e.0 (is_eq-equal (datum_cmp k e.0) same) in (e.1, (0, omega arith, ap (λ (x : Datum). (x, e.1)) (sym key)))
  | inr later ↦ let there = has_one k es later in (there.0, (suc there.1.0, (let less = there.1.1 in omega arith), there.1.2))
]

no_one : (k : Datum) (es : List (Datum × Datum)) → has_key k es ≡ false → IsNew k es
no_one k [] h v c = let none = c.1 in omega arith
no_one k (e ∷ es) h v (zero, l, at) = let no = or_parts (is_eq (datum_cmp k e.0)) (has_key k es) h in let same : datum_cmp k e.0 ≡ Equal = datum_cmp-same (sym (ap (λ (x : Datum × Datum). x.0) at)) in absurd (let yes : is_eq (datum_cmp k e.0) ≡ true = rw same refl in let never = no.0 in cc)
no_one k (e ∷ es) h v (suc i, l, at) = let no = or_parts (is_eq (datum_cmp k e.0)) (has_key k es) h in no_one k es no.1 v (i, omega arith, at)

pub is_new : (k : Datum) (es seen : List (Datum × Datum)) → IsPermutation es seen → has_key k es ≡ false → IsNew k seen
is_new k es seen p h v c = no_one k es h v (Contains-permutation seen es (k, v) (IsPermutation-sym es seen p) c)

module _ (whole : List ℕ) (n : ℕ) (read : TermReader) (reads : IsReader n read) (blames : BlamesTerm whole n read) where
  -- ---- elements

  module _ (r : Row) (limit : ℕ) (most : limit ≡ most_elements r) where
    record ElementDue (ds : List Datum) (text : List ℕ) : Type 0 where
      few : length ds ≤ limit
      place : Due whole (an_element r n (length ds)) text

    element_due : (ds : List Datum) (text : List ℕ) → ElementDue ds text → TermDue whole n (limit - length ds) text
    element_due ds text g =
        record {
          due_here = λ room. due.element g.place (omega arith);
          deep = λ none b. deep_element (subst (λ m. Due whole (an_element r m (length ds)) text) none g.place) b;
          long = λ some none b. one_element g.place some (let few = g.few in omega arith) b;
          other = λ no. no_element g.place no;
        }

    element_blames : (ds : List Datum) (text : List ℕ) → ElementDue ds text → IfErr (element_at read limit ds text) (Blames whole)
    unfolding element_at
    element_blames ds text g =
        bind_any (Blames whole) (read (limit - length ds) text) _
        (blames (limit - length ds) text (element_due ds text g)) (λ x. tt)

    element_count : (s : List Datum) (text : List ℕ) (u : List Datum) (t : List ℕ) → ElementRead n limit s text u t → length u ≡ suc (length s)
    element_count s text u t i = let made = ap length i.made in omega (arith, length-append s (i.element ∷ []))

    next_element_due : (s : List Datum) (text : List ℕ) (u : List Datum) (t w rest : List ℕ) → ElementDue s text → ElementRead n limit s text u t → Gap t (comma ∷ w) → WholeGap w rest → ElementDue u rest
    next_element_due s text u t w rest g i gap b =
        let len = element_count s text u t i in
        record {
          few = let room = i.room in omega arith;
          place = rw len (due.next_element g.place (let room = i.room in omega arith) i.spelled gap b);
        }

    elements_blame : (front : List Datum) (text : List ℕ) → length front ≤ limit → Due whole (an_element r n (length front)) text → IfErr (elements_at read limit front text) (Blames whole)
    elements_blame front text few d =
        separated_blames (element_at read limit) (ElementRead n limit) ElementDue (element_holds n read reads limit) next_element_due (Blames whole) (element_shrinks n read reads limit) element_blames front text (record { few = few; place = d })

    -- the last of some elements, and what follows it
    abbrev LastElement : List Datum × List ℕ → Type 0
    LastElement x = LastItem (ElementRead n limit) ElementDue x.0 x.1

    last_element : (front : List Datum) (text : List ℕ) → length front ≤ limit → Due whole (an_element r n (length front)) text → IfOk (elements_at read limit front text) LastElement
    last_element front text few d = separated_last (element_at read limit) (ElementRead n limit) ElementDue (element_holds n read reads limit) next_element_due front text (record { few = few; place = d })

    after_elements : (x : List Datum × List ℕ) → LastElement x → ¬ FollowsElement r x.1 → IsUnexpected whole x.1
    after_elements x l other = behind_element l.good.place (let room = l.item.room in omega arith) l.item.spelled l.gap other

  -- ---- tuples

  items_blame : (g : List ℕ) (o : Option (List ℕ)) → behind close_brace g ≡ o → (¬ BeginsWith close_brace g → Due whole (an_element in_tuple n 0) g) → IfErr (items_at read o g) (Blames whole)
  items_blame g (Some rest) e d = tt
  items_blame g None e d =
      let here = d (none_behind close_brace g e) in
      bind_blames (LastElement in_tuple MAX_TUPLE refl) (Blames whole) (elements_at read MAX_TUPLE [] g) _ (last_element in_tuple MAX_TUPLE refl [] g (omega arith) here) (elements_blame in_tuple MAX_TUPLE refl [] g (omega arith) here)
      (λ x l. bind_any (Blames whole) (expect close_brace x.1) _ (expect_blames whole close_brace x.1 (λ no. after_elements in_tuple MAX_TUPLE refl x l (λ f. elim f [ inl c ↦ l.no_comma c | inr e ↦ no e ]))) (λ rest. tt))

  tuple_blames : (k : ℕ) (text : List ℕ) → Due whole (a_term (suc n) k) (open_brace ∷ text) → IfErr (tuple_at read text) (Blames whole)
  unfolding tuple_at
  tuple_blames k text d =
      bind_any (Blames whole) (items_at read (behind close_brace (after_gap false text)) (after_gap false text)) _
      (items_blame (after_gap false text) (behind close_brace (after_gap false text)) refl (λ unclosed. due.in_braces d (whole_gap text) unclosed)) (λ x. tt)

  -- ---- lists

  module _ (read_tail : TailReader) (tails : BlamesTail whole n read_tail) (tail_reads : IsTailReader n read_tail) where
    abbrev LastOfList : List Datum → List ℕ → Type 0
    LastOfList ds t = LastElement in_list MAX_LIST refl (ds, t)

    few_elements : (ds : List Datum) (t : List ℕ) → LastOfList ds t → length ds ≤ MAX_LIST
    few_elements ds t l = let len = element_count in_list MAX_LIST refl l.before l.text ds l.behind l.item in let room = l.item.room in omega arith

    -- the tail after the elements is due
    tail_due : (ds : List Datum) (t u : List ℕ) → LastOfList ds t → t ≡ bar ∷ u → Due whole (a_term n (length ds)) (after_gap false u)
    tail_due ds t u l h =
        let len = element_count in_list MAX_LIST refl l.before l.text ds l.behind l.item in
        rw len (due.tail l.good.place (let room = l.item.room in omega arith) l.item.spelled (gap_before bar u l.gap h) (whole_gap u))

    -- what follows a tail and is no closing bracket is unexpected
    after_tail : (count before : ℕ) (text : List ℕ) (d : Datum) (t : List ℕ) → count ≡ suc before → Due whole (a_term n count) text → Spelled n text d t → count + cell_count d ≤ MAX_LIST → ¬ BeginsWith close_bracket (after_gap false t) → IsUnexpected whole (after_gap false t)
    after_tail count before text d t e due_here s few other = behind_tail (rw e at due_here) s (let same = e in omega arith) (whole_gap t) other

    tail_count : (ds : List Datum) (text : List ℕ) (e : Datum) (t : List ℕ) → length ds ≤ MAX_LIST → (r : TailRead n ds text e t) → length ds + cell_count r.tail ≤ MAX_LIST
    tail_count ds text e t few r = let all = r.within few in omega (arith, cell_count-cells ds r.tail)

    end_blames : (ds : List Datum) (t : List ℕ) (o : Option (List ℕ)) → LastOfList ds t → behind bar t ≡ o → IfSome o (λ rest. t ≡ bar ∷ rest) → IfErr (end_at read_tail ds o t) (Blames whole)
    end_blames ds t (Some u) l e h =
        let place = tail_due ds t u l h in
        let few = few_elements ds t l in
        bind_blames (λ (x : Datum × List ℕ). TailRead n ds (after_gap false u) x.0 x.1) (Blames whole) (read_tail ds (after_gap false u)) _ (tail_reads ds (after_gap false u)) (tails ds (after_gap false u) few place)
        (λ x tail. bind_any (Blames whole) (expect close_bracket (after_gap false x.1)) _ (expect_blames whole close_bracket (after_gap false x.1) (after_tail (length ds) (length l.before) (after_gap false u) tail.tail x.1 (element_count in_list MAX_LIST refl l.before l.text ds l.behind l.item) place tail.spelled (tail_count ds (after_gap false u) x.0 x.1 few tail))) (λ rest. tt))
    end_blames ds t None l e h =
        bind_any (Blames whole) (expect close_bracket t) _
        (expect_blames whole close_bracket t (λ no. after_elements in_list MAX_LIST refl (ds, t) l (λ f. elim f [ inl c ↦ l.no_comma c | inr more ↦ elim more [ inl b ↦ none_behind bar t e b | inr c ↦ no c ] ])))
        (λ rest. tt)

    list_end_blames : (ds : List Datum) (t : List ℕ) → LastOfList ds t → IfErr (list_end read_tail ds t) (Blames whole)
    unfolding list_end
    list_end_blames ds t l = end_blames ds t (behind bar t) l refl (behind_holds bar t)

    list_from_blames : (front : List Datum) (g : List ℕ) (o : Option (List ℕ)) → length front ≤ MAX_LIST → behind close_bracket g ≡ o → (¬ BeginsWith close_bracket g → Due whole (an_element in_list n (length front)) g) → IfErr (list_from read read_tail front o g) (Blames whole)
    list_from_blames front g (Some rest) few e d = tt
    list_from_blames front g None few e d =
        let here = d (none_behind close_bracket g e) in
        bind_blames (LastElement in_list MAX_LIST refl) (Blames whole) (elements_at read MAX_LIST front g) _ (last_element in_list MAX_LIST refl front g few here) (elements_blame in_list MAX_LIST refl front g few here)
        (λ x l. list_end_blames x.0 x.1 l)

    list_blames : (front : List Datum) (text : List ℕ) → length front ≤ MAX_LIST → Due whole (a_term (suc n) (length front)) (open_bracket ∷ text) → IfErr (list_at read read_tail front text) (Blames whole)
    unfolding list_at
    list_blames front text few d = list_from_blames front (after_gap false text) (behind close_bracket (after_gap false text)) few refl (λ unclosed. due.in_brackets d (whole_gap text) unclosed)

  -- ---- maps

  -- the pairs read so far, in any order
  record PairDue (es : List (Datum × Datum)) (text : List ℕ) : Type 0 where
    seen : List (Datum × Datum)
    permuted : IsPermutation es seen
    few : length es ≤ MAX_MAP
    place : Due whole (a_pair n seen) text

  pair_few : (es : List (Datum × Datum)) (text : List ℕ) (g : PairDue es text) (key : Datum) (t : List ℕ) → 0 < MAX_MAP - length es → length g.seen < MAX_MAP
  pair_few es text g key t room = let len = length_permutation es g.seen g.permuted in omega arith

  twice : (es : List (Datum × Datum)) (text : List ℕ) (key : Datum) (t : List ℕ) → PairDue es text → Spelled n text key t → 0 < MAX_MAP - length es → has_key key es ≡ true → IsKeyTwice whole text
  twice es text key t g s room h = let one = has_one key es h in key_twice g.place (pair_few es text g key t room) s (Contains-permutation es g.seen (key, one.0) g.permuted one.1)

  key_due : (es : List (Datum × Datum)) (text : List ℕ) → PairDue es text → TermDue whole n (MAX_MAP - length es) text
  key_due es text g =
      let len = length_permutation es g.seen g.permuted in
      record {
        due_here = λ room. due.key g.place (omega arith);
        deep = λ none b. deep_key (subst (λ m. Due whole (a_pair m g.seen) text) none g.place) b;
        long = λ some none b. one_pair g.place some (let few = g.few in omega arith) b;
        other = λ no. no_key g.place no;
      }

  pair_blames : (es : List (Datum × Datum)) (text : List ℕ) → PairDue es text → IfErr (pair_at read es text) (Blames whole)
  unfolding pair_at
  pair_blames es text g =
      bind_blames (λ (k : Datum × List ℕ). Spelled n text k.0 k.1 × (0 < MAX_MAP - length es)) (Blames whole) (read (MAX_MAP - length es) text) _ (reads (MAX_MAP - length es) text)
      (blames (MAX_MAP - length es) text (key_due es text g))
      (λ k key. if_blames (Blames whole) (has_key k.0 es) _ _ (λ h. at_once text (twice es text k.0 k.1 g key.0 key.1 h))
      (λ fresh. let few = pair_few es text g k.0 k.1 key.1 in let new = is_new k.0 es g.seen g.permuted fresh in bind_blames (λ (rest : List ℕ). after_gap false k.1 ≡ equals ∷ greater ∷ rest) (Blames whole) (expect_both equals greater (after_gap false k.1)) _ (expect_both_holds equals greater (after_gap false k.1))
      (expect_both_blames whole equals greater (after_gap false k.1) (λ no. after_key g.place few new key.0 (whole_gap k.1) no))
      (λ rest e. bind_any (Blames whole) (read 1 (after_gap false rest)) _
      (blames 1 (after_gap false rest) (one_due whole n (after_gap false rest) (due.value g.place few new key.0 (gap_before equals (greater ∷ rest) (whole_gap k.1) e) (whole_gap rest))))
      (λ v. tt))))

  next_pair_due : (s : List (Datum × Datum)) (text : List ℕ) (u : List (Datum × Datum)) (t w rest : List ℕ) → PairDue s text → PairRead n s text u t → Gap t (comma ∷ w) → WholeGap w rest → PairDue u rest
  next_pair_due s text u t w rest g p gap b =
      let put : IsPermutation ((p.key, p.value) ∷ s) u = rw p.made (put_permutes p.key p.value s p.fresh) in
      record {
        seen = (p.key, p.value) ∷ g.seen;
        permuted = IsPermutation-trans u ((p.key, p.value) ∷ s) ((p.key, p.value) ∷ g.seen) (IsPermutation-sym ((p.key, p.value) ∷ s) u put) (IsPermutation-cons (p.key, p.value) s g.seen g.permuted);
        few = let len = length_permutation ((p.key, p.value) ∷ s) u put in let room = p.room in omega arith;
        place = due.next_pair g.place (let len = length_permutation s g.seen g.permuted in let room = p.room in omega arith) (is_new p.key s g.seen g.permuted p.fresh) p.spelled gap b;
      }

  -- the last of some pairs, and what follows it
  abbrev LastPair : List (Datum × Datum) × List ℕ → Type 0
  LastPair x = LastItem (PairRead n) PairDue x.0 x.1

  no_pairs : (text : List ℕ) → Due whole (a_pair n []) text → PairDue [] text
  no_pairs text d = record { seen = []; permuted = IsPermutation-refl []; few = omega arith; place = d }

  after_pairs : (x : List (Datum × Datum) × List ℕ) → LastPair x → ¬ BeginsWith close_brace x.1 → IsUnexpected whole x.1
  after_pairs x l no_end =
      let len = length_permutation l.before l.good.seen l.good.permuted in
      behind_pair l.good.place (let room = l.item.room in omega arith) (is_new l.item.key l.before l.good.seen l.good.permuted l.item.fresh) l.item.spelled l.gap l.no_comma no_end

  pairs_blame : (g : List ℕ) (o : Option (List ℕ)) → behind close_brace g ≡ o → (¬ BeginsWith close_brace g → Due whole (a_pair n []) g) → IfErr (pairs_at read o g) (Blames whole)
  pairs_blame g (Some rest) e d = tt
  pairs_blame g None e d =
      let here = no_pairs g (d (none_behind close_brace g e)) in
      bind_blames LastPair (Blames whole) (all_steps (separated (pair_at read)) [] g) _
      (separated_last (pair_at read) (PairRead n) PairDue (pair_holds n read reads) next_pair_due [] g here)
      (separated_blames (pair_at read) (PairRead n) PairDue (pair_holds n read reads) next_pair_due (Blames whole) (pair_shrinks n read reads) pair_blames [] g here)
      (λ x l. bind_any (Blames whole) (expect close_brace x.1) _ (expect_blames whole close_brace x.1 (after_pairs x l)) (λ rest. tt))

  map_blames : (k : ℕ) (text : List ℕ) → Due whole (a_term (suc n) k) (number_sign ∷ open_brace ∷ text) → IfErr (map_at read text) (Blames whole)
  unfolding map_at
  map_blames k text d =
      bind_any (Blames whole) (pairs_at read (behind close_brace (after_gap false text)) (after_gap false text)) _
      (pairs_blame (after_gap false text) (behind close_brace (after_gap false text)) refl (λ unclosed. due.in_map d (whole_gap text) unclosed)) (λ x. tt)

  -- ---- terms

  module _ (read_tail : TailReader) (tails : BlamesTail whole n read_tail) (tail_reads : IsTailReader n read_tail) where
    form_blames : (o : Opening) (text rest : List ℕ) → Opens o text rest → Due whole (a_term (suc n) 0) text → IfErr (form_at read read_tail n o rest) (Blames whole)
    form_blames opens.Integer text rest h d = integer_term_blames whole text rest n 0 h d
    form_blames opens.Word text rest h d = word_term_blames whole text rest n 0 h d
    form_blames opens.QuotedAtom text rest h d = quoted_atom_blames whole rest n 0 (rw h at d)
    form_blames opens.String text rest h d = string_blames whole rest n [] (omega arith) (rw h at d)
    form_blames opens.Tuple text rest h d = tuple_blames 0 rest (rw h at d)
    form_blames opens.List text rest h d = list_blames read_tail tails tail_reads [] rest (omega arith) (rw h at d)
    form_blames opens.Map text rest h d = map_blames 0 rest (rw h at d)
    form_blames opens.Binary text rest h d = binary_blames whole rest n 0 (rw h at d)

    tail_form_blames : (front : List Datum) (o : Opening) (text rest : List ℕ) → length front ≤ MAX_LIST → Opens o text rest → Due whole (a_term (suc n) (length front)) text → IfErr (tail_form read read_tail n front o rest) (Blames whole)
    tail_form_blames front opens.Integer text rest few h d = bind_any (Blames whole) (integer_term_at rest) _ (integer_term_blames whole text rest n (length front) h d) (λ x. tt)
    tail_form_blames front opens.Word text rest few h d = bind_any (Blames whole) (word_term_at rest) _ (word_term_blames whole text rest n (length front) h d) (λ x. tt)
    tail_form_blames front opens.QuotedAtom text rest few h d = bind_any (Blames whole) (quoted_atom_at rest) _ (quoted_atom_blames whole rest n (length front) (rw h at d)) (λ x. tt)
    tail_form_blames front opens.String text rest few h d = string_blames whole rest n front few (rw h at d)
    tail_form_blames front opens.Tuple text rest few h d = bind_any (Blames whole) (tuple_at read rest) _ (tuple_blames (length front) rest (rw h at d)) (λ x. tt)
    tail_form_blames front opens.List text rest few h d = list_blames read_tail tails tail_reads front rest few (rw h at d)
    tail_form_blames front opens.Map text rest few h d = bind_any (Blames whole) (map_at read rest) _ (map_blames (length front) rest (rw h at d)) (λ x. tt)
    tail_form_blames front opens.Binary text rest few h d = bind_any (Blames whole) (binary_at rest) _ (binary_blames whole rest n (length front) (rw h at d)) (λ x. tt)

mutual
  unfolding term_at tail_at

  term_blames : (whole : List ℕ) (n : ℕ) → BlamesTerm whole n (term_at n)
  term_blames whole zero room text d =
      bind_blames (λ (o : Opening × List ℕ). Opens o.0 text o.1 × (0 < 0) × (0 < room)) (Blames whole) (enter 0 room text) _ (enter_holds 0 room text)
      (enter_blames whole 0 room text d.other (λ b none. d.deep none b) (λ b some none. d.long some none b)) (λ o h. absurd (let none = h.1 in omega arith))
  term_blames whole (suc n) room text d =
      bind_blames (λ (o : Opening × List ℕ). Opens o.0 text o.1 × (0 < suc n) × (0 < room)) (Blames whole) (enter (suc n) room text) _ (enter_holds (suc n) room text)
      (enter_blames whole (suc n) room text d.other (λ b none. absurd (omega arith)) (λ b some none. d.long some none b))
      (λ o h. form_blames whole n (term_at n) (term_holds n) (term_blames whole n) (tail_at n) (tail_blames whole n) (tail_holds n) o.0 text o.1 h.0 (d.due_here h.2))

  tail_blames : (whole : List ℕ) (n : ℕ) → BlamesTail whole n (tail_at n)
  tail_blames whole zero front text few d =
      bind_blames (λ (o : Opening × List ℕ). Opens o.0 text o.1 × (0 < 0) × (0 < 1)) (Blames whole) (enter 0 1 text) _ (enter_holds 0 1 text)
      (enter_blames whole 0 1 text (λ no. no_term d no) (λ b _. deep_term d b) (λ b some none. absurd (omega arith))) (λ o h. absurd (let none = h.1 in omega arith))
  tail_blames whole (suc n) front text few d =
      bind_blames (λ (o : Opening × List ℕ). Opens o.0 text o.1 × (0 < suc n) × (0 < 1)) (Blames whole) (enter (suc n) 1 text) _ (enter_holds (suc n) 1 text)
      (enter_blames whole (suc n) 1 text (λ no. no_term d no) (λ b none. absurd (omega arith)) (λ b some none. absurd (omega arith)))
      (λ o h. tail_form_blames whole n (term_at n) (term_holds n) (term_blames whole n) (tail_at n) (tail_blames whole n) (tail_holds n) front o.0 text o.1 few h.0 d)

-- ---- whole texts

no_dot_here : (c : ℕ) (cs : List ℕ) → (c == dot && begins_gap cs) ≡ false → ¬ BeginsDot (c ∷ cs)
no_dot_here c cs n h = let both : (c == dot && begins_gap cs) ≡ true = rw (eq-eqb c dot h.0, begins_from cs h.1) refl in absurd cc

dot_blames : (whole text : List ℕ) → (¬ BeginsDot text → IsUnexpected whole text) → IfErr (dot_at text) (Blames whole)
dot_blames whole [] h = at_once [] (h (λ d. d))
dot_blames whole (c ∷ cs) h = if_blames (Blames whole) (c == dot && begins_gap cs) _ _ (λ _. tt) (λ n. at_once (c ∷ cs) (h (no_dot_here c cs n)))

sentence_blames : (whole : List ℕ) (c : ℕ) (cs : List ℕ) → Due whole a_sentence (c ∷ cs) → IfErr (sentence_at (c ∷ cs)) (Blames whole)
unfolding sentence_at
sentence_blames whole c cs d =
    bind_blames (λ (x : Datum × List ℕ). Spelled MAX_DEPTH (c ∷ cs) x.0 x.1 × (0 < 1)) (Blames whole) (term_at MAX_DEPTH 1 (c ∷ cs)) _ (term_holds MAX_DEPTH 1 (c ∷ cs)) (term_blames whole MAX_DEPTH 1 (c ∷ cs) (one_due whole MAX_DEPTH (c ∷ cs) (due.outermost d)))
    (λ x s. bind_any (Blames whole) (dot_at (after_gap false x.1)) _ (dot_blames whole (after_gap false x.1) (λ no. no_dot d s.0 (whole_gap x.1) no)) (λ rest. tt))

abbrev SentenceDue : List ℕ → List Datum → List ℕ → Type 0
SentenceDue whole ds text = Due whole a_sentence text

step_good : (whole : List ℕ) (ds : List Datum) (text : List ℕ) → SentenceDue whole ds text → IfOk (sentence_step ds text) (StaysGood sentence_step (SentenceDue whole) (Blames whole))
unfolding sentence_step
step_good whole ds [] d = λ no. absurd cc
step_good whole ds (c ∷ cs) d =
    bind_holds (λ (x : Datum × List ℕ). SentenceRead (c ∷ cs) x.0 x.1) (StaysGood sentence_step (SentenceDue whole) (Blames whole)) (sentence_at (c ∷ cs)) _ (sentence_holds (c ∷ cs))
    (λ x s. λ goes. due.behind_dot d s.spelled s.gap s.begins (whole_gap x.1))

step_blames : (whole : List ℕ) (ds : List Datum) (text : List ℕ) → SentenceDue whole ds text → IfErr (sentence_step ds text) (Blames whole)
unfolding sentence_step
step_blames whole ds [] d = tt
step_blames whole ds (c ∷ cs) d = bind_any (Blames whole) (sentence_at (c ∷ cs)) _ (sentence_blames whole c cs d) (λ x. tt)

pub text_blames : (text : List ℕ) → IfErr (text_at text) (Blames text)
unfolding text_at
text_blames text =
    bind_any (Blames text) (all_steps sentence_step [] (after_gap false text)) _
    (steps_blame sentence_step (SentenceDue text) (Blames text) sentence_shrinks (step_good text) (step_blames text) (suc (length (after_gap false text))) [] (after_gap false text) (omega arith) (due.first (whole_gap text)))
    (λ x. tt)

-- ---- from characters to bytes

stands : (left : ℕ) (text : List ℕ) (IsSuch : List ℕ → Type 0) → Left left IsSuch → ((rest : List ℕ) → IsSuch rest → EndsIn text rest) → StandsAt (length (encode_utf8_all (take (length text - left) text))) text IsSuch
stands left text IsSuch l ends =
    let e = ends l.rest l.such in
    let len : length text ≡ length e.front + length l.rest = ap length e.whole ∙ length-append e.front l.rest in
    let count : length e.front ≡ length text - left = let h = l.here in omega arith in
    let front : take (length text - left) text ≡ e.front = ap (take (length text - left)) e.whole ∙ take_at e.front l.rest (length text - left) count in
    record { front = e.front; rest = l.rest; whole = e.whole; place = ap (λ (t : List ℕ). length (encode_utf8_all t)) front; such = l.such }

deep_ends : (text rest : List ℕ) → IsTooDeep text rest → EndsIn text rest
deep_ends text rest (deep_term d b) = due_ends d
deep_ends text rest (deep_element d b) = due_ends d
deep_ends text rest (deep_key d b) = due_ends d
deep_ends text rest (deep_character d n) = due_ends d

long_ends : (text rest : List ℕ) → IsTooLong text rest → EndsIn text rest
long_ends text rest (one_element d s e b) = due_ends d
long_ends text rest (one_pair d s e b) = due_ends d
long_ends text rest (one_byte d e b) = due_ends d
long_ends text rest (one_character d s e n) = due_ends d
long_ends text rest (one_letter d e w) = due_ends d

twice_ends : (text rest : List ℕ) → IsKeyTwice text rest → EndsIn text rest
twice_ends text rest (key_twice d r s h) = due_ends d

range_ends : (text rest : List ℕ) → IsOutOfRange text rest → EndsIn text rest
range_ends text rest (wide_term d s w) = due_ends d
range_ends text rest (wide_segment d r w) = due_ends d
range_ends text rest (no_byte d r i n) = due_ends d
range_ends text rest (no_byte_character d r l) = due_ends d

escape_ends : (text rest : List ℕ) → IsNoEscape text rest → EndsIn text rest
escape_ends text rest (no_escape d r s n) = due_ends d

unexpected_ends : (text rest : List ℕ) → IsUnexpected text rest → EndsIn text rest
unexpected_ends text rest (no_character d) = due_ends d
unexpected_ends text rest (no_escaped d l f) = ends_behind backslash (due_ends d)
unexpected_ends text rest (no_term d b) = due_ends d
unexpected_ends text rest (no_element d b) = due_ends d
unexpected_ends text rest (no_key d b) = due_ends d
unexpected_ends text rest (no_segment d b q) = due_ends d
unexpected_ends text rest (behind_element d l s g n) = then (due_ends d) (then (spelled_ends s) (whole_gap_ends g))
unexpected_ends text rest (behind_tail d s l g n) = then (due_ends d) (then (spelled_ends s) (whole_gap_ends g))
unexpected_ends text rest (after_key d l f s g n) = then (due_ends d) (then (spelled_ends s) (whole_gap_ends g))
unexpected_ends text rest (behind_pair d l f p g c n) = then (due_ends d) (then (pair_ends p) (whole_gap_ends g))
unexpected_ends text rest (behind_segment d s l g c n) = then (due_ends d) (then (segment_ends s) (whole_gap_ends g))
unexpected_ends text rest (no_dot d s g n) = then (due_ends d) (then (spelled_ends s) (whole_gap_ends g))

has_cause_in : (bytes text : List ℕ) (cause : Cause) (left : ℕ) → text ≡ chars bytes → Blames text (cause, left) → HasCause bytes (fault_of (stops.At cause left) text)
has_cause_in bytes text causes.TooDeep left e b = rw (← e) (stands left text (IsTooDeep text) b (deep_ends text))
has_cause_in bytes text causes.TooLong left e b = rw (← e) (stands left text (IsTooLong text) b (long_ends text))
has_cause_in bytes text causes.DuplicateKey left e b = rw (← e) (stands left text (IsKeyTwice text) b (twice_ends text))
has_cause_in bytes text causes.Syntax left e b = rw (← e) (stands left text (IsUnexpected text) b (unexpected_ends text))
has_cause_in bytes text causes.IntegerRange left e b = rw (← e) (stands left text (IsOutOfRange text) b (range_ends text))
has_cause_in bytes text causes.UnsupportedEscape left e b = rw (← e) (stands left text (IsNoEscape text) b (escape_ends text))

pub has_cause : (bytes text : List ℕ) (stop : Stop) → text ≡ chars bytes → Fails stop (text_at text) → HasCause bytes (fault_of stop text)
has_cause bytes text stops.Memory e f = tt
has_cause bytes text (stops.At cause left) e f = has_cause_in bytes text cause left e (IfErr-at_err (Blames text) f (text_blames text))
