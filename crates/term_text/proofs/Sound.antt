-- What is read is spelled so.
use Rattle.std.proofs.Common.{◌≡◌, ◌&&◌, cond, ℕ, zero, suc, ◌+◌, ◌-◌, ◌≤◌, ◌<◌, Bool, true, false, List, [], ◌∷◌, ◌++◌, length, Option, Some, None, Ok, ℤ, pos, negsuc, refl, ap, ◌∙◌, arith, append_assoc}
use Rattle.std.proofs.Common.{map as each}
use Rattle.std.specs.Prelude.{IfOk, IfSome, ◌==◌, nat_lt}
use Rattle.std.proofs.lemmas.Bool.{eqb-true, eqb-false, ne_eqb, ltb-true, leb-true, and_parts}
use Rattle.std.proofs.lemmas.List.{length-append, length-map, append-nil, nil_from_length}
use Rattle.std.specs.List.{AllByRecursion}
use Rattle.term_core.specs.Datum.{Datum, items_of, entries_of, cells, cell_count}
use Rattle.term_core.specs.Datum.Datum.{integer, atom, tuple, map, nil, binary}
use Rattle.term_core.specs.declared.TheConstants.{MAX_CHARACTERS, MAX_TUPLE, MAX_MAP, MAX_LIST, MAX_BINARY}
use Rattle.term_text.specs.Character.{is_word, equals, single_quote, double_quote, open_brace, close_brace, open_bracket, close_bracket, bar, number_sign, less, greater}
use Rattle.term_text.specs.declared.token.Opening.{Opening}
use Rattle.term_text.specs.declared.token.Opening.TheVariants as opens
use Rattle.term_text.specs.Tokens.{Gap, Quoted, Run, Integer}
use Rattle.term_text.specs.Text.{Segment, Segments, Spelled, Elements, Pair, Pairs, code_point}
use Rattle.term_text.specs.Tokens.Quoted.{closed, plain, escape}
use Rattle.term_text.specs.Text.Segment.{a_byte, some_bytes}
use Rattle.term_text.specs.Text.Segments.{last_segment, more_segments}
use Rattle.term_text.specs.Text.Spelled.{an_integer, a_word, a_quoted_atom, an_empty_string, a_string, an_empty_tuple, a_tuple, an_empty_list, a_list, a_list_with_tail, an_empty_map, a_map, an_empty_binary, a_binary}
use Rattle.term_text.specs.Text.Elements.{last, more as more_elements}
use Rattle.std.specs.List.Sorted.{IsPermutation}
use Rattle.std.specs.BTreeMap.{insert_entry}
use Rattle.std.proofs.lemmas.List.Sorted.{IsPermutation-sym, IsPermutation-trans, IsPermutation-middle, IsPermutation-append_right, length_permutation}
use Rattle.term_core.specs.Order.{datum_cmp}
use Rattle.term_text.specs.Text.Pair.{arrow}
use Rattle.term_text.specs.Text.Pairs.{last_pair, more_pairs}
use Rattle.term_text.proofs.Keys.{AreRising, put_permutes, put_rises}
use Rattle.term_text.specs.TokenReading.{all_steps, Fault, Read, is_allowed, integer_at, word_at, after_both, expect_both, ◌>>=◌, after_gap, behind, expect, opening, quoted_at}
use Rattle.term_text.specs.Reading.{has_key, pair_at, pairs_at, byte_of, byte_at, byte_marks, segment_as, segment_at, segments_at, bytes_at, binary_at, map_at, TermReader, TailReader, enter, enter_as, atom_marks, string_marks, string_at, integer_term_at, word_term_at, quoted_atom_at, element_at, elements_at, separated, items_at, tuple_at, list_at, list_end, list_from, end_at, form_at, tail_form, term_at, tail_at}
use Rattle.term_text.proofs.Steps.{bind_holds, if_holds, weaker, Shrinks}
use Rattle.term_text.proofs.Tokens.{Reads, quoted_holds}
use Rattle.term_text.proofs.Items.{Items, gap_some, separated_holds, separated_shrinks}
use Rattle.term_text.proofs.Items.Items.{one, more}
use Rattle.term_text.proofs.Words.{Opens, opening_holds, behind_holds, integer_holds, word_holds, BeginsWord, BeginsInteger}
use Rattle.term_text.proofs.Shorter.{spelled_shorter, elements_shorter, segment_shorter, segments_shorter, pair_shorter, pairs_shorter}

enter_as_holds : (levels room : ℕ) (text : List ℕ) (o : Option (Opening × List ℕ)) → IfSome o (λ o. Opens o.0 text o.1) → IfOk (enter_as levels room text o) (λ o. Opens o.0 text o.1 × (0 < levels) × (0 < room))
enter_as_holds levels room text None h = tt
enter_as_holds levels room text (Some o) h =
    if_holds (λ (o : Opening × List ℕ). Opens o.0 text o.1 × (0 < levels) × (0 < room)) (levels == 0) _ _ (λ _. tt)
    (λ l. if_holds (λ (o : Opening × List ℕ). Opens o.0 text o.1 × (0 < levels) × (0 < room)) (room == 0) _ _ (λ _. tt)
    (λ r. let a = eqb-false levels 0 l in let b = eqb-false room 0 r in (h, omega arith, omega arith)))

pub enter_holds : (levels room : ℕ) (text : List ℕ) → IfOk (enter levels room text) (λ o. Opens o.0 text o.1 × (0 < levels) × (0 < room))
unfolding enter
enter_holds levels room text = enter_as_holds levels room text (opening text) (opening_holds text)

pub expect_holds : (a : ℕ) (text : List ℕ) → IfOk (expect a text) (λ rest. text ≡ a ∷ rest)
expect_holds a [] = tt
expect_holds a (c ∷ cs) = if_holds (λ rest. c ∷ cs ≡ a ∷ rest) (c == a) _ _ (λ e. ap (λ (x : ℕ). x ∷ cs) (eqb-true c a e)) (λ _. tt)

-- a reader of terms gives what the text spells
abbrev pub IsReader : ℕ → TermReader → Type 0
IsReader n read = (room : ℕ) (text : List ℕ) → IfOk (read room text) (λ x. Spelled n text x.0 x.1 × (0 < room))

-- a list that goes on with a tail
pub record TailRead (n : ℕ) (front : List Datum) (text : List ℕ) (e : Datum) (rest : List ℕ) : Type 0 where
  pub tail : Datum
  pub joined : e ≡ cells front tail
  pub spelled : Spelled n text tail rest
  pub within : length front ≤ MAX_LIST → cell_count (cells front tail) ≤ MAX_LIST

abbrev pub IsTailReader : ℕ → TailReader → Type 0
IsTailReader n read = (front : List Datum) (text : List ℕ) → IfOk (read front text) (λ x. TailRead n front text x.0 x.1)

-- a term that is no list
abbrev pub Alone : ℕ → List ℕ → Datum → List ℕ → Type 0
Alone n text d rest = Spelled (suc n) text d rest × (cell_count d ≡ 0)

pub cells-append : (ds es : List Datum) (tail : Datum) → cells (ds ++ es) tail ≡ cells ds (cells es tail)
cells-append [] es tail = refl
cells-append (d ∷ ds) es tail = ap (λ (t : Datum). Rattle.term_core.specs.Datum.Datum.cons d t) (cells-append ds es tail)

pub cell_count-cells : (ds : List Datum) (tail : Datum) → cell_count (cells ds tail) ≡ length ds + cell_count tail
cell_count-cells [] tail = omega arith
cell_count-cells (d ∷ ds) tail = omega (arith, cell_count-cells ds tail)

-- ---- elements

-- one more element was read
pub record ElementRead (n limit : ℕ) (front : List Datum) (text : List ℕ) (ds : List Datum) (rest : List ℕ) : Type 0 where
  pub element : Datum
  pub made : ds ≡ front ++ element ∷ []
  pub spelled : Spelled n text element rest
  pub room : length front < limit

pub record ElementsRead (n limit : ℕ) (front : List Datum) (text : List ℕ) (ds : List Datum) (rest : List ℕ) : Type 0 where
  pub more : List Datum
  pub joined : ds ≡ front ++ more
  pub elements : Elements n text more rest
  pub within : length ds ≤ limit

element_begun : (n limit : ℕ) (s : List Datum) (text : List ℕ) (u : List Datum) (rest : List ℕ) → ElementRead n limit s text u rest → length rest < length text
element_begun n limit s text u rest r = spelled_shorter r.spelled

elements_from : (n limit : ℕ) {front ds : List Datum} {text rest : List ℕ} → Items (ElementRead n limit) front text ds rest → ElementsRead n limit front text ds rest
elements_from n limit (one {s} r g) = record {
  more = r.element ∷ [];
  joined = r.made;
  elements = last r.spelled g;
  within = let e = ap length r.made in let room = r.room in omega (arith, length-append s (r.element ∷ []));
}
elements_from n limit (more {s} r g h is) =
    let m = elements_from n limit is in
    record {
      more = r.element ∷ m.more;
      joined = m.joined ∙ ap (λ (t : List Datum). t ++ m.more) r.made ∙ append_assoc s (r.element ∷ []) m.more;
      elements = more_elements r.spelled g h m.elements;
      within = m.within;
    }

module _ (n : ℕ) (read : TermReader) (reads : IsReader n read) where
  pub element_holds : (limit : ℕ) (front : List Datum) (text : List ℕ) → IfOk (element_at read limit front text) (λ x. ElementRead n limit front text x.0 x.1)
  unfolding element_at
  element_holds limit front text =
      bind_holds (λ (x : Datum × List ℕ). Spelled n text x.0 x.1 × (0 < limit - length front)) (λ (x : List Datum × List ℕ). ElementRead n limit front text x.0 x.1) (read (limit - length front) text) _ (reads (limit - length front) text)
      (λ x h. record { element = x.0; made = refl; spelled = h.0; room = let some = h.1 in omega arith })

  pub element_shrinks : (limit : ℕ) → Shrinks (separated (element_at read limit))
  element_shrinks limit = separated_shrinks (ElementRead n limit) (element_at read limit) (element_holds limit) (element_begun n limit)

  pub elements_hold : (limit : ℕ) (front : List Datum) (text : List ℕ) → IfOk (elements_at read limit front text) (λ x. 0 < length x.1 → ElementsRead n limit front text x.0 x.1)
  elements_hold limit front text =
      weaker (λ (x : List Datum × List ℕ). 0 < length x.1 → Items (ElementRead n limit) front text x.0 x.1) _ (elements_at read limit front text) (λ x h some. elements_from n limit (h some))
      (separated_holds (ElementRead n limit) (element_at read limit) (element_holds limit) (element_begun n limit) front text)

  -- ---- tuples

  pub items_hold : (text g : List ℕ) (o : Option (List ℕ)) → (0 < length g → Gap text g) → IfSome o (λ rest. g ≡ close_brace ∷ rest) → IfOk (items_at read o g) (λ x. Spelled (suc n) (open_brace ∷ text) (tuple (items_of x.0)) x.1)
  items_hold text g (Some rest) gap h = an_empty_tuple (rw h at (gap (rw h (omega arith))))
  items_hold text g None gap h =
      bind_holds (λ (x : List Datum × List ℕ). 0 < length x.1 → ElementsRead n MAX_TUPLE [] g x.0 x.1) (λ (x : List Datum × List ℕ). Spelled (suc n) (open_brace ∷ text) (tuple (items_of x.0)) x.1) (elements_at read MAX_TUPLE [] g) _ (elements_hold MAX_TUPLE [] g)
      (λ x r. bind_holds (λ (rest : List ℕ). x.1 ≡ close_brace ∷ rest) (λ (y : List Datum × List ℕ). Spelled (suc n) (open_brace ∷ text) (tuple (items_of y.0)) y.1) (expect close_brace x.1) _ (expect_holds close_brace x.1)
      (λ rest e.
      let m = r (rw e (omega arith)) in
      let es = rw e at m.elements in
      let within = m.within in
      rw m.joined (a_tuple (gap (let lt = elements_shorter es in omega arith)) es (rw m.joined at within))))

  pub tuple_holds : (text : List ℕ) → IfOk (tuple_at read text) (λ x. Alone n (open_brace ∷ text) x.0 x.1)
  unfolding tuple_at
  tuple_holds text =
      bind_holds (λ (x : List Datum × List ℕ). Spelled (suc n) (open_brace ∷ text) (tuple (items_of x.0)) x.1) (λ (x : Datum × List ℕ). Alone n (open_brace ∷ text) x.0 x.1) (items_at read (behind close_brace (after_gap false text)) (after_gap false text)) _
      (items_hold text (after_gap false text) (behind close_brace (after_gap false text)) (gap_some text) (behind_holds close_brace (after_gap false text)))
      (λ x h. (h, refl))

  -- ---- lists

  module _ (read_tail : TailReader) (tails : IsTailReader n read_tail) where
    end_holds : (front : List Datum) (text g : List ℕ) (ds : List Datum) (t : List ℕ) (o : Option (List ℕ)) → (0 < length g → Gap text g) → (0 < length t → ElementsRead n MAX_LIST front g ds t) → IfSome o (λ rest. t ≡ bar ∷ rest) → IfOk (end_at read_tail ds o t) (λ x. TailRead (suc n) front (open_bracket ∷ text) x.0 x.1)
    end_holds front text g ds t (Some u) gap found h =
        bind_holds (λ (x : Datum × List ℕ). TailRead n ds (after_gap false u) x.0 x.1) (λ (x : Datum × List ℕ). TailRead (suc n) front (open_bracket ∷ text) x.0 x.1) (read_tail ds (after_gap false u)) _ (tails ds (after_gap false u))
        (λ x r. bind_holds (λ (rest : List ℕ). after_gap false x.1 ≡ close_bracket ∷ rest) (λ (y : Datum × List ℕ). TailRead (suc n) front (open_bracket ∷ text) y.0 y.1) (expect close_bracket (after_gap false x.1)) _ (expect_holds close_bracket (after_gap false x.1))
        (λ rest e.
        let m = found (rw h (omega arith)) in
        let es = rw h at m.elements in
        let regrouped : cells ds r.tail ≡ cells front (cells m.more r.tail) = ap (λ (l : List Datum). cells l r.tail) m.joined ∙ cells-append front m.more r.tail in
        let count : cell_count (cells ds r.tail) ≤ MAX_LIST = r.within m.within in
        let fewer : cell_count (cells m.more r.tail) ≤ MAX_LIST = let k = ap cell_count regrouped in omega (arith, cell_count-cells front (cells m.more r.tail)) in
        let last_gap = gap_some x.1 (rw e (omega arith)) in
        record {
          tail = cells m.more r.tail;
          joined = r.joined ∙ regrouped;
          spelled = a_list_with_tail (gap (let lt = elements_shorter es in omega arith)) es (gap_some u (let lt = spelled_shorter r.spelled in omega arith)) r.spelled (rw e at last_gap) fewer;
          within = λ _. rw (← regrouped) count;
        }))
    end_holds front text g ds t None gap found h =
        bind_holds (λ (rest : List ℕ). t ≡ close_bracket ∷ rest) (λ (y : Datum × List ℕ). TailRead (suc n) front (open_bracket ∷ text) y.0 y.1) (expect close_bracket t) _ (expect_holds close_bracket t)
        (λ rest e.
        let m = found (rw e (omega arith)) in
        let es = rw e at m.elements in
        let regrouped : cells ds nil ≡ cells front (cells m.more nil) = ap (λ (l : List Datum). cells l nil) m.joined ∙ cells-append front m.more nil in
        let len : length ds ≡ length front + length m.more = ap length m.joined ∙ length-append front m.more in
        let within = m.within in
        record {
          tail = cells m.more nil;
          joined = regrouped;
          spelled = a_list (gap (let lt = elements_shorter es in omega arith)) es (omega arith);
          within = λ _. let c = cell_count-cells front (cells m.more nil) in let d = cell_count-cells m.more nil in omega arith;
        })

    list_end_holds : (front : List Datum) (text g : List ℕ) (ds : List Datum) (t : List ℕ) → (0 < length g → Gap text g) → (0 < length t → ElementsRead n MAX_LIST front g ds t) → IfOk (list_end read_tail ds t) (λ x. TailRead (suc n) front (open_bracket ∷ text) x.0 x.1)
    unfolding list_end
    list_end_holds front text g ds t gap found = end_holds front text g ds t (behind bar t) gap found (behind_holds bar t)

    list_from_holds : (front : List Datum) (text g : List ℕ) (o : Option (List ℕ)) → (0 < length g → Gap text g) → IfSome o (λ rest. g ≡ close_bracket ∷ rest) → IfOk (list_from read read_tail front o g) (λ x. TailRead (suc n) front (open_bracket ∷ text) x.0 x.1)
    list_from_holds front text g (Some rest) gap h = record {
      tail = nil;
      joined = refl;
      spelled = an_empty_list (rw h at (gap (rw h (omega arith))));
      within = λ l. let c = cell_count-cells front nil in omega arith;
    }
    list_from_holds front text g None gap h =
        bind_holds (λ (x : List Datum × List ℕ). 0 < length x.1 → ElementsRead n MAX_LIST front g x.0 x.1) (λ (x : Datum × List ℕ). TailRead (suc n) front (open_bracket ∷ text) x.0 x.1) (elements_at read MAX_LIST front g) _ (elements_hold MAX_LIST front g)
        (λ x r. list_end_holds front text g x.0 x.1 gap r)

    pub list_holds : (front : List Datum) (text : List ℕ) → IfOk (list_at read read_tail front text) (λ x. TailRead (suc n) front (open_bracket ∷ text) x.0 x.1)
    unfolding list_at
    list_holds front text = list_from_holds front text (after_gap false text) (behind close_bracket (after_gap false text)) (gap_some text) (behind_holds close_bracket (after_gap false text))

-- ---- strings

no_characters : {mark : ℕ} {text cs rest : List ℕ} → Quoted mark text cs rest → length cs ≤ 0 → text ≡ mark ∷ rest
no_characters closed h = refl
no_characters (plain n b q) h = absurd (omega arith)
no_characters (escape e q) h = absurd (omega arith)

some_room : (n before k : ℕ) → k ≤ (string_marks (suc n) before).room → k ≤ MAX_LIST - before
some_room n before k h = let some : (suc n == 0) ≡ false = ne_eqb (suc n) 0 (λ e. omega arith) in rw some at h

spelled_string : (n before : ℕ) (text cs rest : List ℕ) → Reads (string_marks n before) [] text cs rest → Spelled (suc n) (double_quote ∷ text) (cells (each code_point cs) nil) rest
spelled_string zero before text cs rest r =
    let empty : length cs ≤ 0 = r.within (omega arith) in
    let none : cs ≡ [] = nil_from_length cs (omega arith) in
    let closed : text ≡ double_quote ∷ rest = no_characters r.quoted (let e = ap length r.joined in omega arith) in
    rw (none, closed) an_empty_string
spelled_string (suc n) before text cs rest r =
    let few : length cs ≤ MAX_LIST - before = some_room n before (length cs) (r.within (omega arith)) in
    a_string (rw (← r.joined) at r.quoted) (omega arith)

pub room_within : (n before : ℕ) (text cs rest : List ℕ) → Reads (string_marks n before) [] text cs rest → before ≤ MAX_LIST → before + length cs ≤ MAX_LIST
room_within zero before text cs rest r h = let empty : length cs ≤ 0 = r.within (omega arith) in omega arith
room_within (suc n) before text cs rest r h = let few : length cs ≤ MAX_LIST - before = some_room n before (length cs) (r.within (omega arith)) in omega arith

pub string_holds : (n : ℕ) (front : List Datum) (text : List ℕ) → IfOk (string_at n front text) (λ x. TailRead (suc n) front (double_quote ∷ text) x.0 x.1)
unfolding string_at
string_holds n front text =
    bind_holds (λ (x : List ℕ × List ℕ). Reads (string_marks n (length front)) [] text x.0 x.1) (λ (x : Datum × List ℕ). TailRead (suc n) front (double_quote ∷ text) x.0 x.1) (quoted_at (string_marks n (length front)) text) _ (quoted_holds (string_marks n (length front)) text)
    (λ x r. record {
      tail = cells (each code_point x.0) nil;
      joined = cells-append front (each code_point x.0) nil;
      spelled = spelled_string n (length front) text x.0 x.1 r;
      within = λ h. let c = cell_count-cells front (cells (each code_point x.0) nil) in let d = cell_count-cells (each code_point x.0) nil in let l = length-map x.0 code_point in let few = room_within n (length front) text x.0 x.1 r h in omega arith;
    })

-- ---- integers and atoms

integer_term_holds : (n : ℕ) (text rest : List ℕ) → Opens opens.Integer text rest → IfOk (integer_term_at rest) (λ x. Alone n text x.0 x.1)
unfolding integer_term_at
integer_term_holds n text rest o =
    let here : BeginsInteger rest = rw o.0 at o.1 in
    rw o.0 (bind_holds (λ (x : ℤ × List ℕ). Integer rest x.0 x.1) (λ (x : Datum × List ℕ). Alone n rest x.0 x.1) (integer_at rest) _ (integer_holds rest here) (λ x i. (an_integer i, refl)))

spelled_word : (n : ℕ) (text cs rest : List ℕ) → BeginsWord text → Run is_word text cs rest → length cs ≤ MAX_CHARACTERS → Spelled (suc n) text (atom cs) rest
spelled_word n [] cs rest h r l = absurd h
spelled_word n (c ∷ text) cs rest h r l = a_word h r l

word_term_holds : (n : ℕ) (text rest : List ℕ) → Opens opens.Word text rest → IfOk (word_term_at rest) (λ x. Alone n text x.0 x.1)
unfolding word_term_at
word_term_holds n text rest o =
    let here : BeginsWord rest = rw o.0 at o.1 in
    rw o.0 (bind_holds (λ (x : List ℕ × List ℕ). Run is_word rest x.0 x.1 × (length x.0 ≤ MAX_CHARACTERS)) (λ (x : Datum × List ℕ). Alone n rest x.0 x.1) (word_at rest) _ (word_holds rest) (λ x r. (spelled_word n rest x.0 x.1 here r.0 r.1, refl)))

quoted_atom_holds : (n : ℕ) (text : List ℕ) → IfOk (quoted_atom_at text) (λ x. Alone n (single_quote ∷ text) x.0 x.1)
unfolding quoted_atom_at
quoted_atom_holds n text =
    bind_holds (λ (x : List ℕ × List ℕ). Reads atom_marks [] text x.0 x.1) (λ (x : Datum × List ℕ). Alone n (single_quote ∷ text) x.0 x.1) (quoted_at atom_marks text) _ (quoted_holds atom_marks text)
    (λ x r. (a_quoted_atom (rw (← r.joined) at r.quoted) (r.within (omega arith)), refl))

-- ---- binaries

-- one more segment was read
pub record SegmentRead (bytes text cs rest : List ℕ) : Type 0 where
  pub segment : List ℕ
  pub made : cs ≡ bytes ++ segment
  pub spelled : Segment text segment rest
  pub within : length bytes ≤ MAX_BINARY → length cs ≤ MAX_BINARY

pub record SegmentsRead (bytes text cs rest : List ℕ) : Type 0 where
  pub more : List ℕ
  pub joined : cs ≡ bytes ++ more
  pub segments : Segments text more rest
  pub within : length bytes ≤ MAX_BINARY → length cs ≤ MAX_BINARY

segments_from : {bytes cs text rest : List ℕ} → Items SegmentRead bytes text cs rest → SegmentsRead bytes text cs rest
segments_from (one r g) = record { more = r.segment; joined = r.made; segments = last_segment r.spelled g; within = r.within }
segments_from (more {s} r g h is) =
    let m = segments_from is in
    record {
      more = r.segment ++ m.more;
      joined = m.joined ∙ ap (λ (t : List ℕ). t ++ m.more) r.made ∙ append_assoc s r.segment m.more;
      segments = more_segments r.spelled g h m.segments;
      within = λ l. m.within (r.within l);
    }

byte_of_holds : (text rest : List ℕ) (z : ℤ) → Integer text z rest → IfOk (byte_of z text) (λ b. Segment text (b ∷ []) rest)
byte_of_holds text rest (pos b) i = if_holds (λ b. Segment text (b ∷ []) rest) (nat_lt b 256) _ _ (λ l. a_byte i (ltb-true _ _ l)) (λ _. tt)
byte_of_holds text rest (negsuc b) i = tt

pub byte_holds : (text : List ℕ) → BeginsInteger text → IfOk (byte_at text) (λ x. Segment text (x.0 ∷ []) x.1)
unfolding byte_at
byte_holds text h =
    bind_holds (λ (z : ℤ × List ℕ). Integer text z.0 z.1) (λ (x : ℕ × List ℕ). Segment text (x.0 ∷ []) x.1) (integer_at text) _ (integer_holds text h)
    (λ z i. bind_holds (λ (b : ℕ). Segment text (b ∷ []) z.1) (λ (x : ℕ × List ℕ). Segment text (x.0 ∷ []) x.1) (byte_of z.0 text) _ (byte_of_holds text z.1 z.0 i) (λ b s. s))

are_bytes : (cs : List ℕ) → AllByRecursion (λ c. is_allowed true c ≡ true) cs → AllByRecursion (λ b. b < 256) cs
are_bytes [] h = tt
are_bytes (c ∷ cs) h = (let l = leb-true c 255 h.0 in omega arith, are_bytes cs h.1)

segment_as_holds : (bytes text : List ℕ) (o : Option (Opening × List ℕ)) → IfSome o (λ o. Opens o.0 text o.1) → IfOk (segment_as o bytes text) (λ x. SegmentRead bytes text x.0 x.1)
segment_as_holds bytes text None h = tt
segment_as_holds bytes text (Some (opens.Integer, rest)) h =
    if_holds (λ (x : List ℕ × List ℕ). SegmentRead bytes text x.0 x.1) (length bytes == MAX_BINARY) _ _ (λ _. tt)
    (λ f. bind_holds (λ (b : ℕ × List ℕ). Segment text (b.0 ∷ []) b.1) (λ (x : List ℕ × List ℕ). SegmentRead bytes text x.0 x.1) (byte_at text) _ (byte_holds text h.1)
    (λ b s. record { segment = b.0 ∷ []; made = refl; spelled = s; within = λ l. let ne = eqb-false (length bytes) MAX_BINARY f in omega (arith, length-append bytes (b.0 ∷ [])) }))
segment_as_holds bytes text (Some (opens.String, rest)) h =
    bind_holds (λ (x : List ℕ × List ℕ). Reads (byte_marks (length bytes)) [] rest x.0 x.1) (λ (x : List ℕ × List ℕ). SegmentRead bytes text x.0 x.1) (quoted_at (byte_marks (length bytes)) rest) _ (quoted_holds (byte_marks (length bytes)) rest)
    (λ x r. record { segment = x.0; made = refl; spelled = rw (h, r.joined) (some_bytes r.quoted (are_bytes r.more r.below)); within = λ l. let few = r.within (omega arith) in omega (arith, length-append bytes x.0) })
segment_as_holds bytes text (Some (o, rest)) h = tt

pub segment_holds : (bytes text : List ℕ) → IfOk (segment_at bytes text) (λ x. SegmentRead bytes text x.0 x.1)
unfolding segment_at
segment_holds bytes text = segment_as_holds bytes text (opening text) (opening_holds text)

segment_begun : (s text u rest : List ℕ) → SegmentRead s text u rest → length rest < length text
segment_begun s text u rest r = segment_shorter r.spelled

pub segment_shrinks : Shrinks (separated segment_at)
segment_shrinks = separated_shrinks SegmentRead segment_at segment_holds segment_begun

pub segments_hold : (bytes text : List ℕ) → IfOk (segments_at bytes text) (λ x. 0 < length x.1 → SegmentsRead bytes text x.0 x.1)
segments_hold bytes text =
    weaker (λ (x : List ℕ × List ℕ). 0 < length x.1 → Items SegmentRead bytes text x.0 x.1) _ (segments_at bytes text) (λ x h some. segments_from (h some))
    (separated_holds SegmentRead segment_at segment_holds segment_begun bytes text)

two_are : (x y a b : ℕ) (ys : List ℕ) → (x == a && y == b) ≡ true → x ∷ y ∷ ys ≡ a ∷ b ∷ ys
two_are x y a b ys e = let p = and_parts (x == a) (y == b) e in rw (eqb-true x a p.0, eqb-true y b p.1) refl

if_some : {X : Type 0} (P : X → Type 0) (b : Bool) (x : X) → (b ≡ true → P x) → IfSome (cond b (Some x) None) P
if_some P true x h = h refl
if_some P false x h = tt

pub behind_both_holds : (a b : ℕ) (text : List ℕ) → IfSome (after_both a b text) (λ rest. text ≡ a ∷ b ∷ rest)
behind_both_holds a b [] = tt
behind_both_holds a b (x ∷ []) = tt
behind_both_holds a b (x ∷ y ∷ ys) = if_some (λ (rest : List ℕ). x ∷ y ∷ ys ≡ a ∷ b ∷ rest) (x == a && y == b) ys (λ e. two_are x y a b ys e)

pub expect_both_holds : (a b : ℕ) (text : List ℕ) → IfOk (expect_both a b text) (λ rest. text ≡ a ∷ b ∷ rest)
expect_both_holds a b [] = tt
expect_both_holds a b (x ∷ []) = tt
expect_both_holds a b (x ∷ y ∷ ys) = if_holds (λ (rest : List ℕ). x ∷ y ∷ ys ≡ a ∷ b ∷ rest) (x == a && y == b) _ _ (λ e. two_are x y a b ys e) (λ _. tt)

pub bytes_hold : (n : ℕ) (text g : List ℕ) (o : Option (List ℕ)) → (0 < length g → Gap text g) → IfSome o (λ rest. g ≡ greater ∷ greater ∷ rest) → IfOk (bytes_at o g) (λ x. Spelled (suc n) (less ∷ less ∷ text) (binary x.0) x.1)
bytes_hold n text g (Some rest) gap h = an_empty_binary (rw h at (gap (rw h (omega arith))))
bytes_hold n text g None gap h =
    bind_holds (λ (x : List ℕ × List ℕ). 0 < length x.1 → SegmentsRead [] g x.0 x.1) (λ (x : List ℕ × List ℕ). Spelled (suc n) (less ∷ less ∷ text) (binary x.0) x.1) (segments_at [] g) _ (segments_hold [] g)
    (λ x r. bind_holds (λ (rest : List ℕ). x.1 ≡ greater ∷ greater ∷ rest) (λ (y : List ℕ × List ℕ). Spelled (suc n) (less ∷ less ∷ text) (binary y.0) y.1) (expect_both greater greater x.1) _ (expect_both_holds greater greater x.1)
    (λ rest e.
    let m = r (rw e (omega arith)) in
    let ss = rw e at m.segments in
    let within = m.within (omega arith) in
    rw m.joined (a_binary (gap (let lt = segments_shorter ss in omega arith)) ss (rw m.joined at within))))

pub binary_holds : (n : ℕ) (text : List ℕ) → IfOk (binary_at text) (λ x. Alone n (less ∷ less ∷ text) x.0 x.1)
unfolding binary_at
binary_holds n text =
    bind_holds (λ (x : List ℕ × List ℕ). Spelled (suc n) (less ∷ less ∷ text) (binary x.0) x.1) (λ (x : Datum × List ℕ). Alone n (less ∷ less ∷ text) x.0 x.1) (bytes_at (after_both greater greater (after_gap false text)) (after_gap false text)) _
    (bytes_hold n text (after_gap false text) (after_both greater greater (after_gap false text)) (gap_some text) (behind_both_holds greater greater (after_gap false text)))
    (λ x h. (h, refl))

-- ---- maps

-- one more pair was read
pub record PairRead (n : ℕ) (front : List (Datum × Datum)) (text : List ℕ) (es : List (Datum × Datum)) (rest : List ℕ) : Type 0 where
  pub key : Datum
  pub value : Datum
  pub made : es ≡ insert_entry datum_cmp front key value
  pub spelled : Pair n text key value rest
  pub fresh : has_key key front ≡ false
  pub room : length front < MAX_MAP

pub record PairsRead (n : ℕ) (front : List (Datum × Datum)) (text : List ℕ) (es : List (Datum × Datum)) (rest : List ℕ) : Type 0 where
  pub more : List (Datum × Datum)
  pub pairs : Pairs n text more rest
  pub permuted : IsPermutation (more ++ front) es
  pub rises : AreRising front → AreRising es
  pub within : length es ≤ MAX_MAP

pair_begun : (n : ℕ) (s : List (Datum × Datum)) (text : List ℕ) (u : List (Datum × Datum)) (rest : List ℕ) → PairRead n s text u rest → length rest < length text
pair_begun n s text u rest r = pair_shorter r.spelled

pairs_from : (n : ℕ) {front es : List (Datum × Datum)} {text rest : List ℕ} → Items (PairRead n) front text es rest → PairsRead n front text es rest
pairs_from n (one {s} {u} r g) =
    let put : IsPermutation ((r.key, r.value) ∷ s) u = rw r.made (put_permutes r.key r.value s r.fresh) in
    record {
      more = (r.key, r.value) ∷ [];
      pairs = last_pair r.spelled g;
      permuted = put;
      rises = λ h. rw r.made (put_rises r.key r.value s h);
      within = let e = length_permutation ((r.key, r.value) ∷ s) u put in let room = r.room in omega arith;
    }
pairs_from n (more {s} {u} {v} r g h is) =
    let m = pairs_from n is in
    let put : IsPermutation ((r.key, r.value) ∷ s) u = rw r.made (put_permutes r.key r.value s r.fresh) in
    let moved : IsPermutation ((r.key, r.value) ∷ (m.more ++ s)) (m.more ++ (r.key, r.value) ∷ s) = IsPermutation-sym (m.more ++ (r.key, r.value) ∷ s) ((r.key, r.value) ∷ (m.more ++ s)) (IsPermutation-middle m.more (r.key, r.value) s) in
    let next : IsPermutation (m.more ++ (r.key, r.value) ∷ s) (m.more ++ u) = IsPermutation-append_right m.more ((r.key, r.value) ∷ s) u put in
    record {
      more = (r.key, r.value) ∷ m.more;
      pairs = more_pairs r.spelled g h m.pairs;
      permuted = IsPermutation-trans ((r.key, r.value) ∷ (m.more ++ s)) (m.more ++ (r.key, r.value) ∷ s) v moved (IsPermutation-trans (m.more ++ (r.key, r.value) ∷ s) (m.more ++ u) v next m.permuted);
      rises = λ h. m.rises (rw r.made (put_rises r.key r.value s h));
      within = m.within;
    }

module _ (n : ℕ) (read : TermReader) (reads : IsReader n read) where
  pub pair_holds : (front : List (Datum × Datum)) (text : List ℕ) → IfOk (pair_at read front text) (λ x. PairRead n front text x.0 x.1)
  unfolding pair_at
  pair_holds front text =
      bind_holds (λ (k : Datum × List ℕ). Spelled n text k.0 k.1 × (0 < MAX_MAP - length front)) (λ (x : List (Datum × Datum) × List ℕ). PairRead n front text x.0 x.1) (read (MAX_MAP - length front) text) _ (reads (MAX_MAP - length front) text)
      (λ k key. if_holds (λ (x : List (Datum × Datum) × List ℕ). PairRead n front text x.0 x.1) (has_key k.0 front) _ _ (λ _. tt)
      (λ fresh. bind_holds (λ (rest : List ℕ). after_gap false k.1 ≡ equals ∷ greater ∷ rest) (λ (x : List (Datum × Datum) × List ℕ). PairRead n front text x.0 x.1) (expect_both equals greater (after_gap false k.1)) _ (expect_both_holds equals greater (after_gap false k.1))
      (λ rest e. bind_holds (λ (v : Datum × List ℕ). Spelled n (after_gap false rest) v.0 v.1 × (0 < 1)) (λ (x : List (Datum × Datum) × List ℕ). PairRead n front text x.0 x.1) (read 1 (after_gap false rest)) _ (reads 1 (after_gap false rest))
      (λ v value.
      let key_gap = gap_some k.1 (rw e (omega arith)) in
      record {
        key = k.0;
        value = v.0;
        made = refl;
        spelled = arrow key.0 (rw e at key_gap) (gap_some rest (let lt = spelled_shorter value.0 in omega arith)) value.0;
        fresh = fresh;
        room = let some = key.1 in omega arith;
      }))))

  pub pair_shrinks : Shrinks (separated (pair_at read))
  pair_shrinks = separated_shrinks (PairRead n) (pair_at read) pair_holds (pair_begun n)

  pub pairs_hold : (text : List ℕ) → IfOk (all_steps (separated (pair_at read)) [] text) (λ x. 0 < length x.1 → PairsRead n [] text x.0 x.1)
  pairs_hold text =
      weaker (λ (x : List (Datum × Datum) × List ℕ). 0 < length x.1 → Items (PairRead n) [] text x.0 x.1) _ (all_steps (separated (pair_at read)) [] text) (λ x h some. pairs_from n (h some))
      (separated_holds (PairRead n) (pair_at read) pair_holds (pair_begun n) [] text)

  pub map_pairs_hold : (text g : List ℕ) (o : Option (List ℕ)) → (0 < length g → Gap text g) → IfSome o (λ rest. g ≡ close_brace ∷ rest) → IfOk (pairs_at read o g) (λ x. Spelled (suc n) (number_sign ∷ open_brace ∷ text) (map (entries_of x.0)) x.1)
  map_pairs_hold text g (Some rest) gap h = an_empty_map (rw h at (gap (rw h (omega arith))))
  map_pairs_hold text g None gap h =
      bind_holds (λ (x : List (Datum × Datum) × List ℕ). 0 < length x.1 → PairsRead n [] g x.0 x.1) (λ (x : List (Datum × Datum) × List ℕ). Spelled (suc n) (number_sign ∷ open_brace ∷ text) (map (entries_of x.0)) x.1) (all_steps (separated (pair_at read)) [] g) _ (pairs_hold g)
      (λ x r. bind_holds (λ (rest : List ℕ). x.1 ≡ close_brace ∷ rest) (λ (y : List (Datum × Datum) × List ℕ). Spelled (suc n) (number_sign ∷ open_brace ∷ text) (map (entries_of y.0)) y.1) (expect close_brace x.1) _ (expect_holds close_brace x.1)
      (λ rest e.
      let m = r (rw e (omega arith)) in
      let ps = rw e at m.pairs in
      let permuted : IsPermutation m.more x.0 = rw append-nil at m.permuted in
      a_map (gap (let lt = pairs_shorter ps in omega arith)) ps (let l = length_permutation m.more x.0 permuted in let w = m.within in omega arith) permuted (m.rises tt)))

  pub map_holds : (text : List ℕ) → IfOk (map_at read text) (λ x. Alone n (number_sign ∷ open_brace ∷ text) x.0 x.1)
  unfolding map_at
  map_holds text =
      bind_holds (λ (x : List (Datum × Datum) × List ℕ). Spelled (suc n) (number_sign ∷ open_brace ∷ text) (map (entries_of x.0)) x.1) (λ (x : Datum × List ℕ). Alone n (number_sign ∷ open_brace ∷ text) x.0 x.1) (pairs_at read (behind close_brace (after_gap false text)) (after_gap false text)) _
      (map_pairs_hold text (after_gap false text) (behind close_brace (after_gap false text)) (gap_some text) (behind_holds close_brace (after_gap false text)))
      (λ x h. (h, refl))

-- ---- terms

module _ (n : ℕ) (read : TermReader) (read_tail : TailReader) (reads : IsReader n read) (tails : IsTailReader n read_tail) where
  pub form_holds : (o : Opening) (text rest : List ℕ) → Opens o text rest → IfOk (form_at read read_tail n o rest) (λ x. Spelled (suc n) text x.0 x.1)
  form_holds opens.Integer text rest h = weaker (λ (x : Datum × List ℕ). Alone n text x.0 x.1) _ _ (λ x a. a.0) (integer_term_holds n text rest h)
  form_holds opens.Word text rest h = weaker (λ (x : Datum × List ℕ). Alone n text x.0 x.1) _ _ (λ x a. a.0) (word_term_holds n text rest h)
  form_holds opens.QuotedAtom text rest h = rw h (weaker (λ (x : Datum × List ℕ). Alone n (single_quote ∷ rest) x.0 x.1) _ _ (λ x a. a.0) (quoted_atom_holds n rest))
  form_holds opens.String text rest h = rw h (weaker (λ (x : Datum × List ℕ). TailRead (suc n) [] (double_quote ∷ rest) x.0 x.1) (λ (x : Datum × List ℕ). Spelled (suc n) (double_quote ∷ rest) x.0 x.1) _ (λ x r. rw r.joined r.spelled) (string_holds n [] rest))
  form_holds opens.Tuple text rest h = rw h (weaker (λ (x : Datum × List ℕ). Alone n (open_brace ∷ rest) x.0 x.1) _ _ (λ x a. a.0) (tuple_holds n read reads rest))
  form_holds opens.List text rest h = rw h (weaker (λ (x : Datum × List ℕ). TailRead (suc n) [] (open_bracket ∷ rest) x.0 x.1) (λ (x : Datum × List ℕ). Spelled (suc n) (open_bracket ∷ rest) x.0 x.1) _ (λ x r. rw r.joined r.spelled) (list_holds n read reads read_tail tails [] rest))
  form_holds opens.Map text rest h = rw h (weaker (λ (x : Datum × List ℕ). Alone n (number_sign ∷ open_brace ∷ rest) x.0 x.1) _ _ (λ x a. a.0) (map_holds n read reads rest))
  form_holds opens.Binary text rest h = rw h (weaker (λ (x : Datum × List ℕ). Alone n (less ∷ less ∷ rest) x.0 x.1) _ _ (λ x a. a.0) (binary_holds n rest))

  ended_by : (front : List Datum) (text : List ℕ) (r : Read Datum) → IfOk r (λ x. Alone n text x.0 x.1) → IfOk {T = Datum × List ℕ} {E = Fault} (r >>= λ x. Ok (cells front x.0, x.1)) (λ x. TailRead (suc n) front text x.0 x.1)
  ended_by front text r h =
      bind_holds (λ (x : Datum × List ℕ). Alone n text x.0 x.1) (λ (x : Datum × List ℕ). TailRead (suc n) front text x.0 x.1) r _ h
      (λ x a. record { tail = x.0; joined = refl; spelled = a.0; within = λ l. let none = a.1 in let c = cell_count-cells front x.0 in omega arith })

  tail_form_holds : (front : List Datum) (o : Opening) (text rest : List ℕ) → Opens o text rest → IfOk (tail_form read read_tail n front o rest) (λ x. TailRead (suc n) front text x.0 x.1)
  tail_form_holds front opens.Integer text rest h = ended_by front text _ (integer_term_holds n text rest h)
  tail_form_holds front opens.Word text rest h = ended_by front text _ (word_term_holds n text rest h)
  tail_form_holds front opens.QuotedAtom text rest h = rw h (ended_by front (single_quote ∷ rest) _ (quoted_atom_holds n rest))
  tail_form_holds front opens.String text rest h = rw h (string_holds n front rest)
  tail_form_holds front opens.Tuple text rest h = rw h (ended_by front (open_brace ∷ rest) _ (tuple_holds n read reads rest))
  tail_form_holds front opens.List text rest h = rw h (list_holds n read reads read_tail tails front rest)
  tail_form_holds front opens.Map text rest h = rw h (ended_by front (number_sign ∷ open_brace ∷ rest) _ (map_holds n read reads rest))
  tail_form_holds front opens.Binary text rest h = rw h (ended_by front (less ∷ less ∷ rest) _ (binary_holds n rest))

mutual
  -- what a text is read as is what it spells
  unfolding term_at tail_at

  pub term_holds : (n : ℕ) → IsReader n (term_at n)
  term_holds zero room text = bind_holds (λ (o : Opening × List ℕ). Opens o.0 text o.1 × (0 < 0) × (0 < room)) _ (enter 0 room text) _ (enter_holds 0 room text) (λ o h. tt)
  term_holds (suc n) room text =
      bind_holds (λ (o : Opening × List ℕ). Opens o.0 text o.1 × (0 < suc n) × (0 < room)) (λ (x : Datum × List ℕ). Spelled (suc n) text x.0 x.1 × (0 < room)) (enter (suc n) room text) _ (enter_holds (suc n) room text)
      (λ o h. weaker (λ (x : Datum × List ℕ). Spelled (suc n) text x.0 x.1) _ _ (λ x s. (s, h.2)) (form_holds n (term_at n) (tail_at n) (term_holds n) (tail_holds n) o.0 text o.1 h.0))

  pub tail_holds : (n : ℕ) → IsTailReader n (tail_at n)
  tail_holds zero front text = bind_holds (λ (o : Opening × List ℕ). Opens o.0 text o.1 × (0 < 0) × (0 < 1)) _ (enter 0 1 text) _ (enter_holds 0 1 text) (λ o h. tt)
  tail_holds (suc n) front text =
      bind_holds (λ (o : Opening × List ℕ). Opens o.0 text o.1 × (0 < suc n) × (0 < 1)) (λ (x : Datum × List ℕ). TailRead (suc n) front text x.0 x.1) (enter (suc n) 1 text) _ (enter_holds (suc n) 1 text)
      (λ o h. tail_form_holds n (term_at n) (tail_at n) (term_holds n) (tail_holds n) front o.0 text o.1 h.0)
