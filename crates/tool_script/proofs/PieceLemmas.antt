-- Pieces of a text that spells terms: whole lines at its beginning spell terms, or end too early; and what follows
-- lines that spell terms spells the other terms.
use Rattle.std.proofs.Common.{◌≡◌, ◌≢◌, ◌⊎◌, ◌==◌, ◌&&◌, ℕ, zero, suc, ◌+◌, ◌-◌, ◌≤◌, ◌<◌, inl, inr, Bool, true, false, List, [], ◌∷◌, ◌++◌, length, take, drop, get_or, Result, Ok, Err, refl, sym, ap, subst, ◌∙◌, arith, append_assoc, take-append-drop, take_all}
use Rattle.std.specs.Prelude.{IfOk, not, ◌||◌}
use Rattle.std.specs.List.{AllByRecursion}
use Rattle.std.specs.Io.BufRead.{take_through, drop_through}
use Rattle.std.specs.Char.{encode_utf8}
use Rattle.std.specs.Str.{IsUtf8, chars, encode_utf8_all}
use Rattle.std.proofs.lemmas.Bool.{eq-eqb, ne_eqb, eqb-true, cases_Bool, cases_eq, or_cases, or_right, and_parts}
use Rattle.std.proofs.lemmas.List.{append-nil, length-append}
use Rattle.std.proofs.lemmas.Str.{IsUtf8-nil, IsUtf8-take, IsUtf8-drop, IsUtf8-append, IsCharBoundary-before_ascii, IsCharBoundary-after_ascii, chars-append, chars-nil, chars-IsAscii, chars_past_char, encode_ascii, encodes-chars, IsUtf8-past_char, length-encode, len_utf8_bounds}
use Rattle.std.proofs.Math.Seq.{take-append_seam, drop-append_seam}
use Rattle.term_core.specs.Datum.{Datum}
use Rattle.term_text.specs.Character.{line_feed, percent, dot, is_white_space}
use Rattle.term_text.specs.declared.fault.TextFault.{TextFault}
use Rattle.term_text.specs.declared.fault.TextFault.TheVariants as faults
use Rattle.term_text.specs.declared.stop.Cause.TheVariants as causes
use Rattle.term_text.specs.declared.stop.Stop.TheVariants as stops
use Rattle.term_text.specs.Fault.{fault_of}
use Rattle.term_text.specs.Laws.{SpellsOne, HasOneFault, IsRefusal}
use Rattle.term_text.specs.Tokens.{Gap}
use Rattle.term_text.specs.Text.{Sentences, Spells}
use Rattle.term_text.specs.Text.Sentences.{none, sentence}
use Rattle.term_text.specs.TokenReading.{Fault, after_gap}
use Rattle.term_text.specs.Reading.{sentence_at, text_at}
use Rattle.term_text.proofs.Steps.{holds_at}
use Rattle.term_text.proofs.Tokens.{gap_again, gap_holds}
use Rattle.term_text.proofs.Whole.{IsFirst, spelled_first, gap_first}
use Rattle.term_text.proofs.Texts.{SentenceRead, sentence_holds, sentence_again, last_comment, no_more, to_some, text_holds, text_again}
use Rattle.term_text.proofs.Blames.{whole_gap}
use Rattle.term_text.proofs.BlamesTerms.{has_cause}
use Rattle.term_text.proofs.Publics.{no_bad_utf8, not_both}
use Rattle.term_text.proofs.Stops.{SentencesStop, text_stops, behind_dot_stops, at_sentence}
use Rattle.tool_io.specs.Terms.{IsNoText}
use Rattle.tool_script.specs.Line.{first_line, behind_line, is_empty, is_idle, AreWholeLines}
use Rattle.tool_script.proofs.CutLemmas.{closed_tail, Cut, Leaves, GapCut, gap_cut, sentence_cut}
use Rattle.tool_script.proofs.CutLemmas.Cut.{ends, both, stops}
use Rattle.tool_script.proofs.CutLemmas.GapCut.{to_end, before}

-- ---- sentences

-- a text that has these characters after its gap, and spells terms, begins with a sentence
record First (c : ℕ) (text : List ℕ) (ds : List Datum) : Type 0 where
  d : Datum
  others : List Datum
  rest : List ℕ
  joined : ds ≡ d ∷ others
  read : sentence_at (c ∷ text) ≡ Ok (d, rest)
  more : Sentences rest others

read_at : (t g rest : List ℕ) (d : Datum) → t ≡ g → sentence_at t ≡ Ok (d, rest) → sentence_at g ≡ Ok (d, rest)
read_at t g rest d e h = ap sentence_at (sym e) ∙ h

first_of : (whole : List ℕ) (c : ℕ) (text : List ℕ) (ds : List Datum) → after_gap false whole ≡ c ∷ text → Sentences whole ds → First c text ds
first_of whole c text ds e (none {rest} g l) = absurd (let f = sym e ∙ (gap_again g ∙ last_comment rest l) in cc)
first_of whole c text ds e (sentence {t} {u} {rest} {d} {ds = es} g s x y more) = record {
  d = d;
  others = es;
  rest = rest;
  joined = refl;
  read = read_at t (c ∷ text) rest d (sym (gap_first g (spelled_first s)) ∙ e) (sentence_again t rest d s x y);
  more = more;
}

-- no term is left if nothing follows the gap
nothing_left : (whole : List ℕ) → after_gap false whole ≡ [] → Sentences whole []
nothing_left whole e = no_more whole (after_gap false whole) e (gap_holds whole)

same_pair : (p q : Datum × List ℕ) (x : Result (Datum × List ℕ) Fault) → x ≡ Ok p → x ≡ Ok q → p ≡ q
same_pair p q x f g = let h = sym f ∙ g in cc

same_read : (d e : Datum) (r s : List ℕ) (x : Result (Datum × List ℕ) Fault) → x ≡ Ok (d, r) → x ≡ Ok (e, s) → (d ≡ e) × (r ≡ s)
same_read d e r s x f g =
    let same = same_pair (d, r) (e, s) x f g in
    (ap (λ (p : Datum × List ℕ). p.0) same, ap (λ (p : Datum × List ℕ). p.1) same)

not_refused : {X : Type 0} (x : Result X Fault) (a : X) (f : Fault) → x ≡ Ok a → x ≡ Err f → ⊥
not_refused x a f e d = let h = sym e ∙ d in absurd cc

-- the beginning of a text spells terms, or ends too early
data Begins (text : List ℕ) : Type 0 where
  spelled : {ds : List Datum} → Sentences text ds → Begins text
  unended : SentencesStop (after_gap false text) (causes.Syntax, 0) → Begins text

-- a sentence followed by such a beginning is such a beginning
begins_behind : (text : List ℕ) (c : ℕ) (t rest : List ℕ) (d : Datum) → after_gap false text ≡ c ∷ t → sentence_at (c ∷ t) ≡ Ok (d, rest) → Begins rest → Begins text
begins_behind text c t rest d e h b =
    let s = holds_at (λ (x : Datum × List ℕ). SentenceRead (c ∷ t) x.0 x.1) (sentence_at (c ∷ t)) (d, rest) (sentence_holds (c ∷ t)) h in
    elim b [
      | spelled {ds} more ↦ spelled (sentence (to_some text (after_gap false text) c t e (gap_holds text)) s.spelled s.gap s.begins more)
      | unended stop ↦ unended (subst (λ g. SentencesStop g (causes.Syntax, 0)) (sym e) (behind_dot_stops (causes.Syntax, 0) s.spelled s.gap s.begins (whole_gap rest) stop))
    ]

begins_unended : (text : List ℕ) (c : ℕ) (t : List ℕ) → after_gap false text ≡ c ∷ t → sentence_at (c ∷ t) ≡ Err (causes.Syntax, 0) → Begins text
begins_unended text c t e h = unended (subst (λ g. SentencesStop g (causes.Syntax, 0)) (sym e) (at_sentence c t (causes.Syntax, 0) h))

begins : (whole text rest : List ℕ) (ds : List Datum) → whole ≡ text ++ rest → AreWholeLines text → Sentences whole ds → Begins text
begins whole text rest ds is h (none {rest = l} g last) = by (gap_cut text rest h)
  where
    by : GapCut false text rest → Begins text
    by (to_end e d) = spelled (nothing_left text e)
    by (before c t k e d) = absurd (let f = sym d ∙ (ap (after_gap false) (sym is) ∙ (gap_again g ∙ last_comment l last)) in cc)
begins whole text rest ds is h (sentence {t = b} {u} {rest = r} {d} {ds = es} g s x y more) = by (λ t e k. begins r t rest es e k more) (gap_cut text rest h)
  where
    further : ((t : List ℕ) → r ≡ t ++ rest → AreWholeLines t → Begins t) → (c : ℕ) (t : List ℕ) → after_gap false text ≡ c ∷ t → sentence_at (c ∷ (t ++ rest)) ≡ Ok (d, r) → Cut (Leaves rest) (sentence_at (c ∷ t)) (sentence_at (c ∷ (t ++ rest))) → Begins text
    further again c t e read (ends n) = begins_unended text c t e n
    further again c t e read (stops f n) = absurd (not_refused (sentence_at (c ∷ (t ++ rest))) (d, r) f read n)
    further again c t e read (both a q k n m) =
        let same = same_read d a.0 r (a.1 ++ rest) (sentence_at (c ∷ (t ++ rest))) read (m ∙ ap Ok k.0) in
        begins_behind text c t a.1 a.0 e n (again a.1 same.1 k.1)

    by : ((t : List ℕ) → r ≡ t ++ rest → AreWholeLines t → Begins t) → GapCut false text rest → Begins text
    by again (to_end e f) = spelled (nothing_left text e)
    by again (before c t k e f) =
        further again c t e (read_at b (c ∷ (t ++ rest)) r d (sym (gap_first g (spelled_first s)) ∙ (ap (after_gap false) is ∙ f)) (sentence_again b r d s x y)) (sentence_cut rest (c ∷ t) k)

-- two texts with the same characters after their gaps are read alike
read_alike : (text other : List ℕ) → after_gap false text ≡ after_gap false other → text_at text ≡ text_at other
unfolding text_at
read_alike text other e = rw e refl

gap_alike : (text other : List ℕ) (ds : List Datum) → after_gap false text ≡ after_gap false other → Sentences text ds → Sentences other ds
gap_alike text other ds e h =
    holds_at (λ es. Sentences other es) (text_at other) ds (text_holds other) (sym (read_alike text other e) ∙ text_again text ds h)

-- what is left after these terms spells the other terms
record Left (rest : List ℕ) (ds es : List Datum) : Type 0 where
  others : List Datum
  joined : ds ≡ es ++ others
  spelled : Sentences rest others

divides : (whole text rest : List ℕ) (ds es : List Datum) → whole ≡ text ++ rest → AreWholeLines text → Sentences text es → Sentences whole ds → Left rest ds es
divides whole text rest ds es is h (none {rest = l} g last) w = by (gap_cut text rest h)
  where
    by : GapCut false text rest → Left rest ds []
    by (to_end e d) = record { others = ds; joined = refl; spelled = gap_alike (text ++ rest) rest ds d (subst (λ x. Sentences x ds) is w) }
    by (before c t k e d) = absurd (let f = sym e ∙ (gap_again g ∙ last_comment l last) in cc)
divides whole text rest ds es is h (sentence {t = b} {u} {rest = r} {d} {ds = fs} g s x y more) w = by (λ v es e k m. divides v r rest es fs e k more m) (gap_cut text rest h)
  where
    here : (c : ℕ) (t : List ℕ) → after_gap false text ≡ c ∷ t → sentence_at (c ∷ t) ≡ Ok (d, r)
    here c t e = read_at b (c ∷ t) r d (sym (gap_first g (spelled_first s)) ∙ e) (sentence_again b r d s x y)

    further : ((v : List ℕ) (es : List Datum) → v ≡ r ++ rest → AreWholeLines r → Sentences v es → Left rest es fs) → (c : ℕ) (t : List ℕ) → after_gap false text ≡ c ∷ t → First c (t ++ rest) ds → Cut (Leaves rest) (sentence_at (c ∷ t)) (sentence_at (c ∷ (t ++ rest))) → Left rest ds (d ∷ fs)
    further again c t e f (ends n) = absurd (not_refused (sentence_at (c ∷ t)) (d, r) (causes.Syntax, 0) (here c t e) n)
    further again c t e f (stops q n) = absurd (not_refused (sentence_at (c ∷ (t ++ rest))) (f.d, f.rest) q f.read n)
    further again c t e f (both a q k n m) =
        let one = same_read d a.0 r a.1 (sentence_at (c ∷ t)) (here c t e) n in
        let all = same_read f.d a.0 f.rest (a.1 ++ rest) (sentence_at (c ∷ (t ++ rest))) f.read (m ∙ ap Ok k.0) in
        let l = again f.rest f.others (all.1 ∙ ap (λ z. z ++ rest) (sym one.1)) (subst AreWholeLines (sym one.1) k.1) f.more in
        record { others = l.others; joined = f.joined ∙ (ap (λ z. z ∷ f.others) (all.0 ∙ sym one.0) ∙ ap (λ z. d ∷ z) l.joined); spelled = l.spelled }

    by : ((v : List ℕ) (es : List Datum) → v ≡ r ++ rest → AreWholeLines r → Sentences v es → Left rest es fs) → GapCut false text rest → Left rest ds (d ∷ fs)
    by again (to_end e f) = absurd (subst IsFirst (sym (gap_first g (spelled_first s)) ∙ e) (spelled_first s))
    by again (before c t k e f) = further again c t e (first_of whole c (t ++ rest) ds (ap (after_gap false) is ∙ f) w) (sentence_cut rest (c ∷ t) k)

-- ---- bytes

-- whole lines end with a line feed
at_feed : (c : ℕ) (t rest : List ℕ) → AreWholeLines (c ∷ t) → get_or (c ∷ (t ++ rest)) (length t) 0 ≡ line_feed
at_feed c [] rest h = h
at_feed c (d ∷ t) rest h = at_feed d t rest h

last_drop : (c : ℕ) (t : List ℕ) → AreWholeLines (c ∷ t) → drop (length t) (c ∷ t) ≡ line_feed ∷ []
last_drop c [] h = ap (λ x. x ∷ []) h
last_drop c (d ∷ t) h = last_drop d t h

feed_behind : (xs : List ℕ) → AreWholeLines (xs ++ line_feed ∷ [])
feed_behind [] = refl
feed_behind (x ∷ []) = refl
feed_behind (x ∷ y ∷ xs) = feed_behind (y ∷ xs)

-- so they and what follows them are each UTF-8
record Divided (text rest : List ℕ) : Type 0 where
  front : IsUtf8 text
  behind : IsUtf8 rest
  whole : chars (text ++ rest) ≡ chars text ++ chars rest
  lines : AreWholeLines (chars text)

lines_in : (front : List ℕ) → IsUtf8 front → AreWholeLines (chars (front ++ line_feed ∷ []))
lines_in front u =
    let feed : chars (line_feed ∷ []) ≡ line_feed ∷ [] = chars-IsAscii (line_feed ∷ []) (λ i. ascii i) in
    subst AreWholeLines (sym (chars-append front (line_feed ∷ []) u ∙ ap (λ l. chars front ++ l) feed)) (feed_behind (chars front))
  where
    ascii : (i : ℕ) → get_or (line_feed ∷ []) i 0 < 128
    ascii zero = omega arith
    ascii (suc i) = past i
      where
        past : (j : ℕ) → get_or [] j 0 < 128
        past zero = omega arith
        past (suc j) = omega arith

divided : (text rest : List ℕ) → AreWholeLines text → IsUtf8 (text ++ rest) → Divided text rest
divided [] rest h u = record { front = IsUtf8-nil; behind = u; whole = rw chars-nil refl; lines = rw chars-nil tt }
divided (c ∷ t) rest h u =
    let text = c ∷ t in
    let all = c ∷ (t ++ rest) in
    let n = length t in
    let there : n < length all = omega (arith, length-append t rest) in
    let low : get_or all n 0 < 128 = omega (arith, at_feed c t rest h) in
    let cut = IsCharBoundary-after_ascii all n u there low in
    let size : n + 1 ≡ length text = omega arith in
    let front : IsUtf8 text = subst IsUtf8 (ap (λ k. take k all) size ∙ take-append_seam text rest) (IsUtf8-take all (n + 1) u cut) in
    let behind : IsUtf8 rest = subst IsUtf8 (ap (λ k. drop k all) size ∙ drop-append_seam text rest) (IsUtf8-drop all (n + 1) u cut) in
    let lowly : get_or text n 0 < 128 = omega (arith, ap (λ l. get_or (c ∷ l) n 0) (sym (append-nil t)) ∙ at_feed c t [] h) in
    let start = IsUtf8-take text n front (IsCharBoundary-before_ascii text n (omega arith) lowly) in
    let split : take n text ++ line_feed ∷ [] ≡ text = ap (λ l. take n text ++ l) (sym (last_drop c t h)) ∙ take-append-drop n text in
    record {
      front = front;
      behind = behind;
      whole = chars-append text rest front;
      lines = subst (λ l. AreWholeLines (chars l)) split (lines_in (take n text) start);
    }

-- ---- texts

pub record LeftSpelled (rest : List ℕ) (ds es : List Datum) : Type 0 where
  pub others : List Datum
  pub joined : ds ≡ es ++ others
  pub spelled : Spells rest others

pub spells_behind : (text rest : List ℕ) (ds es : List Datum) → AreWholeLines text → Spells (text ++ rest) ds → Spells text es → LeftSpelled rest ds es
spells_behind text rest ds es h whole front =
    let d = divided text rest h whole.utf8 in
    let l = divides (chars (text ++ rest)) (chars text) (chars rest) ds es d.whole d.lines front.sentences whole.sentences in
    record { others = l.others; joined = l.joined; spelled = record { utf8 = d.behind; sentences = l.spelled } }

-- nothing is left at the end
pub spells_nothing : Spells [] []
spells_nothing = record { utf8 = IsUtf8-nil; sentences = rw chars-nil (none no_gap_there tt) }
  where
    no_gap_there : Gap [] []
    no_gap_there = Gap.no_gap

-- a text that ends too early is rejected for that
ends_early : (text : List ℕ) → IsUtf8 text → text_at (chars text) ≡ Err (causes.Syntax, 0) → IsRefusal text (faults.Syntax (length text))
ends_early text u e =
    let all : take (length (chars text) - 0) (chars text) ≡ chars text = take_all (length (chars text) - 0) (chars text) (omega arith) in
    let size : length (encode_utf8_all (take (length (chars text) - 0) (chars text))) ≡ length text = ap (λ l. length (encode_utf8_all l)) all ∙ ap length (encodes-chars text u) in
    subst (λ n. IsRefusal text (faults.Syntax n)) size (record {
      other = λ f. cc;
      cause = has_cause text (chars text) (stops.At causes.Syntax 0) refl e;
      bad_utf8 = λ at. (λ f. absurd (no_bad_utf8 (stops.At causes.Syntax 0) (chars text) at f), λ v. absurd (not_both text at u v));
    })

-- if whole lines at the beginning of a text that spells terms are rejected, it is because they end too early
pub only_early : (one : HasOneFault) (text rest : List ℕ) (ds : List Datum) (f : TextFault) → AreWholeLines text → Spells (text ++ rest) ds → IsNoText text f → f ≡ faults.Syntax (length text)
only_early one text rest ds f h whole wrong = by (begins (chars (text ++ rest)) (chars text) (chars rest) ds d.whole d.lines whole.sentences)
  where
    d : Divided text rest
    d = divided text rest h whole.utf8

    by : Begins (chars text) → f ≡ faults.Syntax (length text)
    by (spelled {ds = es} s) = absurd (wrong.unspelled es (record { utf8 = d.front; sentences = s }))
    by (unended stop) =
        one.one text f (faults.Syntax (length text)) (record { other = wrong.other; cause = wrong.cause; bad_utf8 = wrong.bad_utf8 })
        (ends_early text d.front (text_stops (causes.Syntax, 0) (whole_gap (chars text)) stop))

-- ---- lines

pub line_joined : (input : List ℕ) → first_line input ++ behind_line input ≡ input
line_joined [] = refl
line_joined (x ∷ xs) = elim (cases_Bool (x == line_feed)) [
  | inl e ↦ rw e refl
  | inr n ↦ rw n (ap (λ l. x ∷ l) (line_joined xs))
]

-- a line is whole, or the last
pub line_ends : (input : List ℕ) → AreWholeLines (first_line input) ⊎ (behind_line input ≡ [])
line_ends [] = inr refl
line_ends (x ∷ xs) = elim (cases_Bool (x == line_feed)) [
  | inl e ↦ inl (rw e (eqb-true x line_feed e))
  | inr n ↦ rw n (by xs (line_ends xs))
]
  where
    by : (l : List ℕ) → AreWholeLines (first_line l) ⊎ (behind_line l ≡ []) → AreWholeLines (x ∷ first_line l) ⊎ (behind_line l ≡ [])
    by [] ended = inr refl
    by (y ∷ ys) ended = elim (cases_Bool (y == line_feed)) [
      | inl e ↦ inl (rw e (eqb-true y line_feed e))
      | inr n ↦ rw n (rw n at ended)
    ]

-- a line has no line feed but at its end
pub data OneLine : List ℕ → Type 0 where
  no_line : OneLine []
  feed : OneLine (line_feed ∷ [])
  byte : {x : ℕ} {line : List ℕ} → x ≢ line_feed → OneLine line → OneLine (x ∷ line)

pub one_line : (input : List ℕ) → OneLine (first_line input)
one_line [] = no_line
one_line (x ∷ xs) = elim (cases_eq x line_feed) [
  | inl e ↦ rw (eq-eqb x line_feed e) (subst (λ y. OneLine (y ∷ [])) (sym e) feed)
  | inr n ↦ rw (ne_eqb x line_feed n) (byte n (one_line xs))
]

-- the characters of a line have a line feed only at the end, too
skip : (front rest : List ℕ) → OneLine (front ++ rest) → OneLine rest
skip [] rest h = h
skip (x ∷ front) rest h = by (front ++ rest) (x ∷ (front ++ rest)) refl h (λ l. skip front rest l)
  where
    by : (l m : List ℕ) → m ≡ x ∷ l → OneLine m → (OneLine l → OneLine rest) → OneLine rest
    by l m e no_line next = absurd (cc)
    by l m e feed next = next (subst OneLine (let f : [] ≡ l = cc in f) no_line)
    by l m e (byte {x = y} {line = k} n more) next = next (subst OneLine (let f : k ≡ l = cc in f) more)

comment_read : (cs bytes : List ℕ) → encode_utf8_all cs ≡ bytes → OneLine bytes → after_gap true cs ≡ []
unfolding encode_utf8
comment_read [] bytes e h = refl
comment_read (c ∷ cs) bytes e h = elim (cases_eq c line_feed) [
  | inl is ↦ ap (λ (b : Bool). after_gap (not b) cs) (eq-eqb c line_feed is) ∙ ap (after_gap false) (behind_feed cs (subst OneLine (sym e ∙ ap (λ x. encode_utf8 x ++ encode_utf8_all cs) is) h))
  | inr n ↦ ap (λ (b : Bool). after_gap (not b) cs) (ne_eqb c line_feed n) ∙ comment_read cs (encode_utf8_all cs) refl (skip (encode_utf8 c) (encode_utf8_all cs) (subst OneLine (sym e) h))
]
  where
    none_there : (ds : List ℕ) → encode_utf8_all ds ≡ [] → ds ≡ []
    none_there [] e = refl
    none_there (d ∷ ds) e = absurd (omega (arith, ap length e, length-append (encode_utf8 d) (encode_utf8_all ds), length-encode d, (len_utf8_bounds d).0))

    over_there : (l m : List ℕ) → m ≡ line_feed ∷ l → OneLine m → l ≡ []
    over_there l m e no_line = absurd (cc)
    over_there l m e feed = cc
    over_there l m e (byte n more) = absurd (n (cc))

    behind_feed : (ds : List ℕ) → OneLine (line_feed ∷ encode_utf8_all ds) → ds ≡ []
    behind_feed ds h = none_there ds (over_there (encode_utf8_all ds) (line_feed ∷ encode_utf8_all ds) refl h)

-- ---- lines that begin nothing

white_low : (c : ℕ) → is_white_space c ≡ true → c < 128
white_low c h = grind arith

idle_read : (bytes : List ℕ) → IsUtf8 bytes → is_idle bytes ≡ true → OneLine bytes → after_gap false (chars bytes) ≡ []
idle_read [] u h one = ap (after_gap false) chars-nil
idle_read (c ∷ l) u h one = elim (cases_eq c percent) [
  | inl e ↦ let low : c < 128 = omega (arith, e) in
      ap (after_gap false) (first low) ∙ rw (eq-eqb c percent e) (comment_read (chars l) l (encodes-chars l (behind low)) (skip (c ∷ []) l one))
  | inr n ↦ let parts = and_parts (is_white_space c) (is_idle l) (rw (ne_eqb c percent n) at h) in
      let low = white_low c parts.0 in
      ap (after_gap false) (first low) ∙ rw (ne_eqb c percent n, parts.0) (idle_read l (behind low) parts.1 (skip (c ∷ []) l one))
]
  where
    ascii : c < 128 → c ∷ l ≡ encode_utf8 c ++ l
    ascii low = rw (encode_ascii c low) refl

    first : c < 128 → chars (c ∷ l) ≡ c ∷ chars l
    first low = chars_past_char (c ∷ l) l c u (ascii low)

    behind : c < 128 → IsUtf8 l
    behind low = IsUtf8-past_char (c ∷ l) l c u (ascii low)

pub empty_idle : (line : List ℕ) → is_empty line ≡ true → is_idle line ≡ true
empty_idle [] h = refl
empty_idle (c ∷ line) h =
    let parts = and_parts (is_white_space c) (is_empty line) h in
    or_right (c == percent) (is_white_space c && is_idle line) (rw (parts.0, empty_idle line parts.1) refl)

idle_spelled : (line : List ℕ) → IsUtf8 line → is_idle line ≡ true → OneLine line → Spells line []
idle_spelled line u h one = record { utf8 = u; sentences = nothing_left (chars line) (idle_read line u h one) }

-- what follows an idle line spells what the line and it spell
pub idle_behind : (line rest : List ℕ) (ds : List Datum) → OneLine line → is_idle line ≡ true → AreWholeLines line → Spells (line ++ rest) ds → Spells rest ds
idle_behind line rest ds one h lines whole =
    let d = divided line rest lines whole.utf8 in
    let l = spells_behind line rest ds [] lines whole (idle_spelled line d.front h one) in
    subst (λ es. Spells rest es) (sym l.joined) l.spelled

-- an idle line alone spells nothing
pub idle_alone : (once : SpellsOne) (line : List ℕ) (ds : List Datum) → OneLine line → is_idle line ≡ true → Spells line ds → ds ≡ []
idle_alone once line ds one h s = once line ds [] s (idle_spelled line s.utf8 h one)
