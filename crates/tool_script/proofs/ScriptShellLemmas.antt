-- The output of a shell for a text that spells terms, with no empty line inside of a term: the replies to a script of
-- these terms.
use Rattle.std.proofs.Common.{◌≡◌, ◌≢◌, ◌⊎◌, ◌∙◌, ℕ, inl, inr, Bool, true, false, true≢false, List, [], ◌∷◌, ◌++◌, length, flat_map, refl, sym, ap, subst, append_assoc}
use Rattle.std.specs.Prelude.{if◌then◌else◌}
use Rattle.std.proofs.lemmas.List.{append-nil}
use Rattle.std.proofs.lemmas.List.Concat.{flat_map-append}
use Rattle.term_core.specs.Datum.{Datum}
use Rattle.term_text.specs.declared.fault.TextFault.TheVariants as faults
use Rattle.term_text.specs.Laws.{SpellsOne, HasOneFault}
use Rattle.term_text.specs.Text.{Spells}
use Rattle.tool_io.specs.Lines.{line}
use Rattle.tool_script.specs.declared.line.Effect.{Effect}
use Rattle.tool_script.specs.declared.line.Effect.TheVariants as effect
use Rattle.tool_script.specs.declared.line.Within.TheVariants as within
use Rattle.tool_script.specs.Line.{first_line, behind_line, is_empty, is_idle, has_dot, within_end, effect_of, IsLineBefore, AreWholeLines}
use Rattle.tool_script.specs.Laws.{IsUnbroken}
use Rattle.tool_script.specs.Script.{ScriptState}
use Rattle.tool_script.specs.Replied.{AreReplies}
use Rattle.tool_script.specs.Shell.{Replies, Looked, Goes}
use Rattle.tool_script.specs.Shell.Looked.{spelled, cut_short, refused}
use Rattle.tool_script.specs.Shell.Goes.{ended, passed, goes_on, looked_at, given_up}
use Rattle.tool_script.proofs.AnswerLemmas.{replied_with}
use Rattle.tool_script.proofs.PieceLemmas.{LeftSpelled, spells_behind, spells_nothing, only_early, line_joined, line_ends, OneLine, one_line, empty_idle, idle_behind, idle_alone}

-- ---- effects

passes_idle : (l : List ℕ) → effect_of [] l ≡ effect.Passes → is_idle l ≡ true
passes_idle l is = by (is_idle l) (has_dot within.Nothing l) is
  where
    by : (a b : Bool) → (if a then effect.Passes else if b then effect.LooksAt else effect.GoesOn) ≡ effect.Passes → a ≡ true
    by true b e = refl
    by false true e = absurd (cc)
    by false false e = absurd (cc)

gives_up_empty : (begun l : List ℕ) → effect_of begun l ≡ effect.GivesUp → is_empty l ≡ true
gives_up_empty [] l is = absurd (by (is_idle l) (has_dot within.Nothing l) is)
  where
    by : (a b : Bool) → (if a then effect.Passes else if b then effect.LooksAt else effect.GoesOn) ≡ effect.GivesUp → ⊥
    by true b e = absurd (cc)
    by false true e = absurd (cc)
    by false false e = absurd (cc)
gives_up_empty (c ∷ begun) l is = by (is_empty l) (has_dot (within_end within.Nothing (c ∷ begun)) l) is
  where
    by : (a b : Bool) → (if a then effect.GivesUp else if b then effect.LooksAt else effect.GoesOn) ≡ effect.GivesUp → a ≡ true
    by true b e = refl
    by false true e = absurd (cc)
    by false false e = absurd (cc)

-- ---- empty lines

-- as `IsUnbroken`, after a pending text
abbrev Unbroken : List ℕ → List ℕ → Type 0
Unbroken begun input =
    (front blank rest : List ℕ) → input ≡ front ++ (blank ++ rest) → AreWholeLines (begun ++ front) → IsLineBefore blank rest → is_empty blank ≡ true
    → (ds : List Datum) × Spells (begun ++ front) ds

-- the pending text may go on, unless nothing is left
abbrev MayGoOn : List ℕ → List ℕ → Type 0
MayGoOn begun input = AreWholeLines begun ⊎ (input ≡ [])

-- a line is appended to the pending text
unbroken_on : (begun l more : List ℕ) → Unbroken begun (l ++ more) → Unbroken (begun ++ l) more
unbroken_on begun l more un = λ front blank rest is lines before empty.
    let found = un (l ++ front) blank rest (ap (λ m. l ++ m) is ∙ sym (append_assoc l front (blank ++ rest))) (subst AreWholeLines (append_assoc begun l front) lines) before empty in
    (found.0, subst (λ m. Spells m found.0) (sym (append_assoc begun l front)) found.1)

no_front : (front rest : List ℕ) → [] ≡ front ++ rest → front ≡ []
no_front [] rest is = refl
no_front (x ∷ front) rest is = absurd cc

unbroken_end : (more : List ℕ) → more ≡ [] → Unbroken [] more
unbroken_end more none = λ front blank rest is lines before empty.
    ([], subst (λ m. Spells m []) (sym (no_front front (blank ++ rest) (sym none ∙ is))) spells_nothing)

joined : (xs ys : List ℕ) → AreWholeLines xs → AreWholeLines ys → AreWholeLines (xs ++ ys)
joined [] ys h k = k
joined (x ∷ []) [] h k = h
joined (x ∷ []) (y ∷ ys) h k = k
joined (x ∷ z ∷ xs) ys h k = joined (z ∷ xs) ys h k

-- the pending text spells terms
unbroken_behind : (text more : List ℕ) (es : List Datum) → AreWholeLines text → Spells text es → Unbroken text more → Unbroken [] more
unbroken_behind text more es lines spells un = λ front blank rest is whole before empty.
    let found = un front blank rest is (joined text front lines whole) before empty in
    let l = spells_behind text front found.0 es lines found.1 spells in
    (l.others, l.spelled)

-- the pending text is an idle line
unbroken_idle : (l more : List ℕ) → AreWholeLines l → is_idle l ≡ true → OneLine l → Unbroken l more → Unbroken [] more
unbroken_idle l more lines idle one un = λ front blank rest is whole before empty.
    let found = un front blank rest is (joined l front lines whole) before empty in
    (found.0, idle_behind l front found.0 one idle lines found.1)

-- ---- what is left

-- the terms that are left after those of a text that was replied to
record Rest (more : List ℕ) (ds es : List Datum) : Type 0 where
  others : List Datum
  joined : ds ≡ es ++ others
  spelled : Spells more others
  unbroken : Unbroken [] more

module _ (once : SpellsOne) where
  rest_behind : (text more : List ℕ) (ds es : List Datum) → MayGoOn text more → Spells (text ++ more) ds → Spells text es → Unbroken text more → Rest more ds es
  rest_behind text more ds es (inl lines) whole here un =
      let l = spells_behind text more ds es lines whole here in
      record { others = l.others; joined = l.joined; spelled = l.spelled; unbroken = unbroken_behind text more es lines here un }
  rest_behind text more ds es (inr none) whole here un =
      let all : Spells text ds = subst (λ m. Spells m ds) (ap (λ m. text ++ m) none ∙ append-nil text) whole in
      record {
        others = [];
        joined = once text ds es all here ∙ sym (append-nil es);
        spelled = subst (λ m. Spells m []) (sym none) spells_nothing;
        unbroken = unbroken_end more none;
      }

  rest_idle : (l more : List ℕ) (ds : List Datum) → MayGoOn l more → is_idle l ≡ true → OneLine l → Spells (l ++ more) ds → Unbroken l more → Rest more ds []
  rest_idle l more ds (inl lines) idle one whole un =
      record { others = ds; joined = refl; spelled = idle_behind l more ds one idle lines whole; unbroken = unbroken_idle l more lines idle one un }
  rest_idle l more ds (inr none) idle one whole un =
      let all : Spells l ds = subst (λ m. Spells m ds) (ap (λ m. l ++ m) none ∙ append-nil l) whole in
      record {
        others = [];
        joined = idle_alone once l ds one idle all;
        spelled = subst (λ m. Spells m []) (sym none) spells_nothing;
        unbroken = unbroken_end more none;
      }

-- ---- lines of an input

-- the input with its next line split off
record Lines (begun input : List ℕ) (ds : List Datum) : Type 0 where
  goes : MayGoOn (begun ++ first_line input) (behind_line input)
  spelled : Spells ((begun ++ first_line input) ++ behind_line input) ds
  unbroken : Unbroken (begun ++ first_line input) (behind_line input)

on_line : (begun input : List ℕ) → MayGoOn begun input → AreWholeLines (first_line input) ⊎ (behind_line input ≡ []) → MayGoOn (begun ++ first_line input) (behind_line input)
on_line begun input may (inr none) = inr none
on_line begun input (inl lines) (inl more) = inl (joined begun (first_line input) lines more)
on_line begun input (inr none) (inl more) = inr (ap behind_line none)

lines_of : (begun input : List ℕ) (ds : List Datum) → MayGoOn begun input → Spells (begun ++ input) ds → Unbroken begun input → Lines begun input ds
lines_of begun input ds may spells un = record {
  goes = on_line begun input may (line_ends input);
  spelled = subst (λ m. Spells m ds) (ap (λ m. begun ++ m) (sym (line_joined input)) ∙ sym (append_assoc begun (first_line input) (behind_line input))) spells;
  unbroken = unbroken_on begun (first_line input) (behind_line input) (subst (Unbroken begun) (sym (line_joined input)) un);
}

-- if an empty line gives up the pending text, that text spells terms
begun_spelled : (begun input : List ℕ) (ds : List Datum) → MayGoOn begun input → Spells (begun ++ input) ds → Unbroken begun input → is_empty (first_line input) ≡ true → (es : List Datum) × Spells begun es
begun_spelled begun input ds (inr none) spells un empty = (ds, subst (λ m. Spells m ds) (ap (λ m. begun ++ m) none ∙ append-nil begun) spells)
begun_spelled begun input ds (inl lines) spells un empty =
    let whole = line_joined input in
    let found = un [] (first_line input) (behind_line input) (sym whole) (subst AreWholeLines (sym (append-nil begun)) lines) (ap first_line whole, ap behind_line whole) empty in
    (found.0, subst (λ m. Spells m found.0) (append-nil begun) found.1)

-- ---- texts that are examined

-- the terms of the text are replied to, and what is left of the terms follows them
record Replied (st behind : ScriptState) (now left more : List ℕ) (ds : List Datum) : Type 0 where
  terms : List Datum
  replies : List Datum
  replied : Replies st terms replies behind
  written : now ≡ flat_map line replies
  none : left ≡ []
  rest : Rest more ds terms

-- the terms of the text are replied to, or the text stays pending
data Comes (st behind : ScriptState) (text now left more : List ℕ) (ds : List Datum) : Type 0 where
  is_replied : Replied st behind now left more ds → Comes st behind text now left more ds
  is_begun : now ≡ [] → behind ≡ st → left ≡ text → Comes st behind text now left more ds

module _ (once : SpellsOne) (one : HasOneFault) where
  comes : (st behind : ScriptState) (text now left more : List ℕ) (ds : List Datum) → MayGoOn text more → Spells (text ++ more) ds → Unbroken text more → Looked false st text now behind left → Comes st behind text now left more ds
  comes st behind text now left more ds may whole un (spelled {ds = es} rs here replies) = is_replied (record { terms = es; replies = rs; replied = replies; written = refl; none = refl; rest = rest_behind once text more ds es may whole here un })
  comes st behind text now left more ds may whole un (cut_short not_given wrong) = is_begun refl refl refl
  comes st behind text now left more ds (inl lines) whole un (refused {f} wrong why) = absurd (why refl (only_early one text more ds f lines whole wrong))
  comes st behind text now left more ds (inr none) whole un (refused {f} wrong why) =
      absurd (wrong.unspelled ds (subst (λ m. Spells m ds) (ap (λ m. text ++ m) none ∙ append-nil text) whole))

  -- a text that is given up spells terms
  comes_up : (st behind : ScriptState) (text now left more : List ℕ) (ds es : List Datum) → Spells text es → MayGoOn text more → Spells (text ++ more) ds → Unbroken text more → Looked true st text now behind left → Replied st behind now left more ds
  comes_up st behind text now left more ds es spells may whole un (spelled {ds = fs} rs here replies) = record { terms = fs; replies = rs; replied = replies; written = refl; none = refl; rest = rest_behind once text more ds fs may whole here un }
  comes_up st behind text now left more ds es spells may whole un (cut_short not_given wrong) = absurd (true≢false not_given)
  comes_up st behind text now left more ds es spells may whole un (refused wrong why) = absurd (wrong.unspelled es spells)

  -- ---- an input

  abbrev Answers : ScriptState → List Datum → List ℕ → Type 0
  Answers st ds out = (replies : List Datum) × AreReplies st ds replies × (out ≡ flat_map line replies)

  -- the replies after a text that was replied to
  answers_with : (st behind : ScriptState) (ds : List Datum) (now left out more : List ℕ) (r : Replied st behind now left more ds) → Answers behind r.rest.others out → Answers st ds (now ++ out)
  answers_with st behind ds now left out more r others =
      subst (λ d. Answers st d (now ++ out)) (sym r.rest.joined) (replied_with st behind r.terms r.rest.others r.replies (now ++ out) out r.replied (ap (λ m. m ++ out) r.written) others)

  -- nothing is pending
  fresh : (left more : List ℕ) → left ≡ [] → MayGoOn left more
  fresh left more none = inl (subst AreWholeLines (sym none) tt)

  pub script_answers : (st after : ScriptState) (begun input out : List ℕ) (ds : List Datum) → MayGoOn begun input → Spells (begun ++ input) ds → Unbroken begun input → Goes st begun input out after → Answers st ds out
  script_answers st after begun input out ds may spells un ended = ([], subst (λ d. AreReplies st d []) (sym (once [] ds [] spells spells_nothing)) tt, refl)
  script_answers st after begun input out ds may spells un (passed {c} {input = cs} is goes) =
      let l = lines_of [] (c ∷ cs) ds (inl tt) spells un in
      let rest = rest_idle once (first_line (c ∷ cs)) (behind_line (c ∷ cs)) ds l.goes (passes_idle (first_line (c ∷ cs)) is) (one_line (c ∷ cs)) l.spelled l.unbroken in
      subst (λ d. Answers st d out) (sym rest.joined) (script_answers st after [] (behind_line (c ∷ cs)) out rest.others (inl tt) rest.spelled rest.unbroken goes)
  script_answers st after begun input out ds may spells un (goes_on is goes) =
      let l = lines_of begun input ds may spells un in
      script_answers st after (begun ++ first_line input) (behind_line input) out ds l.goes l.spelled l.unbroken goes
  script_answers st after begun input out ds may spells un (looked_at {behind} {now} {left} {out = more} is looked goes) =
      let l = lines_of begun input ds may spells un in
      let rest = behind_line input in
      elim (comes st behind (begun ++ first_line input) now left rest ds l.goes l.spelled l.unbroken looked) [
        | is_replied r ↦ answers_with st behind ds now left more rest r
            (script_answers behind after left rest more r.rest.others (fresh left rest r.none) (subst (λ m. Spells (m ++ rest) r.rest.others) (sym r.none) r.rest.spelled) (subst (λ m. Unbroken m rest) (sym r.none) r.rest.unbroken) goes)
        | is_begun nothing same still ↦ subst (λ m. Answers st ds (m ++ more)) (sym nothing) (subst (λ (s : ScriptState). Answers s ds more) same
            (script_answers behind after left rest more ds (subst (λ m. MayGoOn m rest) (sym still) l.goes) (subst (λ m. Spells (m ++ rest) ds) (sym still) l.spelled) (subst (λ m. Unbroken m rest) (sym still) l.unbroken) goes))
      ]
  script_answers st after begun input out ds may spells un (given_up {behind} {now} {left} {out = more} is looked goes) =
      let l = first_line input in
      let lines = behind_line input in
      let apart = line_joined input in
      let empty = gives_up_empty begun l is in
      let here = begun_spelled begun input ds may spells un empty in
      let r = comes_up st behind begun now left (l ++ lines) ds here.0 here.1 (subst (MayGoOn begun) (sym apart) may) (subst (λ m. Spells (begun ++ m) ds) (sym apart) spells) (subst (Unbroken begun) (sym apart) un) looked in
      let next = rest_idle once l lines r.rest.others (line_ends input) (empty_idle l empty) (one_line input) r.rest.spelled (unbroken_on [] l lines r.rest.unbroken) in
      answers_with st behind ds now left more (l ++ lines) r
      (subst (λ d. Answers behind d more) (sym next.joined)
      (script_answers behind after left lines more next.others (fresh left lines r.none) (subst (λ m. Spells (m ++ lines) next.others) (sym r.none) next.spelled) (subst (λ m. Unbroken m lines) (sym r.none) next.unbroken) goes))
