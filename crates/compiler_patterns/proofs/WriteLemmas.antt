-- The lines of patterns, whose parts are written one after the other.
use Rattle.std.proofs.Common.{◌≡◌, Bool, true, false, ◌&&◌, ℕ, zero, suc, ◌+◌, ◌<◌, ◌≤◌, Option, Some, None, List, [], ◌∷◌, ◌++◌, length, get_or, drop, replicate, refl, sym, ◌∙◌, ap, subst, arith}
use Rattle.std.proofs.lemmas.List.{append-nil, drop_all}
use Rattle.std.specs.Option.{is_some}
use Rattle.term_core.specs.Datum.{Datum}
use Rattle.mspec_syntax.specs.Pattern.{Pattern, Patterns, Fields, patterns_of, fields_of, cells_of, own_term, own_terms, pattern_variables, patterns_variables, fields_variables}
use Rattle.mspec_syntax.specs.Pattern.Pattern.{variable, anything, literal, tuple_of, cell_of, map_of}
use Rattle.mspec_syntax.specs.Pattern.Patterns.{no_patterns, pattern}
use Rattle.compiler_assembly.specs.Line.{SourceLine, plain}
use Rattle.compiler_assembly.specs.declared.op.Op.TheVariants as op
use Rattle.compiler_assembly.specs.declared.op.Target.TheVariants.{Failing}
use Rattle.compiler_patterns.specs.Leaves.{same_lines}
use Rattle.compiler_patterns.specs.Written.{Draft, Tracks, Puts, Writes}
use Rattle.compiler_patterns.proofs.WrittenLemmas.{tracks-none, puts-then, then-puts, writes-then, writes-same, puts-writes}
use Rattle.compiler_patterns.specs.Patterns.{pattern_count, same_or, unless_anything, pattern_lines, element_lines, field_lines, head_lines}
use Rattle.compiler_patterns.specs.Spelled.{spells, all_spell}
use Rattle.compiler_patterns.specs.Writable.{is_anything}
use Rattle.compiler_patterns.proofs.SpelledLemmas.{and-left, and-right, split_at, some-cell, some-item, some-map, tuple-spells, cells-spell}
use Rattle.compiler_patterns.proofs.WritableLemmas.{count-length}

-- ---- patterns that spell a term

-- a pattern that spells no term has the lines of its parts
open-lines : (o : Option Datum) (ls : List SourceLine) → is_some o ≡ false → same_or o ls ≡ ls
open-lines None ls h = refl
open-lines (Some d) ls h = absurd (cc)

-- a pattern that spells a term has the lines of this term
spelled-lines : (vs known : List ℕ) (p : Pattern) (d : Datum) → own_term p ≡ Some d → pattern_lines vs known p ≡ same_lines d
spelled-lines vs known (variable n) d is = absurd (cc)
spelled-lines vs known anything d is = absurd (cc)
spelled-lines vs known (literal e) d is = let same : e ≡ d = cc in ap same_lines same
spelled-lines vs known (tuple_of ps) d is =
    ap (λ o. same_or o (plain (op.Tuple (pattern_count ps) Failing) ∷ (element_lines vs known 1 ps ++ plain op.Drop ∷ []))) is
spelled-lines vs known (cell_of p q) d is =
    ap (λ o. same_or o (plain (op.Cons Failing) ∷ plain op.Dup ∷ plain op.Head ∷ (pattern_lines vs known p ++ plain op.Tail ∷ pattern_lines vs (known ++ pattern_variables p) q))) is
spelled-lines vs known (map_of fs) d is = absurd (cc)

mutual
  -- a pattern that spells a term has no variables
  spelled-variables : (p : Pattern) → spells p ≡ true → pattern_variables p ≡ []
  spelled-variables (variable n) h = absurd (cc)
  spelled-variables anything h = refl
  spelled-variables (literal d) h = refl
  spelled-variables (tuple_of ps) h = all-variables ps (sym (some-map (own_terms ps)) ∙ h)
  spelled-variables (cell_of p q) h =
      let both : (spells p && spells q) ≡ true = sym (some-cell (own_term p) (own_term q)) ∙ h in
      ap (λ l. l ++ pattern_variables q) (spelled-variables p (and-left (spells p) (spells q) both))
      ∙ spelled-variables q (and-right (spells p) (spells q) both)
  spelled-variables (map_of fs) h = absurd (cc)

  all-variables : (ps : Patterns) → is_some (own_terms ps) ≡ true → patterns_variables ps ≡ []
  all-variables no_patterns h = refl
  all-variables (pattern p ps) h =
      let both : (spells p && is_some (own_terms ps)) ≡ true = sym (some-item (own_term p) (own_terms ps)) ∙ h in
      ap (λ l. l ++ patterns_variables ps) (spelled-variables p (and-left (spells p) (is_some (own_terms ps)) both))
      ∙ all-variables ps (and-right (spells p) (is_some (own_terms ps)) both)

-- ---- where the longest rest of a list that spells a term begins

and-false : (b : Bool) → (b && false) ≡ false
and-false true = refl
and-false false = refl

all-open : (es : List Pattern) (i j : ℕ) (e : Pattern) → i < length es → spells (get_or es i e) ≡ false → j ≤ i → all_spell (drop j es) ≡ false
all-open [] i j e h no_term below = absurd (omega arith)
all-open (x ∷ es) zero zero e h no_term below = ap (λ b. b && all_spell es) no_term
all-open (x ∷ es) zero (suc j) e h no_term below = absurd (omega arith)
all-open (x ∷ es) (suc i) zero e h no_term below =
    ap (λ b. spells x && b) (all-open es i zero e (omega arith) no_term (omega arith)) ∙ and-false (spells x)
all-open (x ∷ es) (suc i) (suc j) e h no_term below = all-open es i j e (omega arith) no_term (omega arith)

-- no rest that begins at or before an element that spells no term spells one
pub open-before : (es : List Pattern) (t : Pattern) (i j : ℕ) (e : Pattern) → i < length es → e ≡ get_or es i e → spells e ≡ false → j < i + 1 → spells (cells_of (drop j es) t) ≡ false
open-before es t i j e h is no_term below =
    cells-spell (drop j es) t
    ∙ ap (λ b. b && spells t) (all-open es i j e h (sym (ap spells is) ∙ no_term) (omega arith))

-- no rest of a list spells a term if its tail spells none
pub open-tail : (es : List Pattern) (t : Pattern) (j : ℕ) → spells t ≡ false → spells (cells_of (drop j es) t) ≡ false
open-tail es t j no_term =
    cells-spell (drop j es) t ∙ ap (λ b. all_spell (drop j es) && b) no_term ∙ and-false (all_spell (drop j es))

-- a rest with one more element that spells a term spells one
pub rest-more : (es : List Pattern) (t : Pattern) (i : ℕ) (e : Pattern) → i < length es → e ≡ get_or es i e → spells e ≡ true → spells (cells_of (drop (i + 1) es) t) ≡ true → spells (cells_of (drop i es) t) ≡ true
rest-more es t i e h is one rest =
    ap (λ l. spells (cells_of l t)) (split_at es i e h is)
    ∙ some-cell (own_term e) (own_term (cells_of (drop (i + 1) es) t))
    ∙ ap (λ b. b && spells (cells_of (drop (i + 1) es) t)) one
    ∙ rest

-- ---- '_'

pub cells-no_anything : (ps : List Pattern) (t : Pattern) → 0 < length ps → is_anything (cells_of ps t) ≡ false
cells-no_anything [] t h = absurd (omega arith)
cells-no_anything (p ∷ ps) t h = refl

unless-true : (p : Pattern) (ls : List SourceLine) → is_anything p ≡ true → unless_anything p ls ≡ []
unless-true (variable n) ls h = absurd (cc)
unless-true anything ls h = refl
unless-true (literal d) ls h = absurd (cc)
unless-true (tuple_of ps) ls h = absurd (cc)
unless-true (cell_of p q) ls h = absurd (cc)
unless-true (map_of fs) ls h = absurd (cc)

unless-false : (p : Pattern) (ls : List SourceLine) → is_anything p ≡ false → unless_anything p ls ≡ ls
unless-false (variable n) ls h = refl
unless-false anything ls h = absurd (cc)
unless-false (literal d) ls h = refl
unless-false (tuple_of ps) ls h = refl
unless-false (cell_of p q) ls h = refl
unless-false (map_of fs) ls h = refl

anything-variables : (p : Pattern) → is_anything p ≡ true → pattern_variables p ≡ []
anything-variables (variable n) h = absurd (cc)
anything-variables anything h = refl
anything-variables (literal d) h = absurd (cc)
anything-variables (tuple_of ps) h = absurd (cc)
anything-variables (cell_of p q) h = absurd (cc)
anything-variables (map_of fs) h = absurd (cc)

pub head-none : (vs : List ℕ) (p : Pattern) → is_anything p ≡ true → head_lines vs p ≡ []
head-none vs (variable n) h = absurd (cc)
head-none vs anything h = refl
head-none vs (literal d) h = absurd (cc)
head-none vs (tuple_of ps) h = absurd (cc)
head-none vs (cell_of p q) h = absurd (cc)
head-none vs (map_of fs) h = absurd (cc)

pub head-some : (vs : List ℕ) (p : Pattern) → is_anything p ≡ false → head_lines vs p ≡ plain op.Load ∷ pattern_lines vs [] p
head-some vs (variable n) h = refl
head-some vs anything h = absurd (cc)
head-some vs (literal d) h = refl
head-some vs (tuple_of ps) h = refl
head-some vs (cell_of p q) h = refl
head-some vs (map_of fs) h = refl

-- ---- lines of parts

module _ (slots : List ℕ) where
  -- nothing is written for nothing
  writes-none : (a : Draft) → Writes slots (λ k. []) [] a a
  writes-none a =
      record {
        lines = λ k h. sym (append-nil a.lines);
        tracks = λ k h. let P : List ℕ → Type 0 = λ l. Tracks slots a.bound l in subst P (sym (append-nil k)) h;
      }

  -- what is written for a pattern is written for it as it was made
  pub writes-of : {X : Type 0} (make : List X → Pattern) (xs ps : List X) (p : Pattern) (a b : Draft) → make ps ≡ p → xs ≡ ps → Writes slots (λ k. pattern_lines slots k (make xs)) (pattern_variables (make xs)) a b → Writes slots (λ k. pattern_lines slots k p) (pattern_variables p) a b
  writes-of make xs ps p a b is same w =
      let P : Pattern → Type 0 = λ q. Writes slots (λ k. pattern_lines slots k q) (pattern_variables q) a b in
      subst P (ap make same ∙ is) w

  pub writes-at : (q p : Pattern) (a b : Draft) → q ≡ p → Writes slots (λ k. pattern_lines slots k q) (pattern_variables q) a b → Writes slots (λ k. pattern_lines slots k p) (pattern_variables p) a b
  writes-at q p a b is w =
      let P : Pattern → Type 0 = λ r. Writes slots (λ k. pattern_lines slots k r) (pattern_variables r) a b in
      subst P is w

  -- the term that a pattern spells is written
  pub same-writes : (p : Pattern) (d : Datum) (a b : Draft) → own_term p ≡ Some d → Puts (same_lines d) a b → Writes slots (λ k. pattern_lines slots k p) (pattern_variables p) a b
  same-writes p d a b own put =
      writes-same slots (λ k. same_lines d) (λ k. pattern_lines slots k p) [] (pattern_variables p) a b
      (λ k t. sym (spelled-lines slots k p d own)) (sym (spelled-variables p (ap is_some own)))
      (puts-writes slots (same_lines d) a b put)

  -- a tuple is written whose elements don't all spell terms
  pub tuple-writes : (ps : List Pattern) (n : ℕ) (a b c d : Draft) → all_spell ps ≡ false → n ≡ length ps → Puts (plain (op.Tuple n Failing) ∷ []) a b → Writes slots (λ k. element_lines slots k 1 (patterns_of ps)) (patterns_variables (patterns_of ps)) b c → Puts (plain op.Drop ∷ []) c d
      → Writes slots (λ k. pattern_lines slots k (tuple_of (patterns_of ps))) (patterns_variables (patterns_of ps)) a d
  tuple-writes ps n a b c d opened size put w end =
      let elements = λ (k : List ℕ). element_lines slots k 1 (patterns_of ps) in
      let names = patterns_variables (patterns_of ps) in
      let last = then-puts slots (plain op.Drop ∷ []) elements names b c d w end in
      let all = puts-then slots (plain (op.Tuple n Failing) ∷ []) (λ k. elements k ++ plain op.Drop ∷ []) names a b d put last in
      let no_term : is_some (own_term (tuple_of (patterns_of ps))) ≡ false = tuple-spells ps ∙ opened in
      writes-same slots (λ k. plain (op.Tuple n Failing) ∷ (elements k ++ plain op.Drop ∷ [])) (λ k. pattern_lines slots k (tuple_of (patterns_of ps))) names names a d
      (λ k t.
      ap (λ m. plain (op.Tuple m Failing) ∷ (elements k ++ plain op.Drop ∷ [])) (size ∙ sym (count-length ps))
      ∙ sym (open-lines (own_term (tuple_of (patterns_of ps))) (plain (op.Tuple (pattern_count (patterns_of ps)) Failing) ∷ (elements k ++ plain op.Drop ∷ [])) no_term))
      refl all

  -- nothing is written for an element that is '_'
  pub element-none : (p : Pattern) (i : ℕ) (a : Draft) → is_anything p ≡ true → Writes slots (λ k. unless_anything p (plain op.Dup ∷ plain (op.Field i) ∷ pattern_lines slots k p)) (pattern_variables p) a a
  element-none p i a h =
      writes-same slots (λ k. []) (λ k. unless_anything p (plain op.Dup ∷ plain (op.Field i) ∷ pattern_lines slots k p)) [] (pattern_variables p) a a
      (λ k t. sym (unless-true p (plain op.Dup ∷ plain (op.Field i) ∷ pattern_lines slots k p) h)) (sym (anything-variables p h)) (writes-none a)

  -- any other element is written
  pub element-writes : (p : Pattern) (i : ℕ) (a b c d : Draft) → is_anything p ≡ false → Puts (plain op.Dup ∷ []) a b → Puts (plain (op.Field i) ∷ []) b c → Writes slots (λ k. pattern_lines slots k p) (pattern_variables p) c d
      → Writes slots (λ k. unless_anything p (plain op.Dup ∷ plain (op.Field i) ∷ pattern_lines slots k p)) (pattern_variables p) a d
  element-writes p i a b c d h dup get w =
      let own = λ (k : List ℕ). pattern_lines slots k p in
      let names = pattern_variables p in
      let behind = puts-then slots (plain (op.Field i) ∷ []) own names b c d get w in
      let all = puts-then slots (plain op.Dup ∷ []) (λ k. plain (op.Field i) ∷ own k) names a b d dup behind in
      writes-same slots (λ k. plain op.Dup ∷ plain (op.Field i) ∷ own k) (λ k. unless_anything p (plain op.Dup ∷ plain (op.Field i) ∷ own k)) names names a d
      (λ k t. sym (unless-false p (plain op.Dup ∷ plain (op.Field i) ∷ own k) h)) refl all

  -- an element is written, and then the others
  pub elements-step : (ps : List Pattern) (i number : ℕ) (p : Pattern) (a b c : Draft) → i < length ps → p ≡ get_or ps i p → number ≡ i + 1 → Writes slots (λ k. unless_anything p (plain op.Dup ∷ plain (op.Field number) ∷ pattern_lines slots k p)) (pattern_variables p) a b → Writes slots (λ k. element_lines slots k (suc (i + 1)) (patterns_of (drop (i + 1) ps))) (patterns_variables (patterns_of (drop (i + 1) ps))) b c
      → Writes slots (λ k. element_lines slots k (suc i) (patterns_of (drop i ps))) (patterns_variables (patterns_of (drop i ps))) a c
  elements-step ps i number p a b c h is at w rest =
      let others = patterns_of (drop (i + 1) ps) in
      let q : number ≡ suc i = omega (arith, at) in
      let r : suc (i + 1) ≡ suc (suc i) = omega arith in
      let N : ℕ → Type 0 = λ m. Writes slots (λ k. unless_anything p (plain op.Dup ∷ plain (op.Field m) ∷ pattern_lines slots k p)) (pattern_variables p) a b in
      let M : ℕ → Type 0 = λ m. Writes slots (λ k. element_lines slots k m others) (patterns_variables others) b c in
      let P : List Pattern → Type 0 = λ l. Writes slots (λ k. element_lines slots k (suc i) (patterns_of l)) (patterns_variables (patterns_of l)) a c in
      subst P (sym (split_at ps i p h is))
      (writes-then slots (λ k. unless_anything p (plain op.Dup ∷ plain (op.Field (suc i)) ∷ pattern_lines slots k p)) (λ k. element_lines slots k (suc (suc i)) others) (pattern_variables p) (patterns_variables others) a b c (subst N q w) (subst M r rest))

  -- no element is left
  pub elements-end : (ps : List Pattern) (i : ℕ) (a : Draft) → length ps ≤ i → Writes slots (λ k. element_lines slots k (suc i) (patterns_of (drop i ps))) (patterns_variables (patterns_of (drop i ps))) a a
  elements-end ps i a h =
      let P : List Pattern → Type 0 = λ l. Writes slots (λ k. element_lines slots k (suc i) (patterns_of l)) (patterns_variables (patterns_of l)) a a in
      subst P (sym (drop_all i ps h)) (writes-none a)

  -- the head of a list is written
  pub head-writes : (p : Pattern) (a b c d e : Draft) → Puts (plain (op.Cons Failing) ∷ []) a b → Puts (plain op.Dup ∷ []) b c → Puts (plain op.Head ∷ []) c d → Writes slots (λ k. pattern_lines slots k p) (pattern_variables p) d e
      → Writes slots (λ k. plain (op.Cons Failing) ∷ plain op.Dup ∷ plain op.Head ∷ pattern_lines slots k p) (pattern_variables p) a e
  head-writes p a b c d e test dup get w =
      let own = λ (k : List ℕ). pattern_lines slots k p in
      let names = pattern_variables p in
      puts-then slots (plain (op.Cons Failing) ∷ []) (λ k. plain op.Dup ∷ plain op.Head ∷ own k) names a b e test
      (puts-then slots (plain op.Dup ∷ []) (λ k. plain op.Head ∷ own k) names b c e dup
      (puts-then slots (plain op.Head ∷ []) own names c d e get w))

  -- a cell of a list that spells no term is written, and then its tail
  pub cells-step : (ps : List Pattern) (t : Pattern) (i : ℕ) (p : Pattern) (a b c d : Draft) → i < length ps → p ≡ get_or ps i p → spells (cells_of (drop i ps) t) ≡ false → Writes slots (λ k. plain (op.Cons Failing) ∷ plain op.Dup ∷ plain op.Head ∷ pattern_lines slots k p) (pattern_variables p) a b → Puts (plain op.Tail ∷ []) b c → Writes slots (λ k. pattern_lines slots k (cells_of (drop (i + 1) ps) t)) (pattern_variables (cells_of (drop (i + 1) ps) t)) c d
      → Writes slots (λ k. pattern_lines slots k (cells_of (drop i ps) t)) (pattern_variables (cells_of (drop i ps) t)) a d
  cells-step ps t i p a b c d h is opened w next rest =
      let q = cells_of (drop (i + 1) ps) t in
      let own = λ (k : List ℕ). plain (op.Cons Failing) ∷ plain op.Dup ∷ plain op.Head ∷ pattern_lines slots k p in
      let behind = λ (k : List ℕ). plain op.Tail ∷ pattern_lines slots k q in
      let all = writes-then slots own behind (pattern_variables p) (pattern_variables q) a b d w (puts-then slots (plain op.Tail ∷ []) (λ k. pattern_lines slots k q) (pattern_variables q) b c d next rest) in
      let no_term : spells (cell_of p q) ≡ false = sym (ap (λ l. spells (cells_of l t)) (split_at ps i p h is)) ∙ opened in
      let names = pattern_variables p ++ pattern_variables q in
      let P : List Pattern → Type 0 = λ l. Writes slots (λ k. pattern_lines slots k (cells_of l t)) (pattern_variables (cells_of l t)) a d in
      subst P (sym (split_at ps i p h is))
      (writes-same slots (λ k. own k ++ behind (k ++ pattern_variables p)) (λ k. pattern_lines slots k (cell_of p q)) names names a d
      (λ k s. sym (open-lines (own_term (cell_of p q)) (own k ++ behind (k ++ pattern_variables p)) no_term))
      refl all)

  -- only the tail of a list is left
  pub cells-end : (ps : List Pattern) (t : Pattern) (i : ℕ) (a b : Draft) → length ps ≤ i → Writes slots (λ k. pattern_lines slots k t) (pattern_variables t) a b → Writes slots (λ k. pattern_lines slots k (cells_of (drop i ps) t)) (pattern_variables (cells_of (drop i ps) t)) a b
  cells-end ps t i a b h w =
      let P : List Pattern → Type 0 = λ l. Writes slots (λ k. pattern_lines slots k (cells_of l t)) (pattern_variables (cells_of l t)) a b in
      subst P (sym (drop_all i ps h)) w

  -- a map is written
  pub map-writes : (fs : Fields) (a b c d : Draft) → Puts (plain (op.Map Failing) ∷ []) a b → Writes slots (λ k. field_lines slots k fs) (fields_variables fs) b c → Puts (plain op.Drop ∷ []) c d → Writes slots (λ k. pattern_lines slots k (map_of fs)) (fields_variables fs) a d
  map-writes fs a b c d put w end =
      let own = λ (k : List ℕ). field_lines slots k fs in
      let names = fields_variables fs in
      puts-then slots (plain (op.Map Failing) ∷ []) (λ k. own k ++ plain op.Drop ∷ []) names a b d put
      (then-puts slots (plain op.Drop ∷ []) own names b c d w end)

  -- the value of a key is written
  pub field-writes : (key copied : Datum) (p : Pattern) (a b c d : Draft) → copied ≡ key → Puts (plain op.Dup ∷ []) a b → Puts (plain (op.Value copied Failing) ∷ []) b c → Writes slots (λ k. pattern_lines slots k p) (pattern_variables p) c d
      → Writes slots (λ k. plain op.Dup ∷ plain (op.Value key Failing) ∷ pattern_lines slots k p) (pattern_variables p) a d
  field-writes key copied p a b c d same dup get w =
      let P : Datum → Type 0 = λ x. Puts (plain (op.Value x Failing) ∷ []) b c in
      let own = λ (k : List ℕ). pattern_lines slots k p in
      let names = pattern_variables p in
      puts-then slots (plain op.Dup ∷ []) (λ k. plain (op.Value key Failing) ∷ own k) names a b d dup
      (puts-then slots (plain (op.Value key Failing) ∷ []) own names b c d (subst P same get) w)

  -- a key is written, and then the others
  pub fields-step : (fs : List (Datum × Pattern)) (i : ℕ) (f : Datum × Pattern) (a b c : Draft) → i < length fs → f ≡ get_or fs i f → Writes slots (λ k. plain op.Dup ∷ plain (op.Value f.0 Failing) ∷ pattern_lines slots k f.1) (pattern_variables f.1) a b → Writes slots (λ k. field_lines slots k (fields_of (drop (i + 1) fs))) (fields_variables (fields_of (drop (i + 1) fs))) b c
      → Writes slots (λ k. field_lines slots k (fields_of (drop i fs))) (fields_variables (fields_of (drop i fs))) a c
  fields-step fs i f a b c h is w rest =
      let others = fields_of (drop (i + 1) fs) in
      let P : List (Datum × Pattern) → Type 0 = λ l. Writes slots (λ k. field_lines slots k (fields_of l)) (fields_variables (fields_of l)) a c in
      subst P (sym (split_at fs i f h is))
      (writes-then slots (λ k. plain op.Dup ∷ plain (op.Value f.0 Failing) ∷ pattern_lines slots k f.1) (λ k. field_lines slots k others) (pattern_variables f.1) (fields_variables others) a b c w rest)

  -- no key is left
  pub fields-end : (fs : List (Datum × Pattern)) (i : ℕ) (a : Draft) → length fs ≤ i → Writes slots (λ k. field_lines slots k (fields_of (drop i fs))) (fields_variables (fields_of (drop i fs))) a a
  fields-end fs i a h =
      let P : List (Datum × Pattern) → Type 0 = λ l. Writes slots (λ k. field_lines slots k (fields_of l)) (fields_variables (fields_of l)) a a in
      subst P (sym (drop_all i fs h)) (writes-none a)

-- the head of a clause is written into an empty draft
pub head-written : (s slots : List ℕ) (p : Pattern) (n : ℕ) (a b c : Draft) (old new : List SourceLine) → s ≡ slots → n ≡ length slots → a ≡ record { bound = replicate n false; lines = [] } → is_anything p ≡ false → Puts (plain op.Load ∷ []) a b → Writes s (λ k. pattern_lines s k p) (pattern_variables p) b c → new ≡ c.lines ++ old → new ≡ head_lines slots p ++ old
head-written s slots p n a b c old new same size start some load w is =
    let P : List ℕ → Type 0 = λ v. Writes v (λ k. pattern_lines v k p) (pattern_variables p) b c in
    let T : List Bool → Type 0 = λ bound. Tracks slots bound [] in
    let all = puts-then slots (plain op.Load ∷ []) (λ k. pattern_lines slots k p) (pattern_variables p) a b c load (subst P same w) in
    let none : Tracks slots a.bound [] = subst T (sym (ap (λ d. d.bound) start)) (tracks-none slots n size) in
    is ∙ ap (λ l. l ++ old)
    (all.lines [] none
    ∙ ap (λ l. l ++ plain op.Load ∷ pattern_lines slots [] p) (ap (λ d. d.lines) start)
    ∙ sym (head-some slots p some))
