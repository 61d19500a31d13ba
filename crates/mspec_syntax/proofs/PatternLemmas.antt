-- Patterns read from terms: what is read has no fault, and lists are read by reading their elements.
use Rattle.std.proofs.Common.{◌≡◌, ℕ, suc, ◌+◌, ◌<◌, ◌≤◌, inl, inr, Option, Some, None, List, [], ◌∷◌, ◌++◌, length, get_or, drop, refl, sym, ◌∙◌, ap, subst, arith, drop-cons, add-one}
use Rattle.std.proofs.lemmas.List.{append_assoc, drop_all}
use Rattle.term_core.specs.Datum.{Datum, Items, Entries, items_of, entries_of, cells, IsNoList}
use Rattle.term_core.specs.Datum.Datum.{integer, atom, tuple, map, nil, cons, binary}
use Rattle.term_core.specs.Datum.Items.{no_items, item}
use Rattle.term_core.specs.Datum.Entries.{no_entries, entry}
use Rattle.term_core.specs.Term.{tail_of, IsTail}
use Rattle.mspec_syntax.specs.Pattern.{Pattern, Patterns, Fields, patterns_of, fields_of, cells_of, IsNoListPattern, pattern_variables, patterns_variables, fields_variables}
use Rattle.mspec_syntax.specs.Pattern.Pattern.{literal, tuple_of, cell_of, map_of}
use Rattle.mspec_syntax.specs.Pattern.Patterns.{no_patterns, pattern}
use Rattle.mspec_syntax.specs.Pattern.Fields.{no_fields, field}
use Rattle.mspec_syntax.specs.Word.{word_of}
use Rattle.mspec_syntax.specs.Grammar.{is_misnumbered, IsKey, IsAtomPattern, IsPattern, ArePatterns, AreFields}
use Rattle.mspec_syntax.specs.Faults.{fault_if, key_faults, pattern_faults, items_faults, entries_faults, named_variables, items_variables, entries_variables, word_variables, head_faults, Refuses}
use Rattle.mspec_syntax.specs.declared.word.Word.{Word}
use Rattle.mspec_syntax.specs.declared.word.Word.TheVariants as word
use Rattle.mspec_syntax.specs.declared.fault.SpecFault.{SpecFault}
use Rattle.mspec_syntax.specs.declared.fault.SpecFault.TheVariants.{BadHead, BadVariableName, VariableInMapKey}

IsAtomPattern-faults : (i : ℕ) (cs : List ℕ) (w : Word) (p : Pattern) → IsAtomPattern cs w p → fault_if (is_misnumbered w) (BadVariableName i) ≡ []
IsAtomPattern-faults i cs (word.Variable n) p h = refl
IsAtomPattern-faults i cs word.Misnumbered p h = absurd h
IsAtomPattern-faults i cs word.Underscore p h = refl
IsAtomPattern-faults i cs word.Object p h = refl
IsAtomPattern-faults i cs word.Bindings p h = refl
IsAtomPattern-faults i cs word.Plain p h = refl

pub both_empty : {X : Type 0} {xs ys : List X} → xs ≡ [] → ys ≡ [] → xs ++ ys ≡ []
both_empty {X} {xs} {ys} e f = ap (λ l. l ++ ys) e ∙ f

IsKey-faults : (i : ℕ) (k : Datum) → IsKey k → key_faults i k ≡ []
IsKey-faults i k h = both_empty (ap (λ b. fault_if b (VariableInMapKey i)) h.whole) (ap (λ b. fault_if b (BadVariableName i)) h.numbered)

mutual
  -- a term that is read as a pattern has no fault
  pub IsPattern-faults : (i : ℕ) (d : Datum) (p : Pattern) → IsPattern d p → pattern_faults i d ≡ []
  IsPattern-faults i (integer z) p h = refl
  IsPattern-faults i (atom cs) p h = IsAtomPattern-faults i cs (word_of cs) p h
  IsPattern-faults i (tuple ds) (tuple_of ps) h = ArePatterns-faults i ds ps h
  IsPattern-faults i (tuple ds) p h = absurd h
  IsPattern-faults i (map es) (map_of fs) h = AreFields-faults i es fs h
  IsPattern-faults i (map es) p h = absurd h
  IsPattern-faults i nil p h = refl
  IsPattern-faults i (cons head tail) (cell_of p q) h = both_empty (IsPattern-faults i head p h.0) (IsPattern-faults i tail q h.1)
  IsPattern-faults i (cons head tail) p h = absurd h
  IsPattern-faults i (binary bs) p h = refl

  pub ArePatterns-faults : (i : ℕ) (ds : Items) (ps : Patterns) → ArePatterns ds ps → items_faults i ds ≡ []
  ArePatterns-faults i no_items ps h = refl
  ArePatterns-faults i (item d ds) no_patterns h = absurd h
  ArePatterns-faults i (item d ds) (pattern p ps) h = both_empty (IsPattern-faults i d p h.0) (ArePatterns-faults i ds ps h.1)

  pub AreFields-faults : (i : ℕ) (es : Entries) (fs : Fields) → AreFields es fs → entries_faults i es ≡ []
  AreFields-faults i no_entries fs h = refl
  AreFields-faults i (entry k v es) no_fields h = absurd h
  AreFields-faults i (entry k v es) (field l p fs) h =
      both_empty (IsKey-faults i k h.0) (both_empty (IsPattern-faults i v p h.2) (AreFields-faults i es fs h.3))

IsAtomPattern-variables : (cs : List ℕ) (w : Word) (p : Pattern) → IsAtomPattern cs w p → word_variables w ≡ pattern_variables p
IsAtomPattern-variables cs (word.Variable n) p h = ap pattern_variables (sym h)
IsAtomPattern-variables cs word.Misnumbered p h = absurd h
IsAtomPattern-variables cs word.Underscore p h = ap pattern_variables (sym h)
IsAtomPattern-variables cs word.Object p h = ap pattern_variables (sym h)
IsAtomPattern-variables cs word.Bindings p h = ap pattern_variables (sym h)
IsAtomPattern-variables cs word.Plain p h = ap pattern_variables (sym h)

both_same : {X : Type 0} {xs ys vs ws : List X} → xs ≡ vs → ys ≡ ws → xs ++ ys ≡ vs ++ ws
both_same {X} {xs} {ys} {vs} {ws} e f = ap (λ l. l ++ ys) e ∙ ap (λ l. vs ++ l) f

mutual
  -- a pattern has the variables that its term names
  pub IsPattern-variables : (d : Datum) (p : Pattern) → IsPattern d p → named_variables d ≡ pattern_variables p
  IsPattern-variables (integer z) p h = ap pattern_variables (sym h)
  IsPattern-variables (atom cs) p h = IsAtomPattern-variables cs (word_of cs) p h
  IsPattern-variables (tuple ds) (tuple_of ps) h = ArePatterns-variables ds ps h
  IsPattern-variables (tuple ds) p h = absurd h
  IsPattern-variables (map es) (map_of fs) h = AreFields-variables es fs h
  IsPattern-variables (map es) p h = absurd h
  IsPattern-variables nil p h = ap pattern_variables (sym h)
  IsPattern-variables (cons head tail) (cell_of p q) h = both_same (IsPattern-variables head p h.0) (IsPattern-variables tail q h.1)
  IsPattern-variables (cons head tail) p h = absurd h
  IsPattern-variables (binary bs) p h = ap pattern_variables (sym h)

  ArePatterns-variables : (ds : Items) (ps : Patterns) → ArePatterns ds ps → items_variables ds ≡ patterns_variables ps
  ArePatterns-variables no_items no_patterns h = refl
  ArePatterns-variables no_items (pattern p ps) h = absurd h
  ArePatterns-variables (item d ds) no_patterns h = absurd h
  ArePatterns-variables (item d ds) (pattern p ps) h = both_same (IsPattern-variables d p h.0) (ArePatterns-variables ds ps h.1)

  AreFields-variables : (es : Entries) (fs : Fields) → AreFields es fs → entries_variables es ≡ fields_variables fs
  AreFields-variables no_entries no_fields h = refl
  AreFields-variables no_entries (field l p fs) h = absurd h
  AreFields-variables (entry k v es) no_fields h = absurd h
  AreFields-variables (entry k v es) (field l p fs) h = both_same (IsPattern-variables v p h.2) (AreFields-variables es fs h.3)

IsAtomPattern-one : (cs : List ℕ) (w : Word) (p q : Pattern) → IsAtomPattern cs w p → IsAtomPattern cs w q → p ≡ q
IsAtomPattern-one cs (word.Variable n) p q h k = h ∙ sym k
IsAtomPattern-one cs word.Misnumbered p q h k = absurd h
IsAtomPattern-one cs word.Underscore p q h k = h ∙ sym k
IsAtomPattern-one cs word.Object p q h k = h ∙ sym k
IsAtomPattern-one cs word.Bindings p q h k = h ∙ sym k
IsAtomPattern-one cs word.Plain p q h k = h ∙ sym k

mutual
  -- a term is read as at most one pattern
  pub IsPattern-one : (d : Datum) (p q : Pattern) → IsPattern d p → IsPattern d q → p ≡ q
  IsPattern-one (integer z) p q h k = h ∙ sym k
  IsPattern-one (atom cs) p q h k = IsAtomPattern-one cs (word_of cs) p q h k
  IsPattern-one (tuple ds) (tuple_of ps) (tuple_of qs) h k = ap tuple_of (ArePatterns-one ds ps qs h k)
  IsPattern-one (tuple ds) (tuple_of ps) q h k = absurd k
  IsPattern-one (tuple ds) p q h k = absurd h
  IsPattern-one (map es) (map_of fs) (map_of gs) h k = ap map_of (AreFields-one es fs gs h k)
  IsPattern-one (map es) (map_of fs) q h k = absurd k
  IsPattern-one (map es) p q h k = absurd h
  IsPattern-one nil p q h k = h ∙ sym k
  IsPattern-one (cons head tail) (cell_of p q) (cell_of r s) h k =
      let first = IsPattern-one head p r h.0 k.0 in let rest = IsPattern-one tail q s h.1 k.1 in cc
  IsPattern-one (cons head tail) (cell_of p q) r h k = absurd k
  IsPattern-one (cons head tail) p q h k = absurd h
  IsPattern-one (binary bs) p q h k = h ∙ sym k

  ArePatterns-one : (ds : Items) (ps qs : Patterns) → ArePatterns ds ps → ArePatterns ds qs → ps ≡ qs
  ArePatterns-one no_items no_patterns no_patterns h k = refl
  ArePatterns-one no_items no_patterns (pattern q qs) h k = absurd k
  ArePatterns-one no_items (pattern p ps) qs h k = absurd h
  ArePatterns-one (item d ds) no_patterns qs h k = absurd h
  ArePatterns-one (item d ds) (pattern p ps) no_patterns h k = absurd k
  ArePatterns-one (item d ds) (pattern p ps) (pattern q qs) h k =
      let first = IsPattern-one d p q h.0 k.0 in let rest = ArePatterns-one ds ps qs h.1 k.1 in cc

  AreFields-one : (es : Entries) (fs gs : Fields) → AreFields es fs → AreFields es gs → fs ≡ gs
  AreFields-one no_entries no_fields no_fields h k = refl
  AreFields-one no_entries no_fields (field l q gs) h k = absurd k
  AreFields-one no_entries (field l p fs) gs h k = absurd h
  AreFields-one (entry k v es) no_fields gs h i = absurd h
  AreFields-one (entry k v es) (field l p fs) no_fields h i = absurd i
  AreFields-one (entry k v es) (field l p fs) (field m q gs) h i =
      let key : l ≡ m = h.1 ∙ sym i.1 in
      let first = IsPattern-one v p q h.2 i.2 in let rest = AreFields-one es fs gs h.3 i.3 in cc

-- the first fault stays first if more faults follow it, or none are before it
pub Refuses-before : (f : SpecFault) (faults more : List SpecFault) → Refuses f faults → Refuses f (faults ++ more)
Refuses-before f faults more (inl h) = inl h
Refuses-before f faults more (inr h) = inr (record { others = h.others ++ more; first = ap (λ l. l ++ more) h.first })

pub Refuses-behind : (f : SpecFault) (faults more : List SpecFault) → faults ≡ [] → Refuses f more → Refuses f (faults ++ more)
Refuses-behind f faults more e h = let P : List SpecFault → Type 0 = λ l. Refuses f (l ++ more) in subst P (sym e) h

pub Refuses-same : (f : SpecFault) (faults others : List SpecFault) → faults ≡ others → Refuses f faults → Refuses f others
Refuses-same f faults others e h = let P : List SpecFault → Type 0 = λ l. Refuses f l in subst P e h

-- patterns followed by others
abbrev pub patterns_before : List Pattern → Patterns → Patterns
patterns_before [] rest = rest
patterns_before (p ∷ ps) rest = pattern p (patterns_before ps rest)

patterns_before-none : (ps : List Pattern) → patterns_before ps no_patterns ≡ patterns_of ps
patterns_before-none [] = refl
patterns_before-none (p ∷ ps) = ap (pattern p) (patterns_before-none ps)

patterns_before-push : (ps : List Pattern) (p : Pattern) (rest : Patterns) → patterns_before (ps ++ p ∷ []) rest ≡ patterns_before ps (pattern p rest)
patterns_before-push [] p rest = refl
patterns_before-push (q ∷ ps) p rest = ap (pattern q) (patterns_before-push ps p rest)

-- the first i terms are read as these patterns
pub record ReadsFront (clause : ℕ) (ds : List Datum) (i : ℕ) (ps : List Pattern) : Type 0 where
  pub whole : (rest : Patterns) → ArePatterns (items_of (drop i ds)) rest → ArePatterns (items_of ds) (patterns_before ps rest)
  pub clean : items_faults clause (items_of (drop i ds)) ≡ items_faults clause (items_of ds)

pub split_at : {X : Type 0} (xs : List X) (i : ℕ) (x : X) → i < length xs → x ≡ get_or xs i x → drop i xs ≡ x ∷ drop (i + 1) xs
split_at xs i x h e = drop-cons xs i x h ∙ ap (λ y. y ∷ drop (suc i) xs) (sym e) ∙ ap (λ j. x ∷ drop j xs) (sym (add-one i))

pub ReadsFront-more : (clause : ℕ) (ds : List Datum) (i : ℕ) (x : Datum) (ps qs : List Pattern) (p : Pattern) → i < length ds → x ≡ get_or ds i x → IsPattern x p → qs ≡ ps ++ p ∷ [] → ReadsFront clause ds i ps → ReadsFront clause ds (i + 1) qs
ReadsFront-more clause ds i x ps qs p within is one pushed front =
    let split : drop i ds ≡ x ∷ drop (i + 1) ds = split_at ds i x within is in
    record {
      whole = λ rest h.
          let given : ArePatterns (items_of (x ∷ drop (i + 1) ds)) (pattern p rest) = (one, h) in
          rw (pushed, patterns_before-push ps p rest) (front.whole (pattern p rest) (rw split given));
      clean =
          let known = rw split at front.clean in
          sym (ap (λ l. l ++ items_faults clause (items_of (drop (i + 1) ds))) (IsPattern-faults clause x p one)) ∙ known;
    }

pub ReadsFront-all : (clause : ℕ) (ds : List Datum) (i : ℕ) (ps : List Pattern) → length ds ≤ i → ReadsFront clause ds i ps → ArePatterns (items_of ds) (patterns_of ps)
ReadsFront-all clause ds i ps end front =
    let none : drop i ds ≡ [] = drop_all i ds end in
    let given : ArePatterns (items_of (drop i ds)) no_patterns = rw none tt in
    rw (← patterns_before-none ps) (front.whole no_patterns given)

pub ReadsFront-refuses : (clause : ℕ) (ds : List Datum) (i : ℕ) (x : Datum) (ps : List Pattern) (f : SpecFault) → i < length ds → x ≡ get_or ds i x → ReadsFront clause ds i ps → Refuses f (pattern_faults clause x) → Refuses f (items_faults clause (items_of ds))
ReadsFront-refuses clause ds i x ps f within is front h =
    let split : drop i ds ≡ x ∷ drop (i + 1) ds = split_at ds i x within is in
    let known = rw split at front.clean in
    Refuses-same f _ _ known (Refuses-before f (pattern_faults clause x) (items_faults clause (items_of (drop (i + 1) ds))) h)

-- keys and patterns followed by others
abbrev pub fields_before : List (Datum × Pattern) → Fields → Fields
fields_before [] rest = rest
fields_before (f ∷ fs) rest = field f.0 f.1 (fields_before fs rest)

fields_before-none : (fs : List (Datum × Pattern)) → fields_before fs no_fields ≡ fields_of fs
fields_before-none [] = refl
fields_before-none (f ∷ fs) = ap (field f.0 f.1) (fields_before-none fs)

fields_before-push : (fs : List (Datum × Pattern)) (f : Datum × Pattern) (rest : Fields) → fields_before (fs ++ f ∷ []) rest ≡ fields_before fs (field f.0 f.1 rest)
fields_before-push [] f rest = refl
fields_before-push (g ∷ fs) f rest = ap (field g.0 g.1) (fields_before-push fs f rest)

-- the first i pairs are read as these keys and patterns
pub record FieldsFront (clause : ℕ) (es : List (Datum × Datum)) (i : ℕ) (fs : List (Datum × Pattern)) : Type 0 where
  pub whole : (rest : Fields) → AreFields (entries_of (drop i es)) rest → AreFields (entries_of es) (fields_before fs rest)
  pub clean : entries_faults clause (entries_of (drop i es)) ≡ entries_faults clause (entries_of es)

pub FieldsFront-more : (clause : ℕ) (es : List (Datum × Datum)) (i : ℕ) (e : Datum × Datum) (fs gs : List (Datum × Pattern)) (k : Datum) (p : Pattern) → i < length es → e ≡ get_or es i e → IsKey e.0 → k ≡ e.0 → IsPattern e.1 p → gs ≡ fs ++ (k, p) ∷ [] → FieldsFront clause es i fs → FieldsFront clause es (i + 1) gs
FieldsFront-more clause es i e fs gs k p within is key same one pushed front =
    let split : drop i es ≡ e ∷ drop (i + 1) es = split_at es i e within is in
    record {
      whole = λ rest h.
          let given : AreFields (entries_of (e ∷ drop (i + 1) es)) (field k p rest) = (key, same, one, h) in
          rw (pushed, fields_before-push fs (k, p) rest) (front.whole (field k p rest) (rw split given));
      clean =
          let known = rw split at front.clean in
          let rest = entries_faults clause (entries_of (drop (i + 1) es)) in
          sym (ap (λ l. l ++ (pattern_faults clause e.1 ++ rest)) (IsKey-faults clause e.0 key) ∙ ap (λ l. l ++ rest) (IsPattern-faults clause e.1 p one)) ∙ known;
    }

pub FieldsFront-all : (clause : ℕ) (es : List (Datum × Datum)) (i : ℕ) (fs : List (Datum × Pattern)) → length es ≤ i → FieldsFront clause es i fs → AreFields (entries_of es) (fields_of fs)
FieldsFront-all clause es i fs end front =
    let none : drop i es ≡ [] = drop_all i es end in
    let given : AreFields (entries_of (drop i es)) no_fields = rw none tt in
    rw (← fields_before-none fs) (front.whole no_fields given)

pub FieldsFront-refuses_key : (clause : ℕ) (es : List (Datum × Datum)) (i : ℕ) (e : Datum × Datum) (fs : List (Datum × Pattern)) (f : SpecFault) → i < length es → e ≡ get_or es i e → FieldsFront clause es i fs → Refuses f (key_faults clause e.0) → Refuses f (entries_faults clause (entries_of es))
FieldsFront-refuses_key clause es i e fs f within is front h =
    let split : drop i es ≡ e ∷ drop (i + 1) es = split_at es i e within is in
    let known = rw split at front.clean in
    Refuses-same f _ _ known (Refuses-before f (key_faults clause e.0) (pattern_faults clause e.1 ++ entries_faults clause (entries_of (drop (i + 1) es))) h)

pub FieldsFront-refuses_value : (clause : ℕ) (es : List (Datum × Datum)) (i : ℕ) (e : Datum × Datum) (fs : List (Datum × Pattern)) (f : SpecFault) → i < length es → e ≡ get_or es i e → FieldsFront clause es i fs → IsKey e.0 → Refuses f (pattern_faults clause e.1) → Refuses f (entries_faults clause (entries_of es))
FieldsFront-refuses_value clause es i e fs f within is front key h =
    let split : drop i es ≡ e ∷ drop (i + 1) es = split_at es i e within is in
    let known = rw split at front.clean in
    let rest = entries_faults clause (entries_of (drop (i + 1) es)) in
    Refuses-same f _ _ known
    (Refuses-behind f (key_faults clause e.0) (pattern_faults clause e.1 ++ rest) (IsKey-faults clause e.0 key)
    (Refuses-before f (pattern_faults clause e.1) rest h))

-- there are as many patterns as terms
ArePatterns-some : (ds : List Datum) (ps : List Pattern) → ArePatterns (items_of ds) (patterns_of ps) → 0 < length ds → 0 < length ps
ArePatterns-some [] ps h some = absurd (omega arith)
ArePatterns-some (d ∷ ds) [] h some = absurd h
ArePatterns-some (d ∷ ds) (p ∷ ps) h some = omega arith

cells-IsPattern : (ds : List Datum) (ps : List Pattern) (tail : Datum) (q : Pattern) → ArePatterns (items_of ds) (patterns_of ps) → IsPattern tail q → IsPattern (cells ds tail) (cells_of ps q)
cells-IsPattern [] [] tail q h last = last
cells-IsPattern [] (p ∷ ps) tail q h last = absurd h
cells-IsPattern (d ∷ ds) [] tail q h last = absurd h
cells-IsPattern (d ∷ ds) (p ∷ ps) tail q h last = (h.0, cells-IsPattern ds ps tail q h.1 last)

append_assoc' : {X : Type 0} (xs ys zs : List X) → xs ++ (ys ++ zs) ≡ (xs ++ ys) ++ zs
append_assoc' xs ys zs = sym (append_assoc xs ys zs)

cells-faults : (i : ℕ) (ds : List Datum) (tail : Datum) → pattern_faults i (cells ds tail) ≡ items_faults i (items_of ds) ++ pattern_faults i tail
cells-faults i [] tail = refl
cells-faults i (d ∷ ds) tail =
    ap (λ l. pattern_faults i d ++ l) (cells-faults i ds tail) ∙ append_assoc' (pattern_faults i d) (items_faults i (items_of ds)) (pattern_faults i tail)

IsAtomPattern-no_list : (cs : List ℕ) (w : Word) (p : Pattern) → IsAtomPattern cs w p → IsNoListPattern p
IsAtomPattern-no_list cs (word.Variable n) p h = subst IsNoListPattern (sym h) tt
IsAtomPattern-no_list cs word.Misnumbered p h = absurd h
IsAtomPattern-no_list cs word.Underscore p h = subst IsNoListPattern (sym h) tt
IsAtomPattern-no_list cs word.Object p h = subst IsNoListPattern (sym h) tt
IsAtomPattern-no_list cs word.Bindings p h = subst IsNoListPattern (sym h) tt
IsAtomPattern-no_list cs word.Plain p h = subst IsNoListPattern (sym h) tt

-- a term that is not a list is read as a pattern that is not one
pub IsPattern-no_list : (d : Datum) (p : Pattern) → IsNoList d → IsPattern d p → IsNoListPattern p
IsPattern-no_list (integer z) p no_list h = subst IsNoListPattern (sym h) tt
IsPattern-no_list (atom cs) p no_list h = IsAtomPattern-no_list cs (word_of cs) p h
IsPattern-no_list (tuple ds) (tuple_of ps) no_list h = tt
IsPattern-no_list (tuple ds) p no_list h = absurd h
IsPattern-no_list (map es) (map_of fs) no_list h = tt
IsPattern-no_list (map es) p no_list h = absurd h
IsPattern-no_list nil p no_list h = absurd no_list
IsPattern-no_list (cons head tail) p no_list h = absurd no_list
IsPattern-no_list (binary bs) p no_list h = subst IsNoListPattern (sym h) tt

-- a list whose tail is [] is read as the list of its elements' patterns
pub proper-IsPattern : (ds : List Datum) (t : Option Datum) (d : Datum) (ps : List Pattern) → t ≡ None → cells ds (tail_of t) ≡ d → ArePatterns (items_of ds) (patterns_of ps) → IsPattern d (cells_of ps (literal nil))
proper-IsPattern ds None d ps e is h =
    let P : Datum → Type 0 = λ x. IsPattern x (cells_of ps (literal nil)) in subst P is (cells-IsPattern ds ps nil (literal nil) h refl)
proper-IsPattern ds (Some x) d ps e is h = absurd (cc)

-- a list with another tail is read as the list of its elements' patterns and its tail's
pub improper-IsPattern : (ds : List Datum) (t : Option Datum) (tail d : Datum) (ps : List Pattern) (q : Pattern) → t ≡ Some tail → cells ds (tail_of t) ≡ d → ArePatterns (items_of ds) (patterns_of ps) → IsPattern tail q → IsPattern d (cells_of ps q)
improper-IsPattern ds None tail d ps q e is h last = absurd (cc)
improper-IsPattern ds (Some x) tail d ps q e is h last =
    let same : tail ≡ x = cc in
    let P : Datum → Type 0 = λ y. IsPattern y (cells_of ps q) in
    let Q : Datum → Type 0 = λ y. IsPattern y q in
    subst P is (cells-IsPattern ds ps x q h (subst Q same last))

pub elements-Refuses : (clause : ℕ) (ds : List Datum) (t : Option Datum) (d : Datum) (f : SpecFault) → cells ds (tail_of t) ≡ d → Refuses f (items_faults clause (items_of ds)) → Refuses f (pattern_faults clause d)
elements-Refuses clause ds t d f is h =
    Refuses-same f _ _ (sym (cells-faults clause ds (tail_of t)) ∙ ap (pattern_faults clause) is)
    (Refuses-before f (items_faults clause (items_of ds)) (pattern_faults clause (tail_of t)) h)

pub tail-Refuses : (clause : ℕ) (ds : List Datum) (t : Option Datum) (tail d : Datum) (ps : List Pattern) (f : SpecFault) → t ≡ Some tail → cells ds (tail_of t) ≡ d → ArePatterns (items_of ds) (patterns_of ps) → Refuses f (pattern_faults clause tail) → Refuses f (pattern_faults clause d)
tail-Refuses clause ds None tail d ps f e is read h = absurd (cc)
tail-Refuses clause ds (Some x) tail d ps f e is read h =
    let same : tail ≡ x = cc in
    let P : Datum → Type 0 = λ y. Refuses f (pattern_faults clause y) in
    Refuses-same f _ _ (sym (cells-faults clause ds x) ∙ ap (pattern_faults clause) is)
    (Refuses-behind f (items_faults clause (items_of ds)) (pattern_faults clause x) (ArePatterns-faults clause (items_of ds) (patterns_of ps) read) (subst P same h))

pub elements-some : (ds : List Datum) (ps : List Pattern) → ArePatterns (items_of ds) (patterns_of ps) → 0 < length ds → 0 < length ps
elements-some ds ps h some = ArePatterns-some ds ps h some

-- the tail of a list is read as a pattern that is not a list
pub tail-no_list : (t : Option Datum) (tail : Datum) (q : Pattern) → t ≡ Some tail → IsTail t → IsPattern tail q → IsNoListPattern q
tail-no_list None tail q e no_list h = absurd (cc)
tail-no_list (Some x) tail q e no_list h =
    let same : x ≡ tail = cc in IsPattern-no_list tail q (subst IsNoList same no_list) h

-- a list is not a head
pub list-head : (clause : ℕ) (ds : List Datum) (t d : Datum) → cells ds t ≡ d → 0 < length ds → Refuses (BadHead clause) (head_faults clause d)
list-head clause [] t d is some = absurd (omega arith)
list-head clause (x ∷ ds) t d is some =
    Refuses-same (BadHead clause) _ _ (ap (head_faults clause) is) (inr (record { others = []; first = refl }))
