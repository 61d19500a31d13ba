-- What was read from a term is sound.
use Rattle.std.proofs.Common.{◌≡◌, ℕ, suc, ◌<◌, ◌≤◌, ◌==◌, ◌&&◌, max, nat_lt, nat_eq, cond, Bool, true, false, Option, Some, None, option_map, IfSome, List, [], ◌∷◌, length, refl, sym, ◌∙◌, ap, subst, arith}
use Rattle.std.specs.Prelude.{codes}
use Rattle.std.specs.List.{All}
use Rattle.std.specs.Cmp.Lexicographic.{pointwise}
use Rattle.std.proofs.lemmas.Bool.{ltb-true}
use Rattle.std.proofs.lemmas.List.Elements.{All-nil, All-cons}
use Rattle.std.proofs.lemmas.Option.{IfSome_then}
use Rattle.term_core.specs.Datum.{Datum, Items, Entries, entry_keys, item_count, entry_count, cell_count, cells, proper_elements}
use Rattle.term_core.specs.Datum.Datum.{integer, atom, tuple, map, nil, cons, binary}
use Rattle.term_core.specs.Datum.Items.{no_items, item}
use Rattle.term_core.specs.Datum.Entries.{no_entries, entry}
use Rattle.term_core.specs.Limits.{depth, items_depth, entries_depth, tail_depth, IsTerm, IsSound, AreSound, ArePairsSound}
use Rattle.term_core.specs.declared.TheConstants.{MAX_DEPTH, MAX_LIST}
use Rattle.prims_table.specs.Names.{takes, named}
use Rattle.prims_table.specs.declared.prim.Primitive.{Primitive}
use Rattle.prims_table.proofs.NameLemmas.{named_is}
use Rattle.mspec_syntax.specs.Pattern.{Pattern, Patterns, Fields, field_keys, own_cell, own_item, own_term, own_terms}
use Rattle.mspec_syntax.specs.Pattern.Pattern.{literal, tuple_of, cell_of, map_of}
use Rattle.mspec_syntax.specs.Pattern.Patterns.{no_patterns, pattern}
use Rattle.mspec_syntax.specs.Pattern.Fields.{no_fields, field}
use Rattle.mspec_syntax.specs.Expression.{Expression, Expressions, Assignments, assignment_keys, expression_count}
use Rattle.mspec_syntax.specs.Expression.Expression.{constant, call, and_also, or_else, new_tuple, new_cell, new_map}
use Rattle.mspec_syntax.specs.Expression.Expressions.{no_expressions, expression}
use Rattle.mspec_syntax.specs.Expression.Assignments.{no_assignments, assignment}
use Rattle.mspec_syntax.specs.Word.{word_of}
use Rattle.mspec_syntax.specs.Callee.{callee_of, function_callee}
use Rattle.mspec_syntax.specs.Specification.{Clause, Specification, clause_variables}
use Rattle.mspec_syntax.specs.Grammar.{IsAtomPattern, IsPattern, ArePatterns, AreFields, IsAtomExpression, IsQuoted, IsCall, IsExpression, IsTupleExpression, AreParts, AreAssignments, AreExpressions, AreConditions, AreBodyExpressions, triple, IsClause, AreClauses, AreElementsClauses}
use Rattle.mspec_syntax.specs.Faults.{IsReadable}
use Rattle.mspec_syntax.specs.Sound.{AreSoundKeys, SpellsTerm, IsSoundPattern, AreSoundPatterns, AreSoundFields, IsSoundExpression, AreSoundExpressions, AreSoundAssignments, IsSoundClause}
use Rattle.mspec_syntax.specs.declared.word.Callee.{Callee}
use Rattle.mspec_syntax.specs.declared.word.Callee.TheVariants as callee
use Rattle.mspec_syntax.specs.declared.word.Word.{Word}
use Rattle.mspec_syntax.specs.declared.word.Word.TheVariants as word
use Rattle.mspec_syntax.proofs.ExpressionLemmas.{entry_keys-rise, assignment_keys-same}

-- each element is a term
abbrev AreTerms : Items → Type 0
AreTerms no_items = Unit {0}
AreTerms (item d ds) = IsTerm d × AreTerms ds

AreTerms-shallow : (ds : Items) → AreSound ds → items_depth ds ≤ MAX_DEPTH → AreTerms ds
AreTerms-shallow no_items sound shallow = tt
AreTerms-shallow (item d ds) sound shallow =
    (record { sound = sound.0; shallow = omega (arith, shallow) }, AreTerms-shallow ds sound.1 (omega (arith, shallow)))

tuple-parts : (ds : Items) → IsTerm (tuple ds) → AreTerms ds
tuple-parts ds term = AreTerms-shallow ds term.sound.1 (omega (arith, term.shallow))

-- each key and each value is a term
abbrev ArePairsTerms : Entries → Type 0
ArePairsTerms no_entries = Unit {0}
ArePairsTerms (entry k v es) = IsTerm k × IsTerm v × ArePairsTerms es

ArePairsTerms-shallow : (es : Entries) → ArePairsSound es → entries_depth es ≤ MAX_DEPTH → ArePairsTerms es
ArePairsTerms-shallow no_entries sound shallow = tt
ArePairsTerms-shallow (entry k v es) sound shallow = (
  record { sound = sound.0; shallow = omega (arith, shallow) },
  record { sound = sound.1; shallow = omega (arith, shallow) },
  ArePairsTerms-shallow es sound.3 (omega (arith, shallow)),
)

map-parts : (es : Entries) → IsTerm (map es) → ArePairsTerms es
map-parts es term = ArePairsTerms-shallow es term.sound.1 (omega (arith, term.shallow))

-- a term is at most one deeper than its tail depth
depth-tail : (d : Datum) → depth d ≤ suc (tail_depth d)
depth-tail (integer z) = omega arith
depth-tail (atom cs) = omega arith
depth-tail (tuple ds) = omega arith
depth-tail (map es) = omega arith
depth-tail nil = omega arith
depth-tail (cons head tail) = omega arith
depth-tail (binary bs) = omega arith

head-term : (head tail : Datum) → IsTerm (cons head tail) → IsTerm head
head-term head tail term = record { sound = term.sound.1; shallow = omega (arith, term.shallow) }

tail-term : (head tail : Datum) → IsTerm (cons head tail) → IsTerm tail
tail-term head tail term =
    record { sound = term.sound.2; shallow = omega (arith, term.shallow, depth-tail tail) }

-- the list of a map's keys has as many elements as the map has pairs
keys-count : (es : Entries) → cell_count (cells (entry_keys es) nil) ≡ entry_count es
keys-count no_entries = refl
keys-count (entry k v es) = ap suc (keys-count es)

keys-sound : (es : Entries) → ArePairsSound es → entry_count es ≤ MAX_LIST → IsSound (cells (entry_keys es) nil)
keys-sound no_entries sound short = tt
keys-sound (entry k v es) sound short =
    (omega (arith, keys-count es, short), sound.0, keys-sound es sound.3 (omega (arith, short)))

keys-tail_depth : (es : Entries) → tail_depth (cells (entry_keys es) nil) ≤ max 1 (entries_depth es)
keys-tail_depth no_entries = omega arith
keys-tail_depth (entry k v es) = omega (arith, keys-tail_depth es)

keys-depth : (es : Entries) → depth (cells (entry_keys es) nil) ≤ suc (max 1 (entries_depth es))
keys-depth no_entries = omega arith
keys-depth (entry k v es) = omega (arith, keys-tail_depth es)

keys-term : (es : Entries) → IsTerm (map es) → IsTerm (cells (entry_keys es) nil)
keys-term es term =
    record {
      sound = keys-sound es term.sound.1 (omega (arith, term.sound.0));
      shallow = omega (arith, keys-depth es, term.shallow);
    }

AreSoundKeys-same : (es : Entries) (keys : List Datum) → IsTerm (map es) → entry_keys es ≡ keys → AreSoundKeys keys
AreSoundKeys-same es keys term same =
    subst AreSoundKeys same (record { rising = entry_keys-rise es term.sound.1; listed = keys-term es term })

-- a cell of two patterns that spell terms spells the cell of these terms
own_cell-is : (a b : Option Datum) (x y : Datum) → IfSome a (λ e. e ≡ x) → IfSome b (λ e. e ≡ y)
    → IfSome (own_cell a b) (λ e. e ≡ cons x y)
own_cell-is None None x y h k = tt
own_cell-is None (Some b) x y h k = tt
own_cell-is (Some a) None x y h k = tt
own_cell-is (Some a) (Some b) x y h k = cc

own_item-is : (a : Option Datum) (b : Option Items) (x : Datum) (ys : Items) → IfSome a (λ e. e ≡ x)
    → IfSome b (λ es. es ≡ ys) → IfSome (own_item a b) (λ es. es ≡ item x ys)
own_item-is None None x y h k = tt
own_item-is None (Some b) x y h k = tt
own_item-is (Some a) None x y h k = tt
own_item-is (Some a) (Some b) x y h k = cc

own_tuple-is : (a : Option Items) (ds : Items) → IfSome a (λ es. es ≡ ds)
    → IfSome (option_map tuple a) (λ e. e ≡ tuple ds)
own_tuple-is None ds h = tt
own_tuple-is (Some es) ds h = ap tuple h

own_literal-is : (d : Datum) (p : Pattern) → p ≡ literal d → IfSome (own_term p) (λ e. e ≡ d)
own_literal-is d p h =
    let P : Pattern → Type 0 = λ q. IfSome (own_term q) (λ e. e ≡ d) in subst P (sym h) refl

own_atom-is : (cs : List ℕ) (w : Word) (p : Pattern) → IsAtomPattern cs w p
    → IfSome (own_term p) (λ e. e ≡ atom cs)
own_atom-is cs (word.Variable n) p h =
    let P : Pattern → Type 0 = λ q. IfSome (own_term q) (λ e. e ≡ atom cs) in subst P (sym h) tt
own_atom-is cs word.Misnumbered p h = absurd h
own_atom-is cs word.Underscore p h =
    let P : Pattern → Type 0 = λ q. IfSome (own_term q) (λ e. e ≡ atom cs) in subst P (sym h) tt
own_atom-is cs word.Object p h = own_literal-is (atom cs) p h
own_atom-is cs word.Bindings p h = own_literal-is (atom cs) p h
own_atom-is cs word.Plain p h = own_literal-is (atom cs) p h

mutual
  own_term-is : (d : Datum) (p : Pattern) → IsPattern d p → IfSome (own_term p) (λ e. e ≡ d)
  own_term-is (integer z) p h = own_literal-is (integer z) p h
  own_term-is (atom cs) p h = own_atom-is cs (word_of cs) p h
  own_term-is (tuple ds) (tuple_of ps) h = own_tuple-is (own_terms ps) ds (own_terms-are ds ps h)
  own_term-is (tuple ds) p h = absurd h
  own_term-is (map es) (map_of fs) h = tt
  own_term-is (map es) p h = absurd h
  own_term-is nil p h = own_literal-is nil p h
  own_term-is (cons head tail) (cell_of p q) h =
      own_cell-is (own_term p) (own_term q) head tail (own_term-is head p h.0) (own_term-is tail q h.1)
  own_term-is (cons head tail) p h = absurd h
  own_term-is (binary bs) p h = own_literal-is (binary bs) p h

  own_terms-are : (ds : Items) (ps : Patterns) → ArePatterns ds ps → IfSome (own_terms ps) (λ es. es ≡ ds)
  own_terms-are no_items no_patterns h = refl
  own_terms-are no_items (pattern p ps) h = absurd h
  own_terms-are (item d ds) no_patterns h = absurd h
  own_terms-are (item d ds) (pattern p ps) h =
      own_item-is (own_term p) (own_terms ps) d ds (own_term-is d p h.0) (own_terms-are ds ps h.1)

SpellsTerm-read : (d : Datum) (p : Pattern) → IsTerm d → IsPattern d p → SpellsTerm p
SpellsTerm-read d p term h = IfSome_then (own_term p) (own_term-is d p h) (λ e is. subst IsTerm (sym is) term)

-- a map keeps its keys
field_keys-same : (es : Entries) (fs : Fields) → AreFields es fs → entry_keys es ≡ field_keys fs
field_keys-same no_entries no_fields h = refl
field_keys-same no_entries (field k p fs) h = absurd h
field_keys-same (entry k v es) no_fields h = absurd h
field_keys-same (entry k v es) (field l p fs) h =
    let rest = field_keys-same es fs h.3 in let first = h.1 in cc

IsSoundPattern-literal : (d : Datum) (p : Pattern) → IsTerm d → p ≡ literal d → IsSoundPattern p
IsSoundPattern-literal d p term h = let P : Pattern → Type 0 = λ q. IsSoundPattern q in subst P (sym h) term

IsSoundPattern-atom : (cs : List ℕ) (w : Word) (p : Pattern) → IsTerm (atom cs) → IsAtomPattern cs w p
    → IsSoundPattern p
IsSoundPattern-atom cs (word.Variable n) p term h =
    let P : Pattern → Type 0 = λ q. IsSoundPattern q in subst P (sym h) tt
IsSoundPattern-atom cs word.Misnumbered p term h = absurd h
IsSoundPattern-atom cs word.Underscore p term h =
    let P : Pattern → Type 0 = λ q. IsSoundPattern q in subst P (sym h) tt
IsSoundPattern-atom cs word.Object p term h = IsSoundPattern-literal (atom cs) p term h
IsSoundPattern-atom cs word.Bindings p term h = IsSoundPattern-literal (atom cs) p term h
IsSoundPattern-atom cs word.Plain p term h = IsSoundPattern-literal (atom cs) p term h

mutual
  IsSoundPattern-read : (d : Datum) (p : Pattern) → IsTerm d → IsPattern d p → IsSoundPattern p
  IsSoundPattern-read (integer z) p term h = IsSoundPattern-literal (integer z) p term h
  IsSoundPattern-read (atom cs) p term h = IsSoundPattern-atom cs (word_of cs) p term h
  IsSoundPattern-read (tuple ds) (tuple_of ps) term h =
      (SpellsTerm-read (tuple ds) (tuple_of ps) term h, AreSoundPatterns-read ds ps (tuple-parts ds term) h)
  IsSoundPattern-read (tuple ds) p term h = absurd h
  IsSoundPattern-read (map es) (map_of fs) term h = (
    AreSoundKeys-same es (field_keys fs) term (field_keys-same es fs h),
    AreSoundFields-read es fs (map-parts es term) h,
  )
  IsSoundPattern-read (map es) p term h = absurd h
  IsSoundPattern-read nil p term h = IsSoundPattern-literal nil p term h
  IsSoundPattern-read (cons head tail) (cell_of p q) term h = (
    SpellsTerm-read (cons head tail) (cell_of p q) term h,
    IsSoundPattern-read head p (head-term head tail term) h.0,
    IsSoundPattern-read tail q (tail-term head tail term) h.1,
  )
  IsSoundPattern-read (cons head tail) p term h = absurd h
  IsSoundPattern-read (binary bs) p term h = IsSoundPattern-literal (binary bs) p term h

  AreSoundPatterns-read : (ds : Items) (ps : Patterns) → AreTerms ds → ArePatterns ds ps → AreSoundPatterns ps
  AreSoundPatterns-read no_items no_patterns terms h = tt
  AreSoundPatterns-read no_items (pattern p ps) terms h = absurd h
  AreSoundPatterns-read (item d ds) no_patterns terms h = absurd h
  AreSoundPatterns-read (item d ds) (pattern p ps) terms h =
      (IsSoundPattern-read d p terms.0 h.0, AreSoundPatterns-read ds ps terms.1 h.1)

  AreSoundFields-read : (es : Entries) (fs : Fields) → ArePairsTerms es → AreFields es fs → AreSoundFields fs
  AreSoundFields-read no_entries no_fields terms h = tt
  AreSoundFields-read no_entries (field k p fs) terms h = absurd h
  AreSoundFields-read (entry k v es) no_fields terms h = absurd h
  AreSoundFields-read (entry k v es) (field l p fs) terms h = (
    subst IsTerm (sym h.1) terms.0,
    IsSoundPattern-read v p terms.1 h.2,
    AreSoundFields-read es fs terms.2 h.3,
  )

-- what a callee says about the number of its arguments
abbrev Takes : Callee → ℕ → Type 0
Takes callee.AndAlso n = 0 < n
Takes callee.OrElse n = 0 < n
Takes (callee.Function f) n = takes f n ≡ true
Takes c n = Unit {0}

Takes-named : (cs : List ℕ) (n : ℕ) (f : Primitive) → named cs n ≡ Some f → takes f n ≡ true
Takes-named cs n f e = ((named_is cs n (named cs n) refl f).0 e).1

Takes-function : (o : Option Primitive) (n : ℕ) → ((f : Primitive) → o ≡ Some f → takes f n ≡ true)
    → Takes (function_callee o) n
Takes-function None n h = tt
Takes-function (Some f) n h = h f refl

Takes-callee : (cs : List ℕ) (n : ℕ) → Takes (callee_of cs n) n
Takes-callee cs n =
    by (n == 1 && pointwise nat_eq cs (codes "const")) (nat_lt 0 n) refl (pointwise nat_eq cs (codes "andalso"))
    (pointwise nat_eq cs (codes "orelse"))
  where
    by : (q some : Bool) → nat_lt 0 n ≡ some → (a o : Bool)
        → Takes (cond q callee.Quote (cond (some && a) callee.AndAlso (cond (some && o) callee.OrElse (function_callee (named cs n))))) n
    by true some is a o = tt
    by false true is true o = ltb-true 0 n is
    by false true is false true = ltb-true 0 n is
    by false true is false false = Takes-function (named cs n) n (λ f e. Takes-named cs n f e)
    by false false is a o = Takes-function (named cs n) n (λ f e. Takes-named cs n f e)

IsSoundExpression-constant : (vs : List ℕ) (d : Datum) (e : Expression) → IsTerm d → e ≡ constant d → IsSoundExpression vs e
IsSoundExpression-constant vs d e term h =
    let P : Expression → Type 0 = λ f. IsSoundExpression vs f in subst P (sym h) term

IsSoundExpression-atom : (vs cs : List ℕ) (w : Word) (e : Expression) → IsTerm (atom cs) → IsAtomExpression vs cs w e
    → IsSoundExpression vs e
IsSoundExpression-atom vs cs (word.Variable n) e term h =
    let P : Expression → Type 0 = λ f. IsSoundExpression vs f in subst P (sym h.1) h.0
IsSoundExpression-atom vs cs word.Misnumbered e term h = absurd h
IsSoundExpression-atom vs cs word.Underscore e term h = IsSoundExpression-constant vs (atom cs) e term h
IsSoundExpression-atom vs cs word.Object e term h =
    let P : Expression → Type 0 = λ f. IsSoundExpression vs f in subst P (sym h) tt
IsSoundExpression-atom vs cs word.Bindings e term h =
    let P : Expression → Type 0 = λ f. IsSoundExpression vs f in subst P (sym h) tt
IsSoundExpression-atom vs cs word.Plain e term h = IsSoundExpression-constant vs (atom cs) e term h

IsSoundExpression-quoted : (vs : List ℕ) (ds : Items) (e : Expression) → AreTerms ds → IsQuoted ds e → IsSoundExpression vs e
IsSoundExpression-quoted vs no_items e terms h = absurd h
IsSoundExpression-quoted vs (item d no_items) e terms h =
    let P : Expression → Type 0 = λ f. IsSoundExpression vs f in subst P (sym h) terms.0
IsSoundExpression-quoted vs (item d (item x xs)) e terms h = absurd h

AreParts-count : (vs : List ℕ) (ds : Items) (es : Expressions) → AreParts vs ds es → item_count ds ≡ expression_count es
AreParts-count vs no_items no_expressions h = refl
AreParts-count vs no_items (expression e es) h = absurd h
AreParts-count vs (item d ds) no_expressions h = absurd h
AreParts-count vs (item d ds) (expression e es) h = ap suc (AreParts-count vs ds es h.1)

IsSoundExpression-call : (vs : List ℕ) (c : Callee) (ds : Items) (e : Expression) → Takes c (item_count ds) → AreTerms ds
    → ((es : Expressions) → AreParts vs ds es → AreSoundExpressions vs es) → IsCall c (AreParts vs ds) ds e
    → IsSoundExpression vs e
IsSoundExpression-call vs callee.Quote ds e count terms sound h = IsSoundExpression-quoted vs ds e terms h
IsSoundExpression-call vs callee.AndAlso ds (and_also es) count terms sound h =
    (subst (λ n. 0 < n) (AreParts-count vs ds es h) count, sound es h)
IsSoundExpression-call vs callee.AndAlso ds e count terms sound h = absurd h
IsSoundExpression-call vs callee.OrElse ds (or_else es) count terms sound h =
    (subst (λ n. 0 < n) (AreParts-count vs ds es h) count, sound es h)
IsSoundExpression-call vs callee.OrElse ds e count terms sound h = absurd h
IsSoundExpression-call vs (callee.Function f) ds (call g es) count terms sound h =
    let same : takes g (expression_count es) ≡ takes f (item_count ds) =
    ap (λ p. takes p (expression_count es)) h.0 ∙ ap (takes f) (sym (AreParts-count vs ds es h.1)) in
    (same ∙ count, sound es h.1)
IsSoundExpression-call vs (callee.Function f) ds e count terms sound h = absurd h
IsSoundExpression-call vs callee.Unknown ds e count terms sound h = absurd h

mutual
  IsSoundExpression-read : (vs : List ℕ) (d : Datum) (e : Expression) → IsTerm d → IsExpression vs d e
      → IsSoundExpression vs e
  IsSoundExpression-read vs (integer z) e term h = IsSoundExpression-constant vs (integer z) e term h
  IsSoundExpression-read vs (atom cs) e term h = IsSoundExpression-atom vs cs (word_of cs) e term h
  IsSoundExpression-read vs (tuple ds) e term h = IsSoundExpression-tuple vs ds e (tuple-parts ds term) h
  IsSoundExpression-read vs (map es) (new_map ms) term h = (
    AreSoundKeys-same es (assignment_keys ms) term (assignment_keys-same vs es ms h),
    AreSoundAssignments-read vs es ms (map-parts es term) h,
  )
  IsSoundExpression-read vs (map es) e term h = absurd h
  IsSoundExpression-read vs nil e term h = IsSoundExpression-constant vs nil e term h
  IsSoundExpression-read vs (cons head tail) (new_cell e f) term h = (
    IsSoundExpression-read vs head e (head-term head tail term) h.0,
    IsSoundExpression-read vs tail f (tail-term head tail term) h.1,
  )
  IsSoundExpression-read vs (cons head tail) e term h = absurd h
  IsSoundExpression-read vs (binary bs) e term h = IsSoundExpression-constant vs (binary bs) e term h

  IsSoundExpression-tuple : (vs : List ℕ) (ds : Items) (e : Expression) → AreTerms ds → IsTupleExpression vs ds e
      → IsSoundExpression vs e
  IsSoundExpression-tuple vs no_items e terms h = absurd h
  IsSoundExpression-tuple vs (item (integer z) ds) e terms h = absurd h
  IsSoundExpression-tuple vs (item (atom cs) ds) e terms h =
      IsSoundExpression-call vs (callee_of cs (item_count ds)) ds e (Takes-callee cs (item_count ds)) terms.1
      (λ es k. AreSoundExpressions-read vs ds es terms.1 k) h
  IsSoundExpression-tuple vs (item (tuple ds) no_items) (new_tuple es) terms h =
      AreSoundExpressions-read vs ds es (tuple-parts ds terms.0) h
  IsSoundExpression-tuple vs (item (tuple ds) no_items) e terms h = absurd h
  IsSoundExpression-tuple vs (item (tuple ds) (item x xs)) e terms h = absurd h
  IsSoundExpression-tuple vs (item (map es) ds) e terms h = absurd h
  IsSoundExpression-tuple vs (item nil ds) e terms h = absurd h
  IsSoundExpression-tuple vs (item (cons head tail) ds) e terms h = absurd h
  IsSoundExpression-tuple vs (item (binary bs) ds) e terms h = absurd h

  AreSoundExpressions-read : (vs : List ℕ) (ds : Items) (es : Expressions) → AreTerms ds → AreParts vs ds es
      → AreSoundExpressions vs es
  AreSoundExpressions-read vs no_items no_expressions terms h = tt
  AreSoundExpressions-read vs no_items (expression e es) terms h = absurd h
  AreSoundExpressions-read vs (item d ds) no_expressions terms h = absurd h
  AreSoundExpressions-read vs (item d ds) (expression e es) terms h =
      (IsSoundExpression-read vs d e terms.0 h.0, AreSoundExpressions-read vs ds es terms.1 h.1)

  AreSoundAssignments-read : (vs : List ℕ) (es : Entries) (ms : Assignments) → ArePairsTerms es
      → AreAssignments vs es ms → AreSoundAssignments vs ms
  AreSoundAssignments-read vs no_entries no_assignments terms h = tt
  AreSoundAssignments-read vs no_entries (assignment l e ms) terms h = absurd h
  AreSoundAssignments-read vs (entry k v es) no_assignments terms h = absurd h
  AreSoundAssignments-read vs (entry k v es) (assignment l e ms) terms h = (
    subst IsTerm (sym h.0) terms.0,
    IsSoundExpression-read vs v e terms.1 h.1,
    AreSoundAssignments-read vs es ms terms.2 h.2,
  )

-- the elements of a list are terms
elements-terms : (d : Datum) → IsTerm d → IfSome (proper_elements d) (All IsTerm)
elements-terms (integer z) term = tt
elements-terms (atom cs) term = tt
elements-terms (tuple ds) term = tt
elements-terms (map es) term = tt
elements-terms nil term = All-nil IsTerm
elements-terms (cons head tail) term =
    by (proper_elements tail) (elements-terms tail (tail-term head tail term))
  where
    by : (o : Option (List Datum)) → IfSome o (All IsTerm) → IfSome (option_map (λ ds. head ∷ ds) o) (All IsTerm)
    by None h = tt
    by (Some ds) h = All-cons IsTerm head ds (head-term head tail term) h
elements-terms (binary bs) term = tt

AllSound-read : (vs : List ℕ) (ds : List Datum) (es : List Expression) → All IsTerm ds → AreExpressions vs ds es
    → All (IsSoundExpression vs) es
AllSound-read vs [] [] terms h = All-nil (IsSoundExpression vs)
AllSound-read vs [] (e ∷ es) terms h = absurd h
AllSound-read vs (d ∷ ds) [] terms h = absurd h
AllSound-read vs (d ∷ ds) (e ∷ es) terms h =
    All-cons (IsSoundExpression vs) e es
    (IsSoundExpression-read vs d e (terms 0 d (omega arith)) h.0)
    (AllSound-read vs ds es (λ k x within. terms (suc k) x (omega (arith, within))) h.1)

AllSound-conditions : (vs : List ℕ) (o : Option (List Datum)) (es : List Expression) → IfSome o (All IsTerm)
    → AreConditions vs o es → All (IsSoundExpression vs) es
AllSound-conditions vs None es terms h = absurd h
AllSound-conditions vs (Some ds) es terms h = AllSound-read vs ds es terms h

AllSound-body : (vs : List ℕ) (o : Option (List Datum)) (es : List Expression) → IfSome o (All IsTerm)
    → AreBodyExpressions vs o es → All (IsSoundExpression vs) es
AllSound-body vs None es terms h = absurd h
AllSound-body vs (Some []) es terms h = absurd h
AllSound-body vs (Some (d ∷ ds)) es terms h = AllSound-read vs (d ∷ ds) es terms h

body-some : (vs : List ℕ) (o : Option (List Datum)) (es : List Expression) → AreBodyExpressions vs o es → 0 < length es
body-some vs None es h = absurd h
body-some vs (Some []) es h = absurd h
body-some vs (Some (d ∷ ds)) [] h = absurd h
body-some vs (Some (d ∷ ds)) (e ∷ es) h = omega arith

IsSoundClause-triple : (head conditions body : Datum) (c : Clause) → IsTerm (triple head conditions body)
    → IsClause (triple head conditions body) c → IsSoundClause c
IsSoundClause-triple head conditions body c term h =
    let parts = tuple-parts _ term in
    let vs = clause_variables c in
    record {
      head = IsSoundPattern-read head c.head parts.0 h.0;
      conditions =
          AllSound-conditions vs (proper_elements conditions) c.conditions (elements-terms conditions parts.1.0) h.2;
      body = AllSound-body vs (proper_elements body) c.body (elements-terms body parts.1.1.0) h.3;
      answers = body-some vs (proper_elements body) c.body h.3;
    }

IsSoundClause-tuple : (ds : Items) (c : Clause) → IsTerm (tuple ds) → IsClause (tuple ds) c → IsSoundClause c
IsSoundClause-tuple no_items c term h = absurd h
IsSoundClause-tuple (item x no_items) c term h = absurd h
IsSoundClause-tuple (item x (item y no_items)) c term h = absurd h
IsSoundClause-tuple (item x (item y (item z no_items))) c term h = IsSoundClause-triple x y z c term h
IsSoundClause-tuple (item x (item y (item z (item w ds)))) c term h = absurd h

IsSoundClause-read : (d : Datum) (c : Clause) → IsTerm d → IsClause d c → IsSoundClause c
IsSoundClause-read (integer z) c term h = absurd h
IsSoundClause-read (atom cs) c term h = absurd h
IsSoundClause-read (tuple ds) c term h = IsSoundClause-tuple ds c term h
IsSoundClause-read (map es) c term h = absurd h
IsSoundClause-read nil c term h = absurd h
IsSoundClause-read (cons head tail) c term h = absurd h
IsSoundClause-read (binary bs) c term h = absurd h

AllSound-clauses : (ds : List Datum) (s : Specification) → All IsTerm ds → AreClauses ds s → All IsSoundClause s
AllSound-clauses [] [] terms h = All-nil IsSoundClause
AllSound-clauses [] (c ∷ cs) terms h = absurd h
AllSound-clauses (d ∷ ds) [] terms h = absurd h
AllSound-clauses (d ∷ ds) (c ∷ cs) terms h =
    All-cons IsSoundClause c cs (IsSoundClause-read d c (terms 0 d (omega arith)) h.0)
    (AllSound-clauses ds cs (λ k x within. terms (suc k) x (omega (arith, within))) h.1)

AllSound-elements : (o : Option (List Datum)) (s : Specification) → IfSome o (All IsTerm) → AreElementsClauses o s
    → All IsSoundClause s
AllSound-elements None s terms h = absurd h
AllSound-elements (Some ds) s terms h = AllSound-clauses ds s terms h

-- each clause of what was read from a term is sound
pub clauses-sound : (s : Specification) → IsReadable s → All IsSoundClause s
clauses-sound s h = AllSound-elements (proper_elements h.term) s (elements-terms h.term h.within) h.is
