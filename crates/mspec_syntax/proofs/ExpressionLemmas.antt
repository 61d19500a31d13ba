-- Expressions read from terms: what is read has no fault, and lists are read by reading their elements.
use Rattle.std.proofs.Common.{◌≡◌, ℕ, ◌+◌, ◌<◌, ◌≤◌, ◌==◌, ◌&&◌, nat_lt, nat_eq, cond, Bool, true, false, inr, Option, Some, None, Result, IfOk, IfErr, List, [], ◌∷◌, ◌++◌, length, get_or, drop, refl, sym, ◌∙◌, ap, subst, arith}
use Rattle.std.specs.Prelude.{codes}
use Rattle.std.specs.Cmp.Lexicographic.{pointwise}
use Rattle.std.proofs.lemmas.Bool.{eqb-true}
use Rattle.std.proofs.lemmas.List.{append_assoc, drop_all}
use Rattle.term_core.specs.Datum.{Datum, Items, Entries, items_of, entries_of, entry_keys, item_count, cells, IsNoList}
use Rattle.term_core.specs.Datum.Datum.{integer, atom, tuple, map, nil, cons, binary}
use Rattle.term_core.specs.Datum.Items.{no_items, item}
use Rattle.term_core.specs.Datum.Entries.{no_entries, entry}
use Rattle.term_core.specs.Term.{tail_of, IsTail}
use Rattle.term_core.specs.Limits.{depth, items_depth, IsTerm, IsSound, ArePairsSound}
use Rattle.term_core.specs.Order.{IsBelowFirst}
use Rattle.term_core.proofs.LimitLemmas.{item_count-items_of}
use Rattle.prims_table.specs.Names.{named}
use Rattle.mspec_syntax.specs.Expression.{Expression, Expressions, Assignments, expressions_of, assignments_of, assignment_keys, new_cells, IsNoListExpression}
use Rattle.mspec_syntax.specs.Keys.{IsBelowNext, AreKeysRising}
use Rattle.mspec_syntax.specs.Expression.Expression.{constant, call, and_also, or_else, new_tuple, new_cell, new_map}
use Rattle.mspec_syntax.specs.Expression.Expressions.{no_expressions, expression}
use Rattle.mspec_syntax.specs.Expression.Assignments.{no_assignments, assignment}
use Rattle.mspec_syntax.specs.Word.{word_of}
use Rattle.mspec_syntax.specs.Callee.{callee_of, function_callee}
use Rattle.mspec_syntax.specs.Grammar.{IsAtomExpression, IsQuoted, IsExpression, IsTupleExpression, IsCall, AreParts, AreAssignments}
use Rattle.mspec_syntax.specs.Faults.{word_faults, expression_faults, tuple_faults, call_faults, parts_faults, values_faults, Refuses}
use Rattle.mspec_syntax.specs.declared.word.Callee.{Callee}
use Rattle.mspec_syntax.specs.declared.word.Callee.TheVariants as callee
use Rattle.mspec_syntax.specs.declared.word.Word.{Word}
use Rattle.mspec_syntax.specs.declared.word.Word.TheVariants as word
use Rattle.mspec_syntax.specs.declared.fault.SpecFault.{SpecFault}
use Rattle.mspec_syntax.specs.declared.fault.SpecFault.TheVariants.{BadExpression}
use Rattle.mspec_syntax.proofs.PatternLemmas.{both_empty, split_at, Refuses-before, Refuses-behind, Refuses-same}

IsAtomExpression-faults : (i : ℕ) (vs cs : List ℕ) (w : Word) (e : Expression) → IsAtomExpression vs cs w e → word_faults i vs w ≡ []
IsAtomExpression-faults i vs cs (word.Variable n) e h = rw h.0 refl
IsAtomExpression-faults i vs cs word.Misnumbered e h = absurd h
IsAtomExpression-faults i vs cs word.Underscore e h = refl
IsAtomExpression-faults i vs cs word.Object e h = refl
IsAtomExpression-faults i vs cs word.Bindings e h = refl
IsAtomExpression-faults i vs cs word.Plain e h = refl

pub IsCall-faults : (i : ℕ) (c : Callee) (P : Expressions → Type 0) (ds : Items) (e : Expression) (faults : List SpecFault) → ((es : Expressions) → P es → faults ≡ []) → IsCall c P ds e → call_faults i c faults ≡ []
IsCall-faults i callee.Quote P ds e faults none h = refl
IsCall-faults i callee.AndAlso P ds (and_also es) faults none h = none es h
IsCall-faults i callee.AndAlso P ds e faults none h = absurd h
IsCall-faults i callee.OrElse P ds (or_else es) faults none h = none es h
IsCall-faults i callee.OrElse P ds e faults none h = absurd h
IsCall-faults i (callee.Function f) P ds (call g es) faults none h = none es h.1
IsCall-faults i (callee.Function f) P ds e faults none h = absurd h
IsCall-faults i callee.Unknown P ds e faults none h = absurd h

mutual
  -- a term that is read as an expression has no fault
  pub IsExpression-faults : (i : ℕ) (vs : List ℕ) (d : Datum) (e : Expression) → IsExpression vs d e → expression_faults i vs d ≡ []
  IsExpression-faults i vs (integer z) e h = refl
  IsExpression-faults i vs (atom cs) e h = IsAtomExpression-faults i vs cs (word_of cs) e h
  IsExpression-faults i vs (tuple ds) e h = IsTupleExpression-faults i vs ds e h
  IsExpression-faults i vs (map es) (new_map ms) h = AreAssignments-faults i vs es ms h
  IsExpression-faults i vs (map es) e h = absurd h
  IsExpression-faults i vs nil e h = refl
  IsExpression-faults i vs (cons head tail) (new_cell e f) h = both_empty (IsExpression-faults i vs head e h.0) (IsExpression-faults i vs tail f h.1)
  IsExpression-faults i vs (cons head tail) e h = absurd h
  IsExpression-faults i vs (binary bs) e h = refl

  IsTupleExpression-faults : (i : ℕ) (vs : List ℕ) (ds : Items) (e : Expression) → IsTupleExpression vs ds e → tuple_faults i vs ds ≡ []
  IsTupleExpression-faults i vs no_items e h = absurd h
  IsTupleExpression-faults i vs (item (integer z) ds) e h = absurd h
  IsTupleExpression-faults i vs (item (atom cs) ds) e h = IsCall-faults i (callee_of cs (item_count ds)) (AreParts vs ds) ds e (parts_faults i vs ds) (λ es k. AreParts-faults i vs ds es k) h
  IsTupleExpression-faults i vs (item (tuple ds) no_items) (new_tuple es) h = AreParts-faults i vs ds es h
  IsTupleExpression-faults i vs (item (tuple ds) no_items) e h = absurd h
  IsTupleExpression-faults i vs (item (tuple ds) (item x xs)) e h = absurd h
  IsTupleExpression-faults i vs (item (map es) ds) e h = absurd h
  IsTupleExpression-faults i vs (item nil ds) e h = absurd h
  IsTupleExpression-faults i vs (item (cons head tail) ds) e h = absurd h
  IsTupleExpression-faults i vs (item (binary bs) ds) e h = absurd h

  pub AreParts-faults : (i : ℕ) (vs : List ℕ) (ds : Items) (es : Expressions) → AreParts vs ds es → parts_faults i vs ds ≡ []
  AreParts-faults i vs no_items es h = refl
  AreParts-faults i vs (item d ds) no_expressions h = absurd h
  AreParts-faults i vs (item d ds) (expression e es) h = both_empty (IsExpression-faults i vs d e h.0) (AreParts-faults i vs ds es h.1)

  AreAssignments-faults : (i : ℕ) (vs : List ℕ) (es : Entries) (ms : Assignments) → AreAssignments vs es ms → values_faults i vs es ≡ []
  AreAssignments-faults i vs no_entries ms h = refl
  AreAssignments-faults i vs (entry k v es) no_assignments h = absurd h
  AreAssignments-faults i vs (entry k v es) (assignment l e ms) h = both_empty (IsExpression-faults i vs v e h.1) (AreAssignments-faults i vs es ms h.2)

IsAtomExpression-one : (vs cs : List ℕ) (w : Word) (e f : Expression) → IsAtomExpression vs cs w e → IsAtomExpression vs cs w f → e ≡ f
IsAtomExpression-one vs cs (word.Variable n) e f h k = h.1 ∙ sym k.1
IsAtomExpression-one vs cs word.Misnumbered e f h k = absurd h
IsAtomExpression-one vs cs word.Underscore e f h k = h ∙ sym k
IsAtomExpression-one vs cs word.Object e f h k = h ∙ sym k
IsAtomExpression-one vs cs word.Bindings e f h k = h ∙ sym k
IsAtomExpression-one vs cs word.Plain e f h k = h ∙ sym k

IsQuoted-one : (ds : Items) (e f : Expression) → IsQuoted ds e → IsQuoted ds f → e ≡ f
IsQuoted-one no_items e f h k = absurd h
IsQuoted-one (item d no_items) e f h k = h ∙ sym k
IsQuoted-one (item d (item x xs)) e f h k = absurd h

IsCall-one : (c : Callee) (P : Expressions → Type 0) (ds : Items) (e f : Expression) → ((es fs : Expressions) → P es → P fs → es ≡ fs) → IsCall c P ds e → IsCall c P ds f → e ≡ f
IsCall-one callee.Quote P ds e f same h k = IsQuoted-one ds e f h k
IsCall-one callee.AndAlso P ds (and_also es) (and_also fs) same h k = ap and_also (same es fs h k)
IsCall-one callee.AndAlso P ds (and_also es) f same h k = absurd k
IsCall-one callee.AndAlso P ds e f same h k = absurd h
IsCall-one callee.OrElse P ds (or_else es) (or_else fs) same h k = ap or_else (same es fs h k)
IsCall-one callee.OrElse P ds (or_else es) f same h k = absurd k
IsCall-one callee.OrElse P ds e f same h k = absurd h
IsCall-one (callee.Function p) P ds (call a es) (call b fs) same h k =
    let first : a ≡ b = h.0 ∙ sym k.0 in let rest = same es fs h.1 k.1 in cc
IsCall-one (callee.Function p) P ds (call a es) f same h k = absurd k
IsCall-one (callee.Function p) P ds e f same h k = absurd h
IsCall-one callee.Unknown P ds e f same h k = absurd h

mutual
  -- a term is read as at most one expression
  pub IsExpression-one : (vs : List ℕ) (d : Datum) (e f : Expression) → IsExpression vs d e → IsExpression vs d f → e ≡ f
  IsExpression-one vs (integer z) e f h k = h ∙ sym k
  IsExpression-one vs (atom cs) e f h k = IsAtomExpression-one vs cs (word_of cs) e f h k
  IsExpression-one vs (tuple ds) e f h k = IsTupleExpression-one vs ds e f h k
  IsExpression-one vs (map es) (new_map ms) (new_map ns) h k = ap new_map (AreAssignments-one vs es ms ns h k)
  IsExpression-one vs (map es) (new_map ms) f h k = absurd k
  IsExpression-one vs (map es) e f h k = absurd h
  IsExpression-one vs nil e f h k = h ∙ sym k
  IsExpression-one vs (cons head tail) (new_cell e f) (new_cell b c) h k =
      let first = IsExpression-one vs head e b h.0 k.0 in let rest = IsExpression-one vs tail f c h.1 k.1 in cc
  IsExpression-one vs (cons head tail) (new_cell e f) b h k = absurd k
  IsExpression-one vs (cons head tail) e b h k = absurd h
  IsExpression-one vs (binary bs) e f h k = h ∙ sym k

  IsTupleExpression-one : (vs : List ℕ) (ds : Items) (e f : Expression) → IsTupleExpression vs ds e → IsTupleExpression vs ds f → e ≡ f
  IsTupleExpression-one vs no_items e f h k = absurd h
  IsTupleExpression-one vs (item (integer z) ds) e f h k = absurd h
  IsTupleExpression-one vs (item (atom cs) ds) e f h k = IsCall-one (callee_of cs (item_count ds)) (AreParts vs ds) ds e f (λ es fs a b. AreParts-one vs ds es fs a b) h k
  IsTupleExpression-one vs (item (tuple ds) no_items) (new_tuple es) (new_tuple fs) h k = ap new_tuple (AreParts-one vs ds es fs h k)
  IsTupleExpression-one vs (item (tuple ds) no_items) (new_tuple es) f h k = absurd k
  IsTupleExpression-one vs (item (tuple ds) no_items) e f h k = absurd h
  IsTupleExpression-one vs (item (tuple ds) (item x xs)) e f h k = absurd h
  IsTupleExpression-one vs (item (map es) ds) e f h k = absurd h
  IsTupleExpression-one vs (item nil ds) e f h k = absurd h
  IsTupleExpression-one vs (item (cons head tail) ds) e f h k = absurd h
  IsTupleExpression-one vs (item (binary bs) ds) e f h k = absurd h

  AreParts-one : (vs : List ℕ) (ds : Items) (es fs : Expressions) → AreParts vs ds es → AreParts vs ds fs → es ≡ fs
  AreParts-one vs no_items no_expressions no_expressions h k = refl
  AreParts-one vs no_items no_expressions (expression f fs) h k = absurd k
  AreParts-one vs no_items (expression e es) fs h k = absurd h
  AreParts-one vs (item d ds) no_expressions fs h k = absurd h
  AreParts-one vs (item d ds) (expression e es) no_expressions h k = absurd k
  AreParts-one vs (item d ds) (expression e es) (expression f fs) h k =
      let first = IsExpression-one vs d e f h.0 k.0 in let rest = AreParts-one vs ds es fs h.1 k.1 in cc

  AreAssignments-one : (vs : List ℕ) (es : Entries) (ms ns : Assignments) → AreAssignments vs es ms → AreAssignments vs es ns → ms ≡ ns
  AreAssignments-one vs no_entries no_assignments no_assignments h k = refl
  AreAssignments-one vs no_entries no_assignments (assignment l e ns) h k = absurd k
  AreAssignments-one vs no_entries (assignment l e ms) ns h k = absurd h
  AreAssignments-one vs (entry k v es) no_assignments ns h i = absurd h
  AreAssignments-one vs (entry k v es) (assignment l e ms) no_assignments h i = absurd i
  AreAssignments-one vs (entry k v es) (assignment l e ms) (assignment m f ns) h i =
      let key : l ≡ m = h.0 ∙ sym i.0 in
      let first = IsExpression-one vs v e f h.1 i.1 in let rest = AreAssignments-one vs es ms ns h.2 i.2 in cc

-- expressions followed by others
abbrev pub expressions_before : List Expression → Expressions → Expressions
expressions_before [] rest = rest
expressions_before (e ∷ es) rest = expression e (expressions_before es rest)

expressions_before-none : (es : List Expression) → expressions_before es no_expressions ≡ expressions_of es
expressions_before-none [] = refl
expressions_before-none (e ∷ es) = ap (expression e) (expressions_before-none es)

expressions_before-push : (es : List Expression) (e : Expression) (rest : Expressions) → expressions_before (es ++ e ∷ []) rest ≡ expressions_before es (expression e rest)
expressions_before-push [] e rest = refl
expressions_before-push (d ∷ es) e rest = ap (expression d) (expressions_before-push es e rest)

-- the first i terms are read as these expressions
pub record PartsFront (clause : ℕ) (vs : List ℕ) (ds : List Datum) (i : ℕ) (es : List Expression) : Type 0 where
  pub whole : (rest : Expressions) → AreParts vs (items_of (drop i ds)) rest → AreParts vs (items_of ds) (expressions_before es rest)
  pub clean : parts_faults clause vs (items_of (drop i ds)) ≡ parts_faults clause vs (items_of ds)

pub PartsFront-more : (clause : ℕ) (vs : List ℕ) (ds : List Datum) (i : ℕ) (x : Datum) (es fs : List Expression) (e : Expression) → i < length ds → x ≡ get_or ds i x → IsExpression vs x e → fs ≡ es ++ e ∷ [] → PartsFront clause vs ds i es → PartsFront clause vs ds (i + 1) fs
PartsFront-more clause vs ds i x es fs e within is one pushed front =
    let split : drop i ds ≡ x ∷ drop (i + 1) ds = split_at ds i x within is in
    record {
      whole = λ rest h.
          let given : AreParts vs (items_of (x ∷ drop (i + 1) ds)) (expression e rest) = (one, h) in
          rw (pushed, expressions_before-push es e rest) (front.whole (expression e rest) (rw split given));
      clean =
          let known = rw split at front.clean in
          sym (ap (λ l. l ++ parts_faults clause vs (items_of (drop (i + 1) ds))) (IsExpression-faults clause vs x e one)) ∙ known;
    }

pub PartsFront-all : (clause : ℕ) (vs : List ℕ) (ds : List Datum) (i : ℕ) (es : List Expression) → length ds ≤ i → PartsFront clause vs ds i es → AreParts vs (items_of ds) (expressions_of es)
PartsFront-all clause vs ds i es end front =
    let none : drop i ds ≡ [] = drop_all i ds end in
    let given : AreParts vs (items_of (drop i ds)) no_expressions = rw none tt in
    rw (← expressions_before-none es) (front.whole no_expressions given)

pub PartsFront-refuses : (clause : ℕ) (vs : List ℕ) (ds : List Datum) (i : ℕ) (x : Datum) (es : List Expression) (f : SpecFault) → i < length ds → x ≡ get_or ds i x → PartsFront clause vs ds i es → Refuses f (expression_faults clause vs x) → Refuses f (parts_faults clause vs (items_of ds))
PartsFront-refuses clause vs ds i x es f within is front h =
    let split : drop i ds ≡ x ∷ drop (i + 1) ds = split_at ds i x within is in
    let known = rw split at front.clean in
    Refuses-same f _ _ known (Refuses-before f (expression_faults clause vs x) (parts_faults clause vs (items_of (drop (i + 1) ds))) h)

-- keys and expressions followed by others
abbrev pub assignments_before : List (Datum × Expression) → Assignments → Assignments
assignments_before [] rest = rest
assignments_before (m ∷ ms) rest = assignment m.0 m.1 (assignments_before ms rest)

assignments_before-none : (ms : List (Datum × Expression)) → assignments_before ms no_assignments ≡ assignments_of ms
assignments_before-none [] = refl
assignments_before-none (m ∷ ms) = ap (assignment m.0 m.1) (assignments_before-none ms)

assignments_before-push : (ms : List (Datum × Expression)) (m : Datum × Expression) (rest : Assignments) → assignments_before (ms ++ m ∷ []) rest ≡ assignments_before ms (assignment m.0 m.1 rest)
assignments_before-push [] m rest = refl
assignments_before-push (n ∷ ms) m rest = ap (assignment n.0 n.1) (assignments_before-push ms m rest)

-- the first i pairs are read as these keys and expressions
pub record AssignmentsFront (clause : ℕ) (vs : List ℕ) (es : List (Datum × Datum)) (i : ℕ) (ms : List (Datum × Expression)) : Type 0 where
  pub whole : (rest : Assignments) → AreAssignments vs (entries_of (drop i es)) rest → AreAssignments vs (entries_of es) (assignments_before ms rest)
  pub clean : values_faults clause vs (entries_of (drop i es)) ≡ values_faults clause vs (entries_of es)

pub AssignmentsFront-more : (clause : ℕ) (vs : List ℕ) (es : List (Datum × Datum)) (i : ℕ) (e : Datum × Datum) (ms ns : List (Datum × Expression)) (k : Datum) (x : Expression) → i < length es → e ≡ get_or es i e → k ≡ e.0 → IsExpression vs e.1 x → ns ≡ ms ++ (k, x) ∷ [] → AssignmentsFront clause vs es i ms → AssignmentsFront clause vs es (i + 1) ns
AssignmentsFront-more clause vs es i e ms ns k x within is same one pushed front =
    let split : drop i es ≡ e ∷ drop (i + 1) es = split_at es i e within is in
    record {
      whole = λ rest h.
          let given : AreAssignments vs (entries_of (e ∷ drop (i + 1) es)) (assignment k x rest) = (same, one, h) in
          rw (pushed, assignments_before-push ms (k, x) rest) (front.whole (assignment k x rest) (rw split given));
      clean =
          let known = rw split at front.clean in
          sym (ap (λ l. l ++ values_faults clause vs (entries_of (drop (i + 1) es))) (IsExpression-faults clause vs e.1 x one)) ∙ known;
    }

pub AssignmentsFront-all : (clause : ℕ) (vs : List ℕ) (es : List (Datum × Datum)) (i : ℕ) (ms : List (Datum × Expression)) → length es ≤ i → AssignmentsFront clause vs es i ms → AreAssignments vs (entries_of es) (assignments_of ms)
AssignmentsFront-all clause vs es i ms end front =
    let none : drop i es ≡ [] = drop_all i es end in
    let given : AreAssignments vs (entries_of (drop i es)) no_assignments = rw none tt in
    rw (← assignments_before-none ms) (front.whole no_assignments given)

pub AssignmentsFront-refuses : (clause : ℕ) (vs : List ℕ) (es : List (Datum × Datum)) (i : ℕ) (e : Datum × Datum) (ms : List (Datum × Expression)) (f : SpecFault) → i < length es → e ≡ get_or es i e → AssignmentsFront clause vs es i ms → Refuses f (expression_faults clause vs e.1) → Refuses f (values_faults clause vs (entries_of es))
AssignmentsFront-refuses clause vs es i e ms f within is front h =
    let split : drop i es ≡ e ∷ drop (i + 1) es = split_at es i e within is in
    let known = rw split at front.clean in
    Refuses-same f _ _ known (Refuses-before f (expression_faults clause vs e.1) (values_faults clause vs (entries_of (drop (i + 1) es))) h)

-- there are as many expressions as terms
pub AreParts-some : (vs : List ℕ) (ds : List Datum) (es : List Expression) → AreParts vs (items_of ds) (expressions_of es) → 0 < length ds → 0 < length es
AreParts-some vs [] es h some = absurd (omega arith)
AreParts-some vs (d ∷ ds) [] h some = absurd h
AreParts-some vs (d ∷ ds) (e ∷ es) h some = omega arith

cells-IsExpression : (vs : List ℕ) (ds : List Datum) (es : List Expression) (tail : Datum) (f : Expression) → AreParts vs (items_of ds) (expressions_of es) → IsExpression vs tail f → IsExpression vs (cells ds tail) (new_cells es f)
cells-IsExpression vs [] [] tail f h last = last
cells-IsExpression vs [] (e ∷ es) tail f h last = absurd h
cells-IsExpression vs (d ∷ ds) [] tail f h last = absurd h
cells-IsExpression vs (d ∷ ds) (e ∷ es) tail f h last = (h.0, cells-IsExpression vs ds es tail f h.1 last)

cells-expression_faults : (i : ℕ) (vs : List ℕ) (ds : List Datum) (tail : Datum) → expression_faults i vs (cells ds tail) ≡ parts_faults i vs (items_of ds) ++ expression_faults i vs tail
cells-expression_faults i vs [] tail = refl
cells-expression_faults i vs (d ∷ ds) tail =
    ap (λ l. expression_faults i vs d ++ l) (cells-expression_faults i vs ds tail)
    ∙ sym (append_assoc (expression_faults i vs d) (parts_faults i vs (items_of ds)) (expression_faults i vs tail))

IsAtomExpression-no_list : (vs cs : List ℕ) (w : Word) (e : Expression) → IsAtomExpression vs cs w e → IsNoListExpression e
IsAtomExpression-no_list vs cs (word.Variable n) e h = subst IsNoListExpression (sym h.1) tt
IsAtomExpression-no_list vs cs word.Misnumbered e h = absurd h
IsAtomExpression-no_list vs cs word.Underscore e h = subst IsNoListExpression (sym h) tt
IsAtomExpression-no_list vs cs word.Object e h = subst IsNoListExpression (sym h) tt
IsAtomExpression-no_list vs cs word.Bindings e h = subst IsNoListExpression (sym h) tt
IsAtomExpression-no_list vs cs word.Plain e h = subst IsNoListExpression (sym h) tt

IsQuoted-no_list : (ds : Items) (e : Expression) → IsQuoted ds e → IsNoListExpression e
IsQuoted-no_list no_items e h = absurd h
IsQuoted-no_list (item d no_items) e h = subst IsNoListExpression (sym h) tt
IsQuoted-no_list (item d (item x xs)) e h = absurd h

IsCall-no_list : (c : Callee) (P : Expressions → Type 0) (ds : Items) (e : Expression) → IsCall c P ds e → IsNoListExpression e
IsCall-no_list callee.Quote P ds e h = IsQuoted-no_list ds e h
IsCall-no_list callee.AndAlso P ds (and_also es) h = tt
IsCall-no_list callee.AndAlso P ds e h = absurd h
IsCall-no_list callee.OrElse P ds (or_else es) h = tt
IsCall-no_list callee.OrElse P ds e h = absurd h
IsCall-no_list (callee.Function f) P ds (call g es) h = tt
IsCall-no_list (callee.Function f) P ds e h = absurd h
IsCall-no_list callee.Unknown P ds e h = absurd h

IsTupleExpression-no_list : (vs : List ℕ) (ds : Items) (e : Expression) → IsTupleExpression vs ds e → IsNoListExpression e
IsTupleExpression-no_list vs no_items e h = absurd h
IsTupleExpression-no_list vs (item (integer z) ds) e h = absurd h
IsTupleExpression-no_list vs (item (atom cs) ds) e h = IsCall-no_list (callee_of cs (item_count ds)) (AreParts vs ds) ds e h
IsTupleExpression-no_list vs (item (tuple ds) no_items) (new_tuple es) h = tt
IsTupleExpression-no_list vs (item (tuple ds) no_items) e h = absurd h
IsTupleExpression-no_list vs (item (tuple ds) (item x xs)) e h = absurd h
IsTupleExpression-no_list vs (item (map es) ds) e h = absurd h
IsTupleExpression-no_list vs (item nil ds) e h = absurd h
IsTupleExpression-no_list vs (item (cons head tail) ds) e h = absurd h
IsTupleExpression-no_list vs (item (binary bs) ds) e h = absurd h

-- a term that is not a list is read as an expression that is not one
IsExpression-no_list : (vs : List ℕ) (d : Datum) (e : Expression) → IsNoList d → IsExpression vs d e → IsNoListExpression e
IsExpression-no_list vs (integer z) e no_list h = subst IsNoListExpression (sym h) tt
IsExpression-no_list vs (atom cs) e no_list h = IsAtomExpression-no_list vs cs (word_of cs) e h
IsExpression-no_list vs (tuple ds) e no_list h = IsTupleExpression-no_list vs ds e h
IsExpression-no_list vs (map es) (new_map ms) no_list h = tt
IsExpression-no_list vs (map es) e no_list h = absurd h
IsExpression-no_list vs nil e no_list h = absurd no_list
IsExpression-no_list vs (cons head tail) e no_list h = absurd no_list
IsExpression-no_list vs (binary bs) e no_list h = subst IsNoListExpression (sym h) tt

-- a list whose tail is [] is read as the list of its elements' expressions
pub proper-IsExpression : (vs : List ℕ) (ds : List Datum) (t : Option Datum) (d : Datum) (es : List Expression) → t ≡ None → cells ds (tail_of t) ≡ d → AreParts vs (items_of ds) (expressions_of es) → IsExpression vs d (new_cells es (constant nil))
proper-IsExpression vs ds None d es e is h =
    let P : Datum → Type 0 = λ x. IsExpression vs x (new_cells es (constant nil)) in subst P is (cells-IsExpression vs ds es nil (constant nil) h refl)
proper-IsExpression vs ds (Some x) d es e is h = absurd (cc)

-- a list with another tail is read as the list of its elements' expressions and its tail's
pub improper-IsExpression : (vs : List ℕ) (ds : List Datum) (t : Option Datum) (tail d : Datum) (es : List Expression) (f : Expression) → t ≡ Some tail → cells ds (tail_of t) ≡ d → AreParts vs (items_of ds) (expressions_of es) → IsExpression vs tail f → IsExpression vs d (new_cells es f)
improper-IsExpression vs ds None tail d es f e is h last = absurd (cc)
improper-IsExpression vs ds (Some x) tail d es f e is h last =
    let same : tail ≡ x = cc in
    let P : Datum → Type 0 = λ y. IsExpression vs y (new_cells es f) in
    let Q : Datum → Type 0 = λ y. IsExpression vs y f in
    subst P is (cells-IsExpression vs ds es x f h (subst Q same last))

pub elements-Refuses : (clause : ℕ) (vs : List ℕ) (ds : List Datum) (t : Option Datum) (d : Datum) (f : SpecFault) → cells ds (tail_of t) ≡ d → Refuses f (parts_faults clause vs (items_of ds)) → Refuses f (expression_faults clause vs d)
elements-Refuses clause vs ds t d f is h =
    Refuses-same f _ _ (sym (cells-expression_faults clause vs ds (tail_of t)) ∙ ap (expression_faults clause vs) is)
    (Refuses-before f (parts_faults clause vs (items_of ds)) (expression_faults clause vs (tail_of t)) h)

pub tail-Refuses : (clause : ℕ) (vs : List ℕ) (ds : List Datum) (t : Option Datum) (tail d : Datum) (es : List Expression) (f : SpecFault) → t ≡ Some tail → cells ds (tail_of t) ≡ d → AreParts vs (items_of ds) (expressions_of es) → Refuses f (expression_faults clause vs tail) → Refuses f (expression_faults clause vs d)
tail-Refuses clause vs ds None tail d es f e is read h = absurd (cc)
tail-Refuses clause vs ds (Some x) tail d es f e is read h =
    let same : tail ≡ x = cc in
    let P : Datum → Type 0 = λ y. Refuses f (expression_faults clause vs y) in
    Refuses-same f _ _ (sym (cells-expression_faults clause vs ds x) ∙ ap (expression_faults clause vs) is)
    (Refuses-behind f (parts_faults clause vs (items_of ds)) (expression_faults clause vs x) (AreParts-faults clause vs (items_of ds) (expressions_of es) read) (subst P same h))

-- the tail of a list is read as an expression that is not a list
pub tail-no_list : (vs : List ℕ) (t : Option Datum) (tail : Datum) (f : Expression) → t ≡ Some tail → IsTail t → IsExpression vs tail f → IsNoListExpression f
tail-no_list vs None tail f e no_list h = absurd (cc)
tail-no_list vs (Some x) tail f e no_list h =
    let same : x ≡ tail = cc in IsExpression-no_list vs tail f (subst IsNoList same no_list) h

-- const quotes exactly one term
pub quotes-one : (cs : List ℕ) (n : ℕ) → callee_of cs n ≡ callee.Quote → n ≡ 1
quotes-one cs n e = by (n == 1) refl (pointwise nat_eq cs (codes "const")) refl (nat_lt 0 n && pointwise nat_eq cs (codes "andalso")) (nat_lt 0 n && pointwise nat_eq cs (codes "orelse")) e
  where
    no_function : (o : Option Rattle.prims_table.specs.declared.prim.Primitive.Primitive) → function_callee o ≡ callee.Quote → ⊥
    no_function None e = absurd (cc)
    no_function (Some f) e = absurd (cc)

    by : (a : Bool) → (n == 1) ≡ a → (b : Bool) → pointwise nat_eq cs (codes "const") ≡ b → (c d : Bool) → cond (a && b) callee.Quote (cond c callee.AndAlso (cond d callee.OrElse (function_callee (named cs n)))) ≡ callee.Quote → n ≡ 1
    by true same b is c d e = eqb-true n 1 same
    by false same b is true d e = absurd (cc)
    by false same b is false true e = absurd (cc)
    by false same b is false false e = absurd (no_function (named cs n) e)

-- the first of some terms and the others are no deeper than all of them
pub first-depth : (ds : List Datum) (d : Datum) (rest : List Datum) → ds ≡ d ∷ rest → (depth d ≤ items_depth (items_of ds)) × (items_depth (items_of rest) ≤ items_depth (items_of ds))
first-depth ds d rest e =
    let P : List Datum → Type 0 = λ l. (depth d ≤ items_depth (items_of l)) × (items_depth (items_of rest) ≤ items_depth (items_of l)) in
    subst P (sym e) (omega arith, omega arith)

-- a tuple that begins with an atom is read as the call that it names
pub call-read : (vs : List ℕ) (ds : List Datum) (d : Datum) (rest : List Datum) (cs : List ℕ) (c : Callee) (r : Result Expression SpecFault) → ds ≡ d ∷ rest → atom cs ≡ d → c ≡ callee_of cs (length rest) → IfOk r (λ e. IsCall c (AreParts vs (items_of rest)) (items_of rest) e) → IfOk r (λ e. IsTupleExpression vs (items_of ds) e)
call-read vs ds d rest cs c r split is named h =
    let P : Callee → Type 0 = λ x. IfOk r (λ e. IsCall x (AreParts vs (items_of rest)) (items_of rest) e) in
    let Q : Datum → Type 0 = λ x. IfOk r (λ e. IsTupleExpression vs (item x (items_of rest)) e) in
    let R : List Datum → Type 0 = λ l. IfOk r (λ e. IsTupleExpression vs (items_of l) e) in
    subst R (sym split) (subst Q is (subst P (named ∙ ap (callee_of cs) (sym (item_count-items_of rest))) h))

pub call-refused : (i : ℕ) (vs : List ℕ) (ds : List Datum) (d : Datum) (rest : List Datum) (cs : List ℕ) (c : Callee) (r : Result Expression SpecFault) → ds ≡ d ∷ rest → atom cs ≡ d → c ≡ callee_of cs (length rest) → IfErr r (λ f. Refuses f (call_faults i c (parts_faults i vs (items_of rest)))) → IfErr r (λ f. Refuses f (tuple_faults i vs (items_of ds)))
call-refused i vs ds d rest cs c r split is named h =
    let P : Callee → Type 0 = λ x. IfErr r (λ f. Refuses f (call_faults i x (parts_faults i vs (items_of rest)))) in
    let Q : Datum → Type 0 = λ x. IfErr r (λ f. Refuses f (tuple_faults i vs (item x (items_of rest)))) in
    let R : List Datum → Type 0 = λ l. IfErr r (λ f. Refuses f (tuple_faults i vs (items_of l))) in
    subst R (sym split) (subst Q is (subst P (named ∙ ap (callee_of cs) (sym (item_count-items_of rest))) h))

-- a tuple that begins with a tuple is read as a tuple to be made
pub tuple-read : (vs : List ℕ) (ds : List Datum) (d : Datum) (rest parts : List Datum) (r : Result Expression SpecFault) → ds ≡ d ∷ rest → tuple (items_of parts) ≡ d → IfOk r (λ e. IsTupleExpression vs (item (tuple (items_of parts)) (items_of rest)) e) → IfOk r (λ e. IsTupleExpression vs (items_of ds) e)
tuple-read vs ds d rest parts r split is h =
    let Q : Datum → Type 0 = λ x. IfOk r (λ e. IsTupleExpression vs (item x (items_of rest)) e) in
    let R : List Datum → Type 0 = λ l. IfOk r (λ e. IsTupleExpression vs (items_of l) e) in
    subst R (sym split) (subst Q is h)

pub tuple-refused : (i : ℕ) (vs : List ℕ) (ds : List Datum) (d : Datum) (rest parts : List Datum) (r : Result Expression SpecFault) → ds ≡ d ∷ rest → tuple (items_of parts) ≡ d → IfErr r (λ f. Refuses f (tuple_faults i vs (item (tuple (items_of parts)) (items_of rest)))) → IfErr r (λ f. Refuses f (tuple_faults i vs (items_of ds)))
tuple-refused i vs ds d rest parts r split is h =
    let Q : Datum → Type 0 = λ x. IfErr r (λ f. Refuses f (tuple_faults i vs (item x (items_of rest)))) in
    let R : List Datum → Type 0 = λ l. IfErr r (λ f. Refuses f (tuple_faults i vs (items_of l))) in
    subst R (sym split) (subst Q is h)

-- a tuple that begins with a list is not an expression
pub list-led : (i : ℕ) (vs : List ℕ) (ds : List Datum) (d : Datum) (rest xs : List Datum) (t : Datum) → ds ≡ d ∷ rest → cells xs t ≡ d → 0 < length xs → Refuses (BadExpression i) (tuple_faults i vs (items_of ds))
list-led i vs ds d rest [] t split is some = absurd (omega arith)
list-led i vs ds d rest (x ∷ xs) t split is some =
    let Q : Datum → Type 0 = λ y. Refuses (BadExpression i) (tuple_faults i vs (item y (items_of rest))) in
    let R : List Datum → Type 0 = λ l. Refuses (BadExpression i) (tuple_faults i vs (items_of l)) in
    subst R (sym split) (subst Q is (inr (record { others = []; first = refl })))

abbrev pub IsNoLeader : Datum → Type 0
IsNoLeader (atom cs) = ⊥
IsNoLeader (tuple ds) = ⊥
IsNoLeader d = Unit {0}

no_leader : (i : ℕ) (vs : List ℕ) (d : Datum) (ds : Items) → IsNoLeader d → tuple_faults i vs (item d ds) ≡ BadExpression i ∷ []
no_leader i vs (integer z) ds h = refl
no_leader i vs (atom cs) ds h = absurd h
no_leader i vs (tuple es) ds h = absurd h
no_leader i vs (map es) ds h = refl
no_leader i vs nil ds h = refl
no_leader i vs (cons head tail) ds h = refl
no_leader i vs (binary bs) ds h = refl

-- a tuple that begins with neither an atom nor a tuple is not an expression
pub other-led : (i : ℕ) (vs : List ℕ) (ds : List Datum) (d e : Datum) (rest : List Datum) → ds ≡ d ∷ rest → e ≡ d → IsNoLeader e → Refuses (BadExpression i) (tuple_faults i vs (items_of ds))
other-led i vs ds d e rest split is plain =
    let Q : Datum → Type 0 = λ y. Refuses (BadExpression i) (tuple_faults i vs (item y (items_of rest))) in
    let R : List Datum → Type 0 = λ l. Refuses (BadExpression i) (tuple_faults i vs (items_of l)) in
    subst R (sym split) (subst Q is (inr (record { others = []; first = no_leader i vs e (items_of rest) plain })))

-- a tuple that is the only element of a tuple is read as a tuple to be made
pub alone-read : (vs : List ℕ) (ds : Items) (rest : List Datum) (es : Expressions) (b : Bool) → b ≡ (length rest == 0) → b ≡ true → AreParts vs ds es → IsTupleExpression vs (item (tuple ds) (items_of rest)) (new_tuple es)
alone-read vs ds [] es b is empty h = h
alone-read vs ds (x ∷ xs) es b is empty h = absurd (omega (arith, eqb-true (length (x ∷ xs)) 0 (sym is ∙ empty)))

pub alone-refused : (i : ℕ) (vs : List ℕ) (ds : Items) (rest : List Datum) (f : SpecFault) (b : Bool) → b ≡ (length rest == 0) → b ≡ true → Refuses f (parts_faults i vs ds) → Refuses f (tuple_faults i vs (item (tuple ds) (items_of rest)))
alone-refused i vs ds [] f b is empty h = h
alone-refused i vs ds (x ∷ xs) f b is empty h = absurd (omega (arith, eqb-true (length (x ∷ xs)) 0 (sym is ∙ empty)))

-- a tuple with further elements after it is rejected
pub crowded-refused : (i : ℕ) (vs : List ℕ) (ds : Items) (rest : List Datum) (b : Bool) → b ≡ (length rest == 0) → b ≡ false → Refuses (BadExpression i) (tuple_faults i vs (item (tuple ds) (items_of rest)))
crowded-refused i vs ds [] b is some = absurd (cc)
crowded-refused i vs ds (x ∷ xs) b is some = inr (record { others = []; first = refl })

below-next : (k : Datum) (es : Entries) → IsBelowFirst k es → IsBelowNext k (entry_keys es)
below-next k no_entries below = tt
below-next k (entry l v es) below = below

-- the keys of a map are in ascending order
pub entry_keys-rise : (es : Entries) → ArePairsSound es → AreKeysRising (entry_keys es)
entry_keys-rise no_entries sound = tt
entry_keys-rise (entry k v es) sound = (below-next k es sound.2, entry_keys-rise es sound.3)

-- a map that is read keeps its keys
pub assignment_keys-same : (vs : List ℕ) (es : Entries) (ms : Assignments) → AreAssignments vs es ms
    → entry_keys es ≡ assignment_keys ms
assignment_keys-same vs no_entries no_assignments h = refl
assignment_keys-same vs no_entries (assignment l e ms) h = absurd h
assignment_keys-same vs (entry k v es) no_assignments h = absurd h
assignment_keys-same vs (entry k v es) (assignment l e ms) h =
    let rest = assignment_keys-same vs es ms h.2 in let first = h.0 in cc

-- the keys of a map that is read are in ascending order
pub keys-rising : (vs : List ℕ) (es : Entries) (ms : Assignments) (d : Datum) → map es ≡ d → IsTerm d
    → AreAssignments vs es ms → AreKeysRising (assignment_keys ms)
keys-rising vs es ms d is term h =
    let sound : IsSound (map es) = subst IsSound (sym is) term.sound in
    subst AreKeysRising (assignment_keys-same vs es ms h) (entry_keys-rise es sound.1)
