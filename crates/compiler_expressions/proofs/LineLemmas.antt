-- Lines of parts, and which of them are writable.
use Rattle.std.proofs.Common.{◌≡◌, ◌==◌, Bool, true, false, ℕ, zero, suc, ◌+◌, ◌-◌, ◌<◌, ◌≤◌, Some, None, Option, Box, List, [], ◌∷◌, ◌++◌, map, length, get_or, drop, refl, sym, ◌∙◌, ap, subst, arith, drop-cons, add-one, length-append}
use Rattle.std.proofs.lemmas.List.{drop_all, append_assoc}
use Rattle.term_core.specs.Datum.{Datum}
use Rattle.term_core.specs.Datum.Datum.{nil}
use Rattle.term_operand.specs.Operand.{boolean}
use Rattle.mcode.specs.declared.kind.Kind.{Kind}
use Rattle.mspec_syntax.specs.Expression.{Expression, expressions_of, assignments_of, new_cells, IsNoListExpression}
use Rattle.mspec_syntax.specs.Expression.Expression.{bound, object, bindings, constant, quoted, call, and_also, or_else, new_tuple, new_cell, new_map}
use Rattle.mspec_syntax.specs.Expression.Expressions.{no_expressions, expression}
use Rattle.prims_table.specs.declared.prim.Primitive.TheVariants as prim
use Rattle.mspec_syntax.specs.ExpressionView.{tail_expression, IsTailExpression}
use Rattle.mspec_syntax.specs.Mode.Position.{by_itself, as_tail}
use Rattle.mspec_syntax.specs.Rising.{rank_of}
use Rattle.mspec_syntax.specs.declared.mode.Mode.{Mode}
use Rattle.mspec_syntax.specs.declared.mode.Mode.TheVariants.{Condition, Body}
use Rattle.compiler_assembly.specs.Line.{SourceLine, plain, before_label}
use Rattle.compiler_assembly.specs.declared.op.Op.TheVariants as op
use Rattle.compiler_assembly.specs.declared.op.Target.TheVariants.{Ahead}
use Rattle.compiler_expressions.specs.Expressions.{Site, failure, exit_lines, cell_lines, cell_count, bindings_lines, lines_at, argument_lines, value_lines, test_lines, choice_lines, none_true_lines, and_lines, or_lines}
use Rattle.compiler_expressions.specs.Writable.{IsNear, AreWritable, most_counted, most_slot}

-- what is left of a list begins with its first element
pub split_at : {X : Type 0} (xs : List X) (i : ℕ) (x : X) → i < length xs → x ≡ get_or xs i x → drop i xs ≡ x ∷ drop (i + 1) xs
split_at xs i x h e = drop-cons xs i x h ∙ ap (λ y. y ∷ drop (suc i) xs) (sym e) ∙ ap (λ j. x ∷ drop j xs) (sym (add-one i))

pub writable-left : (a b : List SourceLine) → AreWritable (a ++ b) → AreWritable a
writable-left [] b h = tt
writable-left (l ∷ a) b h = (h.0, writable-left a b h.1)

pub writable-right : (a b : List SourceLine) → AreWritable (a ++ b) → AreWritable b
writable-right [] b h = h
writable-right (l ∷ a) b h = writable-right a b h.1

not-empty : (ns : List ℕ) (b : Bool) → b ≡ (length ns == 0) → b ≡ false → 0 < length ns
not-empty [] b e h = absurd (let q : true ≡ false = sym e ∙ h in cc)
not-empty (n ∷ ns) b e h = omega arith

pub near : (mode : Mode) (n : ℕ) → n ≤ most_counted → IsNear (failure mode n)
near Condition n h = tt
near Body n h = h

-- one more cell
pub cells-more : (mode : Mode) (n : ℕ) (ls old : List SourceLine) → ls ≡ cell_lines mode n ++ old → plain (op.MakeCons (failure mode (n + 1))) ∷ ls ≡ cell_lines mode (n + 1) ++ old
cells-more mode n ls old h =
    rw (add-one n) (ap (λ l. plain (op.MakeCons (failure mode (suc n))) ∷ l) h)

-- the length of what was put at the front
pub length-before : (a b ls : List SourceLine) → ls ≡ a ++ b → length ls - length b ≡ length a
length-before a b ls h = omega (arith, ap length h, length-append a b)

module _ (slots : List ℕ) where
  abbrev pub get_line : ℕ → SourceLine
  get_line n = plain (op.Get (rank_of slots n))

  pub gets-at : (ns : List ℕ) (i : ℕ) (x : ℕ) → i < length ns → AreWritable (map get_line ns) → rank_of slots (get_or ns i x) ≤ most_slot
  gets-at [] i x h w = absurd (omega arith)
  gets-at (n ∷ ns) zero x h w = w.0
  gets-at (n ∷ ns) (suc i) x h w = gets-at ns i x (omega arith) w.1

  pub gets-step : (ns : List ℕ) (i n : ℕ) (ls old : List SourceLine) → i < length ns → n ≡ get_or ns i n → ls ≡ map get_line (drop (i + 1) ns) ++ old → get_line n ∷ ls ≡ map get_line (drop i ns) ++ old
  gets-step ns i n ls old h is e =
      ap (λ l. get_line n ∷ l) e ∙ ap (λ l. map get_line l ++ old) (sym (split_at ns i n h is))

module _ (site : Site) (ints : List (ℕ × Kind)) where
  -- the lines of '$$'
  pub bindings-none : (d : ℕ) (ns : List ℕ) → length ns ≡ 0 → bindings_lines site d ints ns ≡ plain (op.Const nil) ∷ []
  bindings-none d [] h = refl
  bindings-none d (n ∷ ns) h = absurd (omega arith)

  pub bindings-some : (d : ℕ) (ns : List ℕ) → 0 < length ns → bindings_lines site d ints ns ≡ map (get_line site.slots) ns ++ plain (op.Const nil) ∷ (cell_lines site.mode (length ns) ++ exit_lines site.mode d ints)
  bindings-some d [] h = absurd (omega arith)
  bindings-some d (n ∷ ns) h = refl

  bindings-parts : (d : ℕ) (ns : List ℕ) → 0 < length ns → AreWritable (bindings_lines site d ints ns) → AreWritable (map (get_line site.slots) ns) × AreWritable (cell_lines site.mode (length ns))
  bindings-parts d ns some w =
      let parts = subst AreWritable (bindings-some d ns some) w in
      let behind = writable-right (map (get_line site.slots) ns) (plain (op.Const nil) ∷ (cell_lines site.mode (length ns) ++ exit_lines site.mode d ints)) parts in
      (writable-left (map (get_line site.slots) ns) _ parts, writable-left (cell_lines site.mode (length ns)) (exit_lines site.mode d ints) behind.1)

  pub bound-parts : (d : ℕ) {ns : List ℕ} {b : Bool} → ns ≡ site.bound → b ≡ (length ns == 0) → b ≡ false → AreWritable (bindings_lines site d ints site.bound) → AreWritable (map (get_line site.slots) ns) × AreWritable (cell_lines site.mode (length ns))
  bound-parts d {ns} {b} is e some w =
      bindings-parts d ns (not-empty ns b e some) (subst (λ l. AreWritable (bindings_lines site d ints l)) (sym is) w)

  arguments-get : (es : List Expression) (d i : ℕ) (x : Expression) → i < length es → AreWritable (argument_lines site d ints (expressions_of es)) → AreWritable (lines_at site (d + i) ints (get_or es i x) by_itself)
  arguments-get [] d i x h w = absurd (omega arith)
  arguments-get (e ∷ es) d zero x h w =
      let q : d ≡ d + 0 = omega arith in
      subst (λ k. AreWritable (lines_at site k ints e by_itself)) q (writable-left _ (argument_lines site (suc d) ints (expressions_of es)) w)
  arguments-get (e ∷ es) d (suc i) x h w =
      let q : suc d + i ≡ d + suc i = omega arith in
      subst (λ k. AreWritable (lines_at site k ints (get_or es i x) by_itself)) q
      (arguments-get es (suc d) i x (omega arith) (writable-right (lines_at site d ints e by_itself) _ w))

  pub arguments-at : (es : List Expression) (d i : ℕ) (e : Expression) → i < length es → e ≡ get_or es i e → AreWritable (argument_lines site d ints (expressions_of es)) → AreWritable (lines_at site (d + i) ints e by_itself)
  arguments-at es d i e h is w =
      subst (λ y. AreWritable (lines_at site (d + i) ints y by_itself)) (sym is) (arguments-get es d i e h w)

  -- one more argument, with the others after it
  pub arguments-step : (es : List Expression) (d i j : ℕ) {e : Expression} {ls new : List SourceLine} (old : List SourceLine) → e ≡ get_or es i e → j ≡ i + 1 → i < length es → ls ≡ argument_lines site (d + j) ints (expressions_of (drop j es)) ++ old
      → new ≡ lines_at site (d + i) ints e by_itself ++ ls → new ≡ argument_lines site (d + i) ints (expressions_of (drop i es)) ++ old
  arguments-step es d i j {e} old is next h so n =
      let q : d + (i + 1) ≡ suc (d + i) = omega arith in
      let own = lines_at site (d + i) ints e by_itself in
      n ∙ ap (λ l. own ++ l) (so ∙ ap (λ k. argument_lines site (d + k) ints (expressions_of (drop k es)) ++ old) next ∙ ap (λ k. argument_lines site k ints (expressions_of (drop (i + 1) es)) ++ old) q)
      ∙ sym (append_assoc own _ old)
      ∙ ap (λ l. argument_lines site (d + i) ints (expressions_of l) ++ old) (sym (split_at es i e h is))

  pub arguments-none : (es : List Expression) (d : ℕ) (old : List SourceLine) → old ≡ argument_lines site d ints (expressions_of (drop (length es) es)) ++ old
  arguments-none es d old = ap (λ l. argument_lines site d ints (expressions_of l) ++ old) (sym (drop_all (length es) es (omega arith)))

  pub arguments-all : (es : List Expression) (d i : ℕ) (ls old : List SourceLine) → i ≡ 0 → ls ≡ argument_lines site (d + i) ints (expressions_of (drop i es)) ++ old → ls ≡ argument_lines site d ints (expressions_of es) ++ old
  arguments-all es d i ls old z h =
      let q : d + 0 ≡ d = omega arith in
      h ∙ ap (λ j. argument_lines site (d + j) ints (expressions_of (drop j es)) ++ old) z ∙ ap (λ k. argument_lines site k ints (expressions_of es) ++ old) q

  values-get : (ms : List (Datum × Expression)) (d i : ℕ) (x : Datum × Expression) → i < length ms → AreWritable (value_lines site d ints (assignments_of ms)) → AreWritable (lines_at site (d + i) ints (get_or ms i x).1 by_itself)
  values-get [] d i x h w = absurd (omega arith)
  values-get (m ∷ ms) d zero x h w =
      let q : d ≡ d + 0 = omega arith in
      subst (λ k. AreWritable (lines_at site k ints m.1 by_itself)) q (writable-left _ (value_lines site (suc d) ints (assignments_of ms)) w)
  values-get (m ∷ ms) d (suc i) x h w =
      let q : suc d + i ≡ d + suc i = omega arith in
      subst (λ k. AreWritable (lines_at site k ints (get_or ms i x).1 by_itself)) q
      (values-get ms (suc d) i x (omega arith) (writable-right (lines_at site d ints m.1 by_itself) _ w))

  pub values-at : (ms : List (Datum × Expression)) (d i : ℕ) (m : Datum × Expression) → i < length ms → m ≡ get_or ms i m → AreWritable (value_lines site d ints (assignments_of ms)) → AreWritable (lines_at site (d + i) ints m.1 by_itself)
  values-at ms d i m h is w =
      subst (λ y. AreWritable (lines_at site (d + i) ints y.1 by_itself)) (sym is) (values-get ms d i m h w)

  pub values-step : (ms : List (Datum × Expression)) (d i j : ℕ) {m : Datum × Expression} {ls new : List SourceLine} (old : List SourceLine) → m ≡ get_or ms i m → j ≡ i + 1 → i < length ms → ls ≡ value_lines site (d + j) ints (assignments_of (drop j ms)) ++ old
      → new ≡ lines_at site (d + i) ints m.1 by_itself ++ ls → new ≡ value_lines site (d + i) ints (assignments_of (drop i ms)) ++ old
  values-step ms d i j {m} old is next h so n =
      let q : d + (i + 1) ≡ suc (d + i) = omega arith in
      let own = lines_at site (d + i) ints m.1 by_itself in
      n ∙ ap (λ l. own ++ l) (so ∙ ap (λ k. value_lines site (d + k) ints (assignments_of (drop k ms)) ++ old) next ∙ ap (λ k. value_lines site k ints (assignments_of (drop (i + 1) ms)) ++ old) q)
      ∙ sym (append_assoc own _ old)
      ∙ ap (λ l. value_lines site (d + i) ints (assignments_of l) ++ old) (sym (split_at ms i m h is))

  pub values-none : (ms : List (Datum × Expression)) (d : ℕ) (old : List SourceLine) → old ≡ value_lines site d ints (assignments_of (drop (length ms) ms)) ++ old
  values-none ms d old = ap (λ l. value_lines site d ints (assignments_of l) ++ old) (sym (drop_all (length ms) ms (omega arith)))

  pub values-all : (ms : List (Datum × Expression)) (d i : ℕ) (ls old : List SourceLine) → i ≡ 0 → ls ≡ value_lines site (d + i) ints (assignments_of (drop i ms)) ++ old → ls ≡ value_lines site d ints (assignments_of ms) ++ old
  values-all ms d i ls old z h =
      let q : d + 0 ≡ d = omega arith in
      h ∙ ap (λ j. value_lines site (d + j) ints (assignments_of (drop j ms)) ++ old) z ∙ ap (λ k. value_lines site k ints (assignments_of ms) ++ old) q

  -- what is required of an argument of andalso, before the lines of the others
  pub record CanTest (d : ℕ) (e : Expression) (rest : List SourceLine) : Type 0 where
    pub own : AreWritable (lines_at site d ints e by_itself)
    pub failing : IsNear (failure site.mode (length rest + 5))
    pub branch : length rest + 2 ≤ most_counted

  test-first : (d : ℕ) (e : Expression) (rest : List SourceLine) → AreWritable (and_lines site.mode (lines_at site d ints e by_itself) rest) → CanTest d e rest
  test-first d e rest w =
      let behind = writable-right (lines_at site d ints e by_itself) _ w in
      record { own = writable-left _ (plain (op.Bool (failure site.mode (length rest + 5))) ∷ plain (op.Branch (Ahead (length rest + 2))) ∷ rest) w; failing = behind.0; branch = behind.1.0 }

  tests-drop : (es : List Expression) (d i : ℕ) → AreWritable (test_lines site d ints (expressions_of es)) → AreWritable (test_lines site d ints (expressions_of (drop i es)))
  tests-drop es d zero w = w
  tests-drop [] d (suc i) w = w
  tests-drop (e ∷ es) d (suc i) w = tests-drop es d i (writable-right (lines_at site d ints e by_itself) _ w).1.1

  pub tests-at : (es : List Expression) (d i : ℕ) (e : Expression) → i < length es → e ≡ get_or es i e → AreWritable (test_lines site d ints (expressions_of es)) → CanTest d e (test_lines site d ints (expressions_of (drop (i + 1) es)))
  tests-at es d i e h is w =
      test-first d e _ (subst (λ l. AreWritable (test_lines site d ints (expressions_of l))) (split_at es i e h is) (tests-drop es d i w))

  pub tests-step : (es : List Expression) (d i : ℕ) (e : Expression) (old : List SourceLine) → i < length es → e ≡ get_or es i e
      → and_lines site.mode (lines_at site d ints e by_itself) (test_lines site d ints (expressions_of (drop (i + 1) es))) ++ old ≡ test_lines site d ints (expressions_of (drop i es)) ++ old
  tests-step es d i e old h is = ap (λ l. test_lines site d ints (expressions_of l) ++ old) (sym (split_at es i e h is))

  pub tests-none : (es : List Expression) (d : ℕ) (old : List SourceLine) → old ≡ test_lines site d ints (expressions_of (drop (length es) es)) ++ old
  tests-none es d old = ap (λ l. test_lines site d ints (expressions_of l) ++ old) (sym (drop_all (length es) es (omega arith)))

  -- what is required of an argument of orelse, before all other lines
  pub record CanChoose (d : ℕ) (e : Expression) (rest : List SourceLine) : Type 0 where
    pub own : AreWritable (lines_at site d ints e by_itself)
    pub failing : IsNear (failure site.mode (length rest + 2))
    pub jump : length rest ≤ most_counted

  choice-first : (d : ℕ) (e : Expression) (rest : List SourceLine) → AreWritable (or_lines site.mode d ints (lines_at site d ints e by_itself) rest) → CanChoose d e rest
  choice-first d e rest w =
      let behind = writable-right (lines_at site d ints e by_itself) _ w in
      record { own = writable-left _ (plain (op.Bool (failure site.mode (length rest + 2))) ∷ plain (op.Branch (Ahead 2)) ∷ plain (op.Const (boolean true)) ∷ before_label (op.Jump (Ahead (length rest))) d ints ∷ rest) w; failing = behind.0; jump = behind.1.1.1.0 }

  choices-drop : (es : List Expression) (d i : ℕ) → i ≤ length es → AreWritable (choice_lines site d ints (expressions_of es)) → AreWritable (choice_lines site d ints (expressions_of (drop i es)))
  choices-drop es d zero h w = w
  choices-drop [] d (suc i) h w = absurd (omega arith)
  choices-drop (e ∷ es) d (suc i) h w = choices-drop es d i (omega arith) (writable-right (lines_at site d ints e by_itself) _ w).1.1.1.1

  pub choices-at : (es : List Expression) (d i : ℕ) (e : Expression) → i < length es → e ≡ get_or es i e → AreWritable (choice_lines site d ints (expressions_of es)) → CanChoose d e (choice_lines site d ints (expressions_of (drop (i + 1) es)))
  choices-at es d i e h is w =
      choice-first d e _ (subst (λ l. AreWritable (choice_lines site d ints (expressions_of l))) (split_at es i e h is) (choices-drop es d i (omega arith) w))

  pub choices-step : (es : List Expression) (d i : ℕ) (e : Expression) (old : List SourceLine) → i < length es → e ≡ get_or es i e
      → or_lines site.mode d ints (lines_at site d ints e by_itself) (choice_lines site d ints (expressions_of (drop (i + 1) es))) ++ old ≡ choice_lines site d ints (expressions_of (drop i es)) ++ old
  choices-step es d i e old h is = ap (λ l. choice_lines site d ints (expressions_of l) ++ old) (sym (split_at es i e h is))

  pub choices-none : (es : List Expression) (d : ℕ) (old : List SourceLine) → none_true_lines site.mode d ints ++ old ≡ choice_lines site d ints (expressions_of (drop (length es) es)) ++ old
  choices-none es d old = ap (λ l. choice_lines site d ints (expressions_of l) ++ old) (sym (drop_all (length es) es (omega arith)))

  tail-same : (t : Expression) → IsNoListExpression t → (d : ℕ) → lines_at site d ints t as_tail ≡ lines_at site d ints t by_itself
  tail-same (bound n) h d = refl
  tail-same object h d = refl
  tail-same bindings h d = refl
  tail-same (constant c) h d = refl
  tail-same (quoted c) h d = refl
  tail-same (call (prim.Function f) es) h d = refl
  tail-same (call (prim.Arithmetic f) no_expressions) h d = refl
  tail-same (call (prim.Arithmetic f) (expression e no_expressions)) h d = refl
  tail-same (call (prim.Arithmetic f) (expression e (expression e' no_expressions))) h d = refl
  tail-same (call (prim.Arithmetic f) (expression e (expression e' (expression x es)))) h d = refl
  tail-same (and_also es) h d = refl
  tail-same (or_else es) h d = refl
  tail-same (new_tuple es) h d = refl
  tail-same (new_cell e f) h d = absurd h
  tail-same (new_map ms) h d = refl

  option-same : {A : Type 0} (tail : Option (Box Expression A)) → IsTailExpression tail → (d : ℕ) → lines_at site d ints (tail_expression tail) as_tail ≡ lines_at site d ints (tail_expression tail) by_itself
  option-same None h d = refl
  option-same (Some b) h d = tail-same b.value h d

  no-cells : (t : Expression) → IsNoListExpression t → cell_count t ≡ 0
  no-cells (bound n) h = refl
  no-cells object h = refl
  no-cells bindings h = refl
  no-cells (constant c) h = refl
  no-cells (quoted c) h = refl
  no-cells (call f es) h = refl
  no-cells (and_also es) h = refl
  no-cells (or_else es) h = refl
  no-cells (new_tuple es) h = refl
  no-cells (new_cell e f) h = absurd h
  no-cells (new_map ms) h = refl

  option-cells : {A : Type 0} (tail : Option (Box Expression A)) → IsTailExpression tail → cell_count (tail_expression tail) ≡ 0
  option-cells None h = refl
  option-cells (Some b) h = no-cells b.value h

  cells-count : (es : List Expression) (t : Expression) → cell_count t ≡ 0 → cell_count (new_cells es t) ≡ length es
  cells-count [] t h = h
  cells-count (e ∷ es) t h = ap suc (cells-count es t h)

  cells-tail : (es : List Expression) (t : Expression) (d : ℕ) → ((k : ℕ) → lines_at site k ints t as_tail ≡ lines_at site k ints t by_itself)
      → lines_at site d ints (new_cells es t) as_tail ≡ argument_lines site d ints (expressions_of es) ++ lines_at site (d + length es) ints t by_itself
  cells-tail [] t d same =
      let q : d ≡ d + 0 = omega arith in
      same d ∙ ap (λ k. lines_at site k ints t by_itself) q
  cells-tail (e ∷ es) t d same =
      let q : suc d + length es ≡ d + suc (length es) = omega arith in
      let own = lines_at site d ints e by_itself in
      let rest = argument_lines site (suc d) ints (expressions_of es) in
      ap (λ l. own ++ l) (cells-tail es t (suc d) same ∙ ap (λ k. rest ++ lines_at site k ints t by_itself) q)
      ∙ sym (append_assoc own rest (lines_at site (d + suc (length es)) ints t by_itself))

  -- a list's lines are those of its elements, its tail and its cells
  pub list-parts : {A : Type 0} (es : List Expression) (tail : Option (Box Expression A)) (d : ℕ) → 0 < length es → IsTailExpression tail
      → lines_at site d ints (new_cells es (tail_expression tail)) by_itself ≡ (argument_lines site d ints (expressions_of es) ++ lines_at site (d + length es) ints (tail_expression tail) by_itself) ++ (cell_lines site.mode (length es) ++ exit_lines site.mode d ints)
  list-parts [] tail d some h = absurd (omega arith)
  list-parts (e ∷ es) tail d some h =
      ap (λ l. l ++ (cell_lines site.mode (suc (cell_count (new_cells es (tail_expression tail)))) ++ exit_lines site.mode d ints)) (cells-tail (e ∷ es) (tail_expression tail) d (option-same tail h))
      ∙ ap (λ n. (argument_lines site d ints (expressions_of (e ∷ es)) ++ lines_at site (d + length (e ∷ es)) ints (tail_expression tail) by_itself) ++ (cell_lines site.mode n ++ exit_lines site.mode d ints)) (cells-count (e ∷ es) (tail_expression tail) (option-cells tail h))
