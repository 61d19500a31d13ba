-- What the lines of each kind of expression require, and of what they consist.
use Rattle.std.proofs.Common.{◌≡◌, ℕ, suc, ◌+◌, ◌-◌, ◌<◌, ◌≤◌, ◌≢◌, true, Option, Box, List, [], ◌∷◌, ◌++◌, length, get_or, drop, refl, sym, ◌∙◌, ap, subst, arith, length-append}
use Rattle.std.proofs.lemmas.List.{append_assoc, get_or_default}
use Rattle.term_operand.specs.Operand.{boolean}
use Rattle.term_core.specs.Datum.{Datum, cells}
use Rattle.term_core.specs.Datum.Datum.{nil}
use Rattle.term_core.specs.Limits.{IsTerm}
use Rattle.mcode.specs.declared.kind.Kind.{Kind}
use Rattle.mcode.specs.declared.kind.Kind.TheVariants as kind
use Rattle.prims_table.specs.declared.prim.Arithmetic.{Arithmetic}
use Rattle.prims_table.specs.declared.prim.Function.{Function}
use Rattle.prims_table.specs.declared.prim.Primitive.TheVariants as prim
use Rattle.mspec_syntax.specs.Expression.{Expression, expressions_of, assignments_of, assignment_keys, new_cells, expression_count, expression_size, expressions_size, assignments_size}
use Rattle.mspec_syntax.specs.Expression.Expression.{object, call, and_also, or_else, new_tuple, new_map}
use Rattle.mspec_syntax.specs.Expression.Expressions.{no_expressions, expression}
use Rattle.mspec_syntax.specs.ExpressionView.{tail_expression, IsTailExpression}
use Rattle.mspec_syntax.specs.Mode.Position.{by_itself}
use Rattle.compiler_assembly.specs.Line.{SourceLine, plain, before_label}
use Rattle.compiler_assembly.specs.declared.op.Op.TheVariants as op
use Rattle.compiler_assembly.specs.declared.op.Target.{Target}
use Rattle.compiler_assembly.specs.declared.op.Target.TheVariants.{Ahead}
use Rattle.compiler_expressions.specs.Expressions.{Site, failure, exit_lines, cell_lines, lines_at, argument_lines, value_lines, test_lines, choice_lines, all_true_lines, arithmetic_lines}
use Rattle.compiler_expressions.specs.Writable.{IsNear, AreWritable, CanBeWritten, most_counted}
use Rattle.mspec_syntax.proofs.ExpressionSizes.{size-at, assignments-at, count-length, length-size, new_cells-size, size-some}
use Rattle.compiler_expressions.proofs.LineLemmas.{writable-left, writable-right, arguments-at, values-at, CanTest, tests-at, tests-step, CanChoose, choices-at, choices-step, list-parts, length-before}

-- lines followed by a line and an exit
behind-exit : (a : List SourceLine) (l : SourceLine) (exit old ls : List SourceLine) → ls ≡ exit ++ old → a ++ l ∷ ls ≡ (a ++ l ∷ exit) ++ old
behind-exit a l exit old ls h = ap (λ x. a ++ l ∷ x) h ∙ sym (append_assoc a (l ∷ exit) old)

longer : (a b ls : List SourceLine) → ls ≡ a ++ b → length b ≤ length ls
longer a b ls h = omega (arith, ap length h, length-append a b)

pub two : (es : List Expression) (a b : Expression) → length es ≡ 2 → a ≡ get_or es 0 a → b ≡ get_or es 1 b → expressions_of es ≡ expression a (expression b no_expressions)
two [] a b h p q = absurd (omega arith)
two (x ∷ []) a b h p q = absurd (omega arith)
two (x ∷ y ∷ []) a b h p q = ap (λ e. expression e (expression y no_expressions)) (sym p) ∙ ap (λ e. expression a (expression e no_expressions)) (sym q)
two (x ∷ y ∷ z ∷ es) a b h p q = absurd (omega arith)

module _ {site : Site} {d : ℕ} {ints : List (ℕ × Kind)} where
  -- an expression that is equal to its parts put together can be written if these can
  pub written-of : {e e' : Expression} → e' ≡ e → CanBeWritten site d ints e → CanBeWritten site d ints e'
  written-of same can = subst (CanBeWritten site d ints) (sym same) can

  pub lines-of : {e e' : Expression} {new : List SourceLine} (old : List SourceLine) → e' ≡ e → CanBeWritten site d ints e → new ≡ lines_at site d ints e' by_itself ++ old → new ≡ lines_at site d ints e by_itself ++ old
  lines-of old same can h = h ∙ ap (λ x. lines_at site d ints x by_itself ++ old) same

module _ (site : Site) (d : ℕ) (ints : List (ℕ × Kind)) where
  -- an argument is smaller than the expression, and can be written if all arguments can
  pub argument-written : (es : List Expression) (i : ℕ) {e : Expression} → e ≡ get_or es i e → i < length es → d + expressions_size (expressions_of es) ≤ most_counted → AreWritable (argument_lines site d ints (expressions_of es)) → (expression_size e < expressions_size (expressions_of es)) × CanBeWritten site (d + i) ints e
  argument-written es i {e} is h room w =
      (omega (arith, size-at es i e h is), record { room = omega (arith, size-at es i e h is); lines = arguments-at site ints es d i e h is w })

  pub value-written : (ms : List (Datum × Expression)) (i : ℕ) {m : Datum × Expression} → m ≡ get_or ms i m → i < length ms → d + assignments_size (assignments_of ms) ≤ most_counted → AreWritable (value_lines site d ints (assignments_of ms)) → (expression_size m.1 < assignments_size (assignments_of ms)) × CanBeWritten site (d + i) ints m.1
  value-written ms i {m} is h room w =
      (omega (arith, assignments-at ms i m h is), record { room = omega (arith, assignments-at ms i m h is); lines = values-at site ints ms d i m h is w })

  -- tuples and functions
  pub tuple-arguments : (es : List Expression) → CanBeWritten site d ints (new_tuple (expressions_of es)) → AreWritable (argument_lines site d ints (expressions_of es))
  tuple-arguments es can = writable-left _ (plain (op.MakeTuple (expression_count (expressions_of es)) (failure site.mode 1)) ∷ exit_lines site.mode d ints) can.lines

  pub tuple-lines : (es : List Expression) {count : ℕ} {target : Target} {ls ls' new : List SourceLine} (old : List SourceLine) → CanBeWritten site d ints (new_tuple (expressions_of es)) → count ≡ length es → target ≡ failure site.mode 1 → ls ≡ exit_lines site.mode d ints ++ old → ls' ≡ plain (op.MakeTuple count target) ∷ ls → new ≡ argument_lines site d ints (expressions_of es) ++ ls'
      → new ≡ lines_at site d ints (new_tuple (expressions_of es)) by_itself ++ old
  tuple-lines es {count} {target} {ls} old can n t e e' is =
      let own = argument_lines site d ints (expressions_of es) in
      is ∙ ap (λ l. own ++ l) (e' ∙ ap (λ k. plain (op.MakeTuple k target) ∷ ls) (n ∙ sym (count-length es)) ∙ ap (λ x. plain (op.MakeTuple (expression_count (expressions_of es)) x) ∷ ls) t)
      ∙ behind-exit own _ (exit_lines site.mode d ints) old ls e

  pub function-arguments : (f : Function) (es : List Expression) → CanBeWritten site d ints (call (prim.Function f) (expressions_of es)) → AreWritable (argument_lines site d ints (expressions_of es))
  function-arguments f es can = writable-left _ (plain (op.Call f (expression_count (expressions_of es)) (failure site.mode 1)) ∷ exit_lines site.mode d ints) can.lines

  pub function-lines : (f : Function) (es : List Expression) {count : ℕ} {target : Target} {ls ls' new : List SourceLine} (old : List SourceLine) → CanBeWritten site d ints (call (prim.Function f) (expressions_of es)) → count ≡ length es → target ≡ failure site.mode 1 → ls ≡ exit_lines site.mode d ints ++ old → ls' ≡ plain (op.Call f count target) ∷ ls → new ≡ argument_lines site d ints (expressions_of es) ++ ls'
      → new ≡ lines_at site d ints (call (prim.Function f) (expressions_of es)) by_itself ++ old
  function-lines f es {count} {target} {ls} old can n t e e' is =
      let own = argument_lines site d ints (expressions_of es) in
      is ∙ ap (λ l. own ++ l) (e' ∙ ap (λ k. plain (op.Call f k target) ∷ ls) (n ∙ sym (count-length es)) ∙ ap (λ x. plain (op.Call f (expression_count (expressions_of es)) x) ∷ ls) t)
      ∙ behind-exit own _ (exit_lines site.mode d ints) old ls e

  -- maps
  pub map-values : (ms : List (Datum × Expression)) → CanBeWritten site d ints (new_map (assignments_of ms)) → AreWritable (value_lines site d ints (assignments_of ms))
  map-values ms can = writable-left _ (plain (op.MakeMap (cells (assignment_keys (assignments_of ms)) nil) (failure site.mode 1)) ∷ exit_lines site.mode d ints) can.lines

  pub map-keys : (ms : List (Datum × Expression)) → CanBeWritten site d ints (new_map (assignments_of ms)) → IsTerm (cells (assignment_keys (assignments_of ms)) nil)
  map-keys ms can = (writable-right (value_lines site d ints (assignments_of ms)) (plain (op.MakeMap (cells (assignment_keys (assignments_of ms)) nil) (failure site.mode 1)) ∷ exit_lines site.mode d ints) can.lines).0.0

  pub map-lines : (ms : List (Datum × Expression)) {keys : Datum} {target : Target} {ls ls' new : List SourceLine} (old : List SourceLine) → CanBeWritten site d ints (new_map (assignments_of ms)) → keys ≡ cells (assignment_keys (assignments_of ms)) nil → target ≡ failure site.mode 1 → ls ≡ exit_lines site.mode d ints ++ old → ls' ≡ plain (op.MakeMap keys target) ∷ ls → new ≡ value_lines site d ints (assignments_of ms) ++ ls'
      → new ≡ lines_at site d ints (new_map (assignments_of ms)) by_itself ++ old
  map-lines ms {keys} {target} {ls} old can n t e e' is =
      let own = value_lines site d ints (assignments_of ms) in
      is ∙ ap (λ l. own ++ l) (e' ∙ ap (λ k. plain (op.MakeMap k target) ∷ ls) n ∙ ap (λ x. plain (op.MakeMap (cells (assignment_keys (assignments_of ms)) nil) x) ∷ ls) t)
      ∙ behind-exit own _ (exit_lines site.mode d ints) old ls e

  -- andalso
  pub test-needs : (es : List Expression) (i : ℕ) (e : Expression) → i < length es → e ≡ get_or es i e → CanBeWritten site d ints (and_also (expressions_of es)) → CanTest site ints d e (test_lines site d ints (expressions_of (drop (i + 1) es)))
  test-needs es i e h is can = tests-at site ints es d i e h is (writable-left _ (all_true_lines site.mode d ints) can.lines)

  pub test-written : (es : List Expression) (i : ℕ) {e : Expression} → CanBeWritten site d ints (and_also (expressions_of es)) → e ≡ get_or es i e → i < length es → (expression_size e < expressions_size (expressions_of es)) × CanBeWritten site d ints e
  test-written es i {e} can is h =
      (omega (arith, size-at es i e h is), record { room = omega (arith, size-at es i e h is, can.room); lines = (test-needs es i e h is can).own })

  pub tests-longer : (es : List Expression) (j : ℕ) {ls : List SourceLine} (mid : List SourceLine) → CanBeWritten site d ints (and_also (expressions_of es)) → ls ≡ test_lines site d ints (expressions_of (drop j es)) ++ mid → length mid ≤ length ls
  tests-longer es j {ls} mid can = longer (test_lines site d ints (expressions_of (drop j es))) mid ls

  -- the distances at an argument of andalso
  pub test-near : (es : List Expression) (j : ℕ) {ls : List SourceLine} {len end : ℕ} (mid : List SourceLine) → CanBeWritten site d ints (and_also (expressions_of es)) → 0 < j → j ≤ length es → ls ≡ test_lines site d ints (expressions_of (drop j es)) ++ mid → len ≡ length ls → end ≡ length mid → IsNear (failure site.mode (len - end + 5)) × (len - end + 2 ≤ most_counted)
  test-near es j {ls} {len} {end} mid can some within so l m =
      let i = j - 1 in
      let next : j ≡ i + 1 = omega arith in
      let h : i < length es = omega arith in
      let e = get_or es i object in
      let needs = test-needs es i e h (get_or_default es i object e h) can in
      let rest = test_lines site d ints (expressions_of (drop (i + 1) es)) in
      let q : length rest ≡ len - end = omega (arith, length-before rest mid ls (so ∙ ap (λ k. test_lines site d ints (expressions_of (drop k es)) ++ mid) next)) in
      let P : ℕ → Type 0 = λ n. IsNear (failure site.mode (n + 5)) in
      (subst P q needs.failing, omega (arith, needs.branch))

  pub and-step : (es : List Expression) (i j : ℕ) {e : Expression} {ls ls' new : List SourceLine} {len end : ℕ} (mid : List SourceLine) → CanBeWritten site d ints (and_also (expressions_of es)) → e ≡ get_or es i e → j ≡ i + 1 → i < length es → ls ≡ test_lines site d ints (expressions_of (drop j es)) ++ mid → len ≡ length ls → end ≡ length mid
      → ls' ≡ plain (op.Bool (failure site.mode (len - end + 5))) ∷ plain (op.Branch (Ahead (len - end + 2))) ∷ ls → new ≡ lines_at site d ints e by_itself ++ ls' → new ≡ test_lines site d ints (expressions_of (drop i es)) ++ mid
  and-step es i j {e} {ls} {ls'} {new} {len} {end} mid can is next h before l m e' n =
      let so = before ∙ ap (λ k. test_lines site d ints (expressions_of (drop k es)) ++ mid) next in
      let rest = test_lines site d ints (expressions_of (drop (i + 1) es)) in
      let own = lines_at site d ints e by_itself in
      let q : len - end ≡ length rest = omega (arith, length-before rest mid ls so) in
      n ∙ ap (λ x. own ++ x) (e' ∙ ap (λ k. plain (op.Bool (failure site.mode (k + 5))) ∷ plain (op.Branch (Ahead (k + 2))) ∷ ls) q ∙ ap (λ x. plain (op.Bool (failure site.mode (length rest + 5))) ∷ plain (op.Branch (Ahead (length rest + 2))) ∷ x) so)
      ∙ sym (append_assoc own (plain (op.Bool (failure site.mode (length rest + 5))) ∷ plain (op.Branch (Ahead (length rest + 2))) ∷ rest) mid)
      ∙ tests-step site ints es d i e mid h is

  pub and-lines : (es : List Expression) (i : ℕ) {mid ls : List SourceLine} (old : List SourceLine) → CanBeWritten site d ints (and_also (expressions_of es)) → i ≡ 0 → mid ≡ all_true_lines site.mode d ints ++ old → ls ≡ test_lines site d ints (expressions_of (drop i es)) ++ mid → ls ≡ lines_at site d ints (and_also (expressions_of es)) by_itself ++ old
  and-lines es i {mid} old can z m h =
      let tests = test_lines site d ints (expressions_of es) in
      h ∙ ap (λ j. test_lines site d ints (expressions_of (drop j es)) ++ mid) z ∙ ap (λ x. tests ++ x) m
      ∙ sym (append_assoc tests (all_true_lines site.mode d ints) old)

  -- orelse
  pub choice-needs : (es : List Expression) (i : ℕ) (e : Expression) → i < length es → e ≡ get_or es i e → CanBeWritten site d ints (or_else (expressions_of es)) → CanChoose site ints d e (choice_lines site d ints (expressions_of (drop (i + 1) es)))
  choice-needs es i e h is can = choices-at site ints es d i e h is can.lines

  pub choice-written : (es : List Expression) (i : ℕ) {e : Expression} → CanBeWritten site d ints (or_else (expressions_of es)) → e ≡ get_or es i e → i < length es → (expression_size e < expressions_size (expressions_of es)) × CanBeWritten site d ints e
  choice-written es i {e} can is h =
      (omega (arith, size-at es i e h is), record { room = omega (arith, size-at es i e h is, can.room); lines = (choice-needs es i e h is can).own })

  pub choices-longer : (es : List Expression) (j : ℕ) {ls : List SourceLine} (mid : List SourceLine) → CanBeWritten site d ints (or_else (expressions_of es)) → ls ≡ choice_lines site d ints (expressions_of (drop j es)) ++ mid → length mid ≤ length ls
  choices-longer es j {ls} mid can = longer (choice_lines site d ints (expressions_of (drop j es))) mid ls

  pub choice-near : (es : List Expression) (j : ℕ) {ls : List SourceLine} {len end : ℕ} (mid : List SourceLine) → CanBeWritten site d ints (or_else (expressions_of es)) → 0 < j → j ≤ length es → ls ≡ choice_lines site d ints (expressions_of (drop j es)) ++ mid → len ≡ length ls → end ≡ length mid → IsNear (failure site.mode (len - end + 2)) × (len - end ≤ most_counted)
  choice-near es j {ls} {len} {end} mid can some within so l m =
      let i = j - 1 in
      let next : j ≡ i + 1 = omega arith in
      let h : i < length es = omega arith in
      let e = get_or es i object in
      let needs = choice-needs es i e h (get_or_default es i object e h) can in
      let rest = choice_lines site d ints (expressions_of (drop (i + 1) es)) in
      let q : length rest ≡ len - end = omega (arith, length-before rest mid ls (so ∙ ap (λ k. choice_lines site d ints (expressions_of (drop k es)) ++ mid) next)) in
      let P : ℕ → Type 0 = λ n. IsNear (failure site.mode (n + 2)) in
      (subst P q needs.failing, omega (arith, needs.jump))

  pub or-step : (es : List Expression) (i j : ℕ) {e : Expression} {ls ls' new : List SourceLine} {len end : ℕ} (mid : List SourceLine) → CanBeWritten site d ints (or_else (expressions_of es)) → e ≡ get_or es i e → j ≡ i + 1 → i < length es → ls ≡ choice_lines site d ints (expressions_of (drop j es)) ++ mid → len ≡ length ls → end ≡ length mid
      → ls' ≡ plain (op.Bool (failure site.mode (len - end + 2))) ∷ plain (op.Branch (Ahead 2)) ∷ plain (op.Const (boolean true)) ∷ before_label (op.Jump (Ahead (len - end))) d ints ∷ ls → new ≡ lines_at site d ints e by_itself ++ ls' → new ≡ choice_lines site d ints (expressions_of (drop i es)) ++ mid
  or-step es i j {e} {ls} {ls'} {new} {len} {end} mid can is next h before l m e' n =
      let so = before ∙ ap (λ k. choice_lines site d ints (expressions_of (drop k es)) ++ mid) next in
      let rest = choice_lines site d ints (expressions_of (drop (i + 1) es)) in
      let own = lines_at site d ints e by_itself in
      let q : len - end ≡ length rest = omega (arith, length-before rest mid ls so) in
      let P : ℕ → List SourceLine → List SourceLine = λ k x. plain (op.Bool (failure site.mode (k + 2))) ∷ plain (op.Branch (Ahead 2)) ∷ plain (op.Const (boolean true)) ∷ before_label (op.Jump (Ahead k)) d ints ∷ x in
      n ∙ ap (λ x. own ++ x) (e' ∙ ap (λ k. P k ls) q ∙ ap (P (length rest)) so)
      ∙ sym (append_assoc own (P (length rest) rest) mid)
      ∙ choices-step site ints es d i e mid h is

  pub or-lines : (es : List Expression) (i : ℕ) {ls : List SourceLine} (old : List SourceLine) → CanBeWritten site d ints (or_else (expressions_of es)) → i ≡ 0 → ls ≡ choice_lines site d ints (expressions_of (drop i es)) ++ old → ls ≡ lines_at site d ints (or_else (expressions_of es)) by_itself ++ old
  or-lines es i old can z h = h ∙ ap (λ j. choice_lines site d ints (expressions_of (drop j es)) ++ old) z

  -- lists
  pub list-depth : (es : List Expression) (t : Expression) → CanBeWritten site d ints (new_cells es t) → d + length es < most_counted
  list-depth es t can = omega (arith, can.room, new_cells-size es t, length-size es, size-some t)

  pub list-room : (es : List Expression) (t : Expression) → CanBeWritten site d ints (new_cells es t) → d + expressions_size (expressions_of es) ≤ most_counted
  list-room es t can = omega (arith, can.room, new_cells-size es t)

  module _ {A : Type 0} (es : List Expression) (tail : Option (Box Expression A)) (some : 0 < length es) (kept : IsTailExpression tail) where
    list-writable : CanBeWritten site d ints (new_cells es (tail_expression tail)) → AreWritable ((argument_lines site d ints (expressions_of es) ++ lines_at site (d + length es) ints (tail_expression tail) by_itself) ++ (cell_lines site.mode (length es) ++ exit_lines site.mode d ints))
    list-writable can = subst AreWritable (list-parts site ints es tail d some kept) can.lines

    pub list-cells : CanBeWritten site d ints (new_cells es (tail_expression tail)) → AreWritable (cell_lines site.mode (length es))
    list-cells can =
        writable-left (cell_lines site.mode (length es)) (exit_lines site.mode d ints)
        (writable-right (argument_lines site d ints (expressions_of es) ++ lines_at site (d + length es) ints (tail_expression tail) by_itself) _ (list-writable can))

    list-elements : CanBeWritten site d ints (new_cells es (tail_expression tail)) → AreWritable (argument_lines site d ints (expressions_of es) ++ lines_at site (d + length es) ints (tail_expression tail) by_itself)
    list-elements can = writable-left _ (cell_lines site.mode (length es) ++ exit_lines site.mode d ints) (list-writable can)

    pub list-arguments : CanBeWritten site d ints (new_cells es (tail_expression tail)) → AreWritable (argument_lines site d ints (expressions_of es))
    list-arguments can = writable-left _ (lines_at site (d + length es) ints (tail_expression tail) by_itself) (list-elements can)

    pub list-tail : CanBeWritten site d ints (new_cells es (tail_expression tail)) → CanBeWritten site (d + length es) ints (tail_expression tail)
    list-tail can =
        record {
          room = omega (arith, can.room, new_cells-size es (tail_expression tail), length-size es);
          lines = writable-right (argument_lines site d ints (expressions_of es)) _ (list-elements can);
        }

    pub list-lines : {ls ls' ls'' new : List SourceLine} (old : List SourceLine) → CanBeWritten site d ints (new_cells es (tail_expression tail)) → ls ≡ exit_lines site.mode d ints ++ old → ls' ≡ cell_lines site.mode (length es) ++ ls → ls'' ≡ lines_at site (d + length es) ints (tail_expression tail) by_itself ++ ls' → new ≡ argument_lines site d ints (expressions_of es) ++ ls''
        → new ≡ lines_at site d ints (new_cells es (tail_expression tail)) by_itself ++ old
    list-lines old can e e' e'' is =
        let own = argument_lines site d ints (expressions_of es) in
        let last = lines_at site (d + length es) ints (tail_expression tail) by_itself in
        let made = cell_lines site.mode (length es) in
        let exit = exit_lines site.mode d ints in
        is ∙ ap (λ x. own ++ x) (e'' ∙ ap (λ x. last ++ x) (e' ∙ ap (λ x. made ++ x) e ∙ sym (append_assoc made exit old)))
        ∙ sym (append_assoc own last ((made ++ exit) ++ old))
        ∙ sym (append_assoc (own ++ last) (made ++ exit) old)
        ∙ ap (λ x. x ++ old) (sym (list-parts site ints es tail d some kept))

  -- functions of two integers
  pub record CanCompute (a b : Expression) : Type 0 where
    pub first : CanBeWritten site d ints a
    pub second : CanBeWritten site (suc d) (ints ++ (d, kind.Int) ∷ []) b
    pub near : IsNear (failure site.mode (length (lines_at site (suc d) (ints ++ (d, kind.Int) ∷ []) b by_itself) + 3))

  computes : (f : Arithmetic) (a b : Expression) → CanBeWritten site d ints (call (prim.Arithmetic f) (expression a (expression b no_expressions))) → CanCompute a b
  computes f a b can =
      let first = lines_at site d ints a by_itself in
      let second = lines_at site (suc d) (ints ++ (d, kind.Int) ∷ []) b by_itself in
      let end = plain (op.Int (failure site.mode 2)) ∷ plain (op.Arith f (failure site.mode 1)) ∷ [] in
      let all = writable-left (arithmetic_lines site.mode f first second) (exit_lines site.mode d ints) can.lines in
      let behind = writable-right first (plain (op.Int (failure site.mode (length second + 3))) ∷ (second ++ end)) all in
      record {
        first = record { room = omega (arith, can.room); lines = writable-left first (plain (op.Int (failure site.mode (length second + 3))) ∷ (second ++ end)) all };
        second = record { room = omega (arith, can.room); lines = writable-left second end behind.1 };
        near = behind.0;
      }

  pub arithmetic-needs : (f : Arithmetic) (es : List Expression) (a b : Expression) → length es ≡ 2 → a ≡ get_or es 0 a → b ≡ get_or es 1 b → CanBeWritten site d ints (call (prim.Arithmetic f) (expressions_of es)) → CanCompute a b
  arithmetic-needs f es a b h p q can =
      computes f a b (subst (λ x. CanBeWritten site d ints (call (prim.Arithmetic f) x)) (two es a b h p q) can)

  -- what the second argument requires, whatever the first is
  pub second-needs : (f : Arithmetic) (es : List Expression) {b : Expression} → length es ≡ 2 → b ≡ get_or es 1 b → CanBeWritten site d ints (call (prim.Arithmetic f) (expressions_of es)) → CanCompute (get_or es 0 object) b
  second-needs f es {b} h q can =
      let a = get_or es 0 object in
      arithmetic-needs f es a b h (get_or_default es 0 object a (omega arith)) q can

  pub second-longer : {a b : Expression} {ls : List SourceLine} (mid : List SourceLine) → CanCompute a b → ls ≡ lines_at site (suc d) (ints ++ (d, kind.Int) ∷ []) b by_itself ++ mid → length mid ≤ length ls
  second-longer {a} {b} {ls} mid can = longer (lines_at site (suc d) (ints ++ (d, kind.Int) ∷ []) b by_itself) mid ls

  pub second-near : {a b : Expression} {ls : List SourceLine} {len end : ℕ} (mid : List SourceLine) → CanCompute a b → ls ≡ lines_at site (suc d) (ints ++ (d, kind.Int) ∷ []) b by_itself ++ mid → len ≡ length ls → end ≡ length mid → IsNear (failure site.mode (len - end + 3))
  second-near {a} {b} {ls} {len} {end} mid can so l m =
      let own = lines_at site (suc d) (ints ++ (d, kind.Int) ∷ []) b by_itself in
      let q : length own ≡ len - end = omega (arith, length-before own mid ls so) in
      let P : ℕ → Type 0 = λ n. IsNear (failure site.mode (n + 3)) in
      subst P q can.near

  pub arithmetic-lines : (f : Arithmetic) (es : List Expression) {a b : Expression} {target : Target} {ls ls' ls'' ls''' new : List SourceLine} {len end : ℕ} (old : List SourceLine) → CanBeWritten site d ints (call (prim.Arithmetic f) (expressions_of es)) → length es ≡ 2 → a ≡ get_or es 0 a → b ≡ get_or es 1 b → len ≡ length ls'' → end ≡ length ls' → target ≡ failure site.mode (len - end + 3)
      → ls ≡ exit_lines site.mode d ints ++ old → ls' ≡ plain (op.Int (failure site.mode 2)) ∷ plain (op.Arith f (failure site.mode 1)) ∷ ls → ls'' ≡ lines_at site (suc d) (ints ++ (d, kind.Int) ∷ []) b by_itself ++ ls' → ls''' ≡ plain (op.Int target) ∷ ls'' → new ≡ lines_at site d ints a by_itself ++ ls'''
      → new ≡ lines_at site d ints (call (prim.Arithmetic f) (expressions_of es)) by_itself ++ old
  arithmetic-lines f es {a} {b} {target} {ls} {ls'} {ls''} {ls'''} {new} {len} {end} old can h p q l m t e e' e'' e''' is =
      let first = lines_at site d ints a by_itself in
      let second = lines_at site (suc d) (ints ++ (d, kind.Int) ∷ []) b by_itself in
      let last = plain (op.Int (failure site.mode 2)) ∷ plain (op.Arith f (failure site.mode 1)) ∷ [] in
      let exit = exit_lines site.mode d ints in
      let n : len - end ≡ length second = omega (arith, length-before second ls' ls'' e'') in
      let test = plain (op.Int (failure site.mode (length second + 3))) in
      is ∙ ap (λ x. first ++ x)
      (e''' ∙ ap (λ x. plain (op.Int x) ∷ ls'') (t ∙ ap (λ k. failure site.mode (k + 3)) n)
      ∙ ap (λ x. test ∷ x) (e'' ∙ ap (λ x. second ++ x) (e' ∙ ap (λ x. last ++ x) e) ∙ sym (append_assoc second last (exit ++ old)) ∙ sym (append_assoc (second ++ last) exit old)))
      ∙ sym (append_assoc first (test ∷ ((second ++ last) ++ exit)) old)
      ∙ ap (λ x. x ++ old) (sym (append_assoc first (test ∷ (second ++ last)) exit))
      ∙ ap (λ x. lines_at site d ints (call (prim.Arithmetic f) x) by_itself ++ old) (sym (two es a b h p q))

  -- a call with other than two arguments has no lines
  pub arithmetic-none : (f : Arithmetic) (es : List Expression) (old : List SourceLine) → length es ≢ 2 → old ≡ lines_at site d ints (call (prim.Arithmetic f) (expressions_of es)) by_itself ++ old
  arithmetic-none f [] old h = refl
  arithmetic-none f (a ∷ []) old h = refl
  arithmetic-none f (a ∷ b ∷ []) old h = absurd (h refl)
  arithmetic-none f (a ∷ b ∷ c ∷ es) old h = refl

  -- the second argument is above an integer
  pub second-written : {l : List (ℕ × Kind)} {e : Expression} → l ≡ ints ++ (d, kind.Int) ∷ [] → CanBeWritten site (suc d) (ints ++ (d, kind.Int) ∷ []) e → CanBeWritten site (d + 1) l e
  second-written {l} {e} is can =
      let q : suc d ≡ d + 1 = omega arith in
      subst (λ k. CanBeWritten site k l e) q (subst (λ x. CanBeWritten site (suc d) x e) (sym is) can)

  pub second-lines : {l : List (ℕ × Kind)} {e : Expression} {new : List SourceLine} (old : List SourceLine) → l ≡ ints ++ (d, kind.Int) ∷ [] → CanBeWritten site (suc d) (ints ++ (d, kind.Int) ∷ []) e → new ≡ lines_at site (d + 1) l e by_itself ++ old → new ≡ lines_at site (suc d) (ints ++ (d, kind.Int) ∷ []) e by_itself ++ old
  second-lines {l} {e} {new} old is can h =
      let q : d + 1 ≡ suc d = omega arith in
      h ∙ ap (λ k. lines_at site k l e by_itself ++ old) q ∙ ap (λ x. lines_at site (suc d) x e by_itself ++ old) is
