-- How many lines an expression has, and how large it is, in terms of its nodes.
use Rattle.std.proofs.Common.{◌≡◌, true, ℕ, zero, suc, ◌+◌, ◌*◌, ◌≤◌, List, [], ◌∷◌, ◌++◌, map, length, refl, ap, arith, length-append}
use Rattle.term_operand.specs.Operand.{boolean}
use Rattle.term_core.specs.Datum.{cells}
use Rattle.term_core.specs.Datum.Datum.{nil}
use Rattle.mcode.specs.declared.kind.Kind.{Kind}
use Rattle.mcode.specs.declared.kind.Kind.TheVariants as kind
use Rattle.prims_table.specs.declared.prim.Primitive.TheVariants as prim
use Rattle.mspec_syntax.specs.Expression.{Expression, Expressions, Assignments, assignment_keys, expression_count, expression_nodes, expressions_nodes, assignments_nodes, rest_nodes, expression_size, expressions_size, assignments_size}
use Rattle.mspec_syntax.specs.Expression.Expression.{bound, object, bindings, constant, quoted, call, and_also, or_else, new_tuple, new_cell, new_map}
use Rattle.mspec_syntax.specs.Expression.Expressions.{no_expressions, expression}
use Rattle.mspec_syntax.specs.Expression.Assignments.{no_assignments, assignment}
use Rattle.mspec_syntax.specs.Mode.Position.{by_itself, as_tail}
use Rattle.mspec_syntax.specs.Sound.{IsSoundExpression, AreSoundExpressions, AreSoundAssignments}
use Rattle.mspec_syntax.specs.declared.mode.Mode.{Mode}
use Rattle.mspec_syntax.specs.declared.mode.Mode.TheVariants.{Condition, Body}
use Rattle.compiler_assembly.specs.Line.{plain, before_label}
use Rattle.compiler_assembly.specs.declared.op.Op.TheVariants as op
use Rattle.compiler_assembly.specs.declared.op.Target.TheVariants.{Ahead}
use Rattle.compiler_expressions.specs.Expressions.{Site, failure, exit_lines, cell_lines, cell_count, bindings_lines, lines_at, argument_lines, value_lines, test_lines, choice_lines, all_true_lines, none_true_lines}
use Rattle.compiler_expressions.proofs.LineLemmas.{get_line}

pub exit-length : (mode : Mode) (d : ℕ) (ints : List (ℕ × Kind)) → length (exit_lines mode d ints) ≤ 2
exit-length Condition d ints = omega arith
exit-length Body d ints = omega arith

all_true-length : (mode : Mode) (d : ℕ) (ints : List (ℕ × Kind)) → length (all_true_lines mode d ints) ≤ 5
all_true-length Condition d ints = omega arith
all_true-length Body d ints = omega arith

none_true-length : (mode : Mode) (d : ℕ) (ints : List (ℕ × Kind)) → length (none_true_lines mode d ints) ≤ 3
none_true-length Condition d ints = omega arith
none_true-length Body d ints = omega arith

cells-length : (mode : Mode) (n : ℕ) → length (cell_lines mode n) ≡ n
cells-length mode zero = refl
cells-length mode (suc n) = ap suc (cells-length mode n)

gets-length : (slots ns : List ℕ) → length (map (get_line slots) ns) ≡ length ns
gets-length slots [] = refl
gets-length slots (n ∷ ns) = ap suc (gets-length slots ns)

bindings-length : (site : Site) (d : ℕ) (ints : List (ℕ × Kind)) (ns : List ℕ) → length (bindings_lines site d ints ns) ≤ 2 * length ns + 3
bindings-length site d ints [] = omega arith
bindings-length site d ints (n ∷ ns) =
    omega (
      arith,
      length-append (map (get_line site.slots) (n ∷ ns)) (plain (op.Const nil) ∷ (cell_lines site.mode (length (n ∷ ns)) ++ exit_lines site.mode d ints)),
      length-append (cell_lines site.mode (length (n ∷ ns))) (exit_lines site.mode d ints),
      gets-length site.slots (n ∷ ns),
      cells-length site.mode (length (n ∷ ns)),
      exit-length site.mode d ints,
    )

module _ (vars : ℕ) where
  mutual
    -- how large an expression is, by itself and as a tail, in terms of its nodes
    pub size-nodes : (e : Expression) → (expression_size e + 1 ≤ 2 * expression_nodes vars e) × (expression_size e ≤ 2 * rest_nodes vars e + 1)
    size-nodes (bound n) = (omega arith, omega arith)
    size-nodes object = (omega arith, omega arith)
    size-nodes bindings = (omega arith, omega arith)
    size-nodes (constant d) = (omega arith, omega arith)
    size-nodes (quoted d) = (omega arith, omega arith)
    size-nodes (call f es) = let h = sizes-nodes es in (omega arith, omega arith)
    size-nodes (and_also es) = let h = sizes-nodes es in (omega arith, omega arith)
    size-nodes (or_else es) = let h = sizes-nodes es in (omega arith, omega arith)
    size-nodes (new_tuple es) = let h = sizes-nodes es in (omega arith, omega arith)
    size-nodes (new_cell e f) =
        let first = size-nodes e in
        let rest = size-nodes f in
        (omega (arith, first.0, rest.1), omega (arith, first.0, rest.1))
    size-nodes (new_map ms) = let h = values-nodes ms in (omega arith, omega arith)

    sizes-nodes : (es : Expressions) → expressions_size es ≤ 2 * expressions_nodes vars es
    sizes-nodes no_expressions = omega arith
    sizes-nodes (expression e es) = let rest = sizes-nodes es in omega (arith, (size-nodes e).0)

    values-nodes : (ms : Assignments) → assignments_size ms ≤ 2 * assignments_nodes vars ms
    values-nodes no_assignments = omega arith
    values-nodes (assignment k e ms) = let rest = values-nodes ms in omega (arith, (size-nodes e).0)

  pub count-nodes : (es : Expressions) → expression_count es ≤ expressions_nodes vars es
  count-nodes no_expressions = omega arith
  count-nodes (expression e es) = omega (arith, (size-nodes e).0, count-nodes es)

module _ (site : Site) where
  abbrev vars : ℕ
  vars = length site.bound

  mutual
    -- how many lines an expression has by itself, and as a tail with the cells that it needs
    pub lines-length : (e : Expression) (d : ℕ) (ints : List (ℕ × Kind)) → IsSoundExpression site.bound e → (length (lines_at site d ints e by_itself) + 4 ≤ 8 * expression_nodes vars e) × (length (lines_at site d ints e as_tail) + cell_count e ≤ 8 * rest_nodes vars e + 1)
    lines-length (bound n) d ints h = (omega arith, omega arith)
    lines-length object d ints h = (omega arith, omega arith)
    lines-length bindings d ints h =
        let few = bindings-length site d ints site.bound in (omega arith, omega arith)
    lines-length (constant c) d ints h = (omega arith, omega arith)
    lines-length (quoted c) d ints h = (omega arith, omega arith)
    lines-length (call (prim.Function f) es) d ints h =
        let few : length (lines_at site d ints (call (prim.Function f) es) by_itself) + 4 ≤ 8 * expression_nodes vars (call (prim.Function f) es) =
        omega (
          arith,
          arguments-length es d ints h.1,
          exit-length site.mode d ints,
          length-append (argument_lines site d ints es) (plain (op.Call f (expression_count es) (failure site.mode 1)) ∷ exit_lines site.mode d ints),
        )
        in (few, omega (arith, few))
    lines-length (call (prim.Arithmetic f) no_expressions) d ints h = (omega arith, omega arith)
    lines-length (call (prim.Arithmetic f) (expression e no_expressions)) d ints h = (omega arith, omega arith)
    lines-length (call (prim.Arithmetic f) (expression e (expression e' no_expressions))) d ints h =
        let first = lines_at site d ints e by_itself in
        let second = lines_at site (suc d) (ints ++ (d, kind.Int) ∷ []) e' by_itself in
        let end = plain (op.Int (failure site.mode 2)) ∷ plain (op.Arith f (failure site.mode 1)) ∷ [] in
        let behind = plain (op.Int (failure site.mode (length second + 3))) ∷ (second ++ end) in
        let few : length (lines_at site d ints (call (prim.Arithmetic f) (expression e (expression e' no_expressions))) by_itself) + 4 ≤ 8 * expression_nodes vars (call (prim.Arithmetic f) (expression e (expression e' no_expressions))) =
        omega (
          arith,
          (lines-length e d ints h.1.0).0,
          (lines-length e' (suc d) (ints ++ (d, kind.Int) ∷ []) h.1.1.0).0,
          exit-length site.mode d ints,
          length-append (first ++ behind) (exit_lines site.mode d ints),
          length-append first behind,
          length-append second end,
        )
        in (few, omega (arith, few))
    lines-length (call (prim.Arithmetic f) (expression e (expression e' (expression x es)))) d ints h =
        let few : length (lines_at site d ints (call (prim.Arithmetic f) (expression e (expression e' (expression x es)))) by_itself) + 4 ≤ 8 * expression_nodes vars (call (prim.Arithmetic f) (expression e (expression e' (expression x es)))) =
        omega arith
        in (few, omega (arith, few))
    lines-length (and_also es) d ints h =
        let few : length (lines_at site d ints (and_also es) by_itself) + 4 ≤ 8 * expression_nodes vars (and_also es) =
        omega (
          arith,
          h.0,
          tests-length es d ints h.1,
          all_true-length site.mode d ints,
          length-append (test_lines site d ints es) (all_true_lines site.mode d ints),
        )
        in (few, omega (arith, few))
    lines-length (or_else es) d ints h =
        let few : length (lines_at site d ints (or_else es) by_itself) + 4 ≤ 8 * expression_nodes vars (or_else es) =
        omega (arith, choices-length es d ints h.1)
        in (few, omega (arith, few))
    lines-length (new_tuple es) d ints h =
        let few : length (lines_at site d ints (new_tuple es) by_itself) + 4 ≤ 8 * expression_nodes vars (new_tuple es) =
        omega (
          arith,
          arguments-length es d ints h,
          exit-length site.mode d ints,
          length-append (argument_lines site d ints es) (plain (op.MakeTuple (expression_count es) (failure site.mode 1)) ∷ exit_lines site.mode d ints),
        )
        in (few, omega (arith, few))
    lines-length (new_cell e f) d ints h =
        let own = lines_at site d ints e by_itself in
        let rest = lines_at site (suc d) ints f as_tail in
        let first = (lines-length e d ints h.0).0 in
        let last = (lines-length f (suc d) ints h.1).1 in
        let made = cell_lines site.mode (suc (cell_count f)) in (
          omega (
            arith,
            first,
            last,
            exit-length site.mode d ints,
            cells-length site.mode (suc (cell_count f)),
            length-append (own ++ rest) (made ++ exit_lines site.mode d ints),
            length-append own rest,
            length-append made (exit_lines site.mode d ints),
          ),
          omega (arith, first, last, length-append own rest),
        )
    lines-length (new_map ms) d ints h =
        let few : length (lines_at site d ints (new_map ms) by_itself) + 4 ≤ 8 * expression_nodes vars (new_map ms) =
        omega (
          arith,
          values-length ms d ints h.1,
          exit-length site.mode d ints,
          length-append (value_lines site d ints ms) (plain (op.MakeMap (cells (assignment_keys ms) nil) (failure site.mode 1)) ∷ exit_lines site.mode d ints),
        )
        in (few, omega (arith, few))

    arguments-length : (es : Expressions) (d : ℕ) (ints : List (ℕ × Kind)) → AreSoundExpressions site.bound es → length (argument_lines site d ints es) ≤ 8 * expressions_nodes vars es
    arguments-length no_expressions d ints h = omega arith
    arguments-length (expression e es) d ints h =
        omega (
          arith,
          (lines-length e d ints h.0).0,
          arguments-length es (suc d) ints h.1,
          length-append (lines_at site d ints e by_itself) (argument_lines site (suc d) ints es),
        )

    values-length : (ms : Assignments) (d : ℕ) (ints : List (ℕ × Kind)) → AreSoundAssignments site.bound ms → length (value_lines site d ints ms) ≤ 8 * assignments_nodes vars ms
    values-length no_assignments d ints h = omega arith
    values-length (assignment k e ms) d ints h =
        omega (
          arith,
          (lines-length e d ints h.1).0,
          values-length ms (suc d) ints h.2,
          length-append (lines_at site d ints e by_itself) (value_lines site (suc d) ints ms),
        )

    pub tests-length : (es : Expressions) (d : ℕ) (ints : List (ℕ × Kind)) → AreSoundExpressions site.bound es → length (test_lines site d ints es) + 2 * expression_count es ≤ 8 * expressions_nodes vars es
    tests-length no_expressions d ints h = omega arith
    tests-length (expression e es) d ints h =
        let rest = test_lines site d ints es in
        omega (
          arith,
          (lines-length e d ints h.0).0,
          tests-length es d ints h.1,
          length-append (lines_at site d ints e by_itself) (plain (op.Bool (failure site.mode (length rest + 5))) ∷ plain (op.Branch (Ahead (length rest + 2))) ∷ rest),
        )

    pub choices-length : (es : Expressions) (d : ℕ) (ints : List (ℕ × Kind)) → AreSoundExpressions site.bound es → length (choice_lines site d ints es) ≤ 8 * expressions_nodes vars es + 3
    choices-length no_expressions d ints h = omega (arith, none_true-length site.mode d ints)
    choices-length (expression e es) d ints h =
        let rest = choice_lines site d ints es in
        omega (
          arith,
          (lines-length e d ints h.0).0,
          choices-length es d ints h.1,
          length-append (lines_at site d ints e by_itself) (plain (op.Bool (failure site.mode (length rest + 2))) ∷ plain (op.Branch (Ahead 2)) ∷ plain (op.Const (boolean true)) ∷ before_label (op.Jump (Ahead (length rest))) d ints ∷ rest),
        )
