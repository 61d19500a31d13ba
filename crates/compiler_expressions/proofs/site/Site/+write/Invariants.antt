-- by size, arguments before an expression of their size; what was put are the lines from this position on
use Rattle.std.proofs.Common.{◌≡◌, ◌+◌, ◌*◌, ◌++◌, drop}
use Rattle.mspec_syntax.specs.Expression.{expression_size, expressions_size, assignments_size, expressions_of, assignments_of}
use Rattle.mspec_syntax.specs.ExpressionView.{tail_expression}
use Rattle.compiler_expressions.specs.Expressions.{argument_lines, value_lines, test_lines, choice_lines}
use Rattle.compiler_expressions.proofs.site.Site.+write.Given as goal

abbrev pub decreases-write_one : goal.decreases-write_one
decreases-write_one g l = 5 * expression_size l.expression.now + 3

abbrev pub decreases-write_call : goal.decreases-write_call
decreases-write_call g l = 5 * expressions_size (expressions_of l.arguments.now) + 7

abbrev pub decreases-write_function : goal.decreases-write_function
decreases-write_function g l = 5 * expressions_size (expressions_of l.arguments.now) + 6

abbrev pub decreases-write_arithmetic : goal.decreases-write_arithmetic
decreases-write_arithmetic g l = 5 * expressions_size (expressions_of l.arguments.now) + 6

abbrev pub decreases-write_second : goal.decreases-write_second
decreases-write_second g l = 5 * expression_size l.expression.now + 4

abbrev pub decreases-write_all : goal.decreases-write_all
decreases-write_all g l = 5 * expressions_size (expressions_of l.expressions.now)

abbrev pub decreases-write_and : goal.decreases-write_and
decreases-write_and g l = 5 * expressions_size (expressions_of l.arguments.now)

abbrev pub decreases-write_or : goal.decreases-write_or
decreases-write_or g l = 5 * expressions_size (expressions_of l.arguments.now)

abbrev pub decreases-write_tuple : goal.decreases-write_tuple
decreases-write_tuple g l = 5 * expressions_size (expressions_of l.elements.now) + 6

abbrev pub decreases-write_list : goal.decreases-write_list
decreases-write_list g l =
    5 * expressions_size (expressions_of l.elements.now) + 5 * expression_size (tail_expression l.tail.now) + 1

abbrev pub decreases-write_tail : goal.decreases-write_tail
decreases-write_tail g l = 5 * expression_size (tail_expression l.tail.now) + 4

abbrev pub decreases-write_map : goal.decreases-write_map
decreases-write_map g l = 5 * assignments_size (assignments_of l.assignments.now) + 6

abbrev pub decreases-write_values : goal.decreases-write_values
decreases-write_values g l = 5 * assignments_size (assignments_of l.assignments.now)

abbrev pub invariant-write_all-loop-place : goal.invariant-write_all-loop-place
invariant-write_all-loop-place g l =
    l.lines ≡ argument_lines l.self (l.depth + l.place) l.integers (expressions_of (drop l.place l.expressions)) ++ l.initial.lines

abbrev pub invariant-write_values-loop-place : goal.invariant-write_values-loop-place
invariant-write_values-loop-place g l =
    l.lines ≡ value_lines l.self (l.depth + l.place) l.integers (assignments_of (drop l.place l.assignments)) ++ l.initial.lines

abbrev pub invariant-write_and-loop-place : goal.invariant-write_and-loop-place
invariant-write_and-loop-place g l =
    l.lines ≡ test_lines l.self l.depth l.integers (expressions_of (drop l.place l.arguments)) ++ l.initial.lines

abbrev pub invariant-write_or-loop-place : goal.invariant-write_or-loop-place
invariant-write_or-loop-place g l =
    l.lines ≡ choice_lines l.self l.depth l.integers (expressions_of (drop l.place l.arguments)) ++ l.fn.lines
