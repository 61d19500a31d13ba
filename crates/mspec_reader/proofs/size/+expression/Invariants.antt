-- size decreases, with a row of expressions after an expression of its size; the remaining room and the remaining nodes
use Rattle.std.proofs.Common.{◌≡◌, ◌+◌, ◌*◌, drop}
use Rattle.mspec_syntax.specs.Expression.{expression_size, expressions_size, assignments_size, expressions_of, assignments_of, expressions_nodes, assignments_nodes}
use Rattle.mspec_reader.proofs.size.+expression.Given as goal

abbrev pub decreases-after_expression : goal.decreases-after_expression
decreases-after_expression g l = 2 * expression_size l.expression.now

abbrev pub decreases-after_parts : goal.decreases-after_parts
decreases-after_parts g l = 2 * expressions_size (expressions_of l.parts.now) + 1

abbrev pub decreases-after_assignments : goal.decreases-after_assignments
decreases-after_assignments g l = 2 * assignments_size (assignments_of l.assignments.now) + 1

abbrev pub invariant-after_parts-loop-part : goal.invariant-after_parts-loop-part
invariant-after_parts-loop-part g l =
    l.left + expressions_nodes l.variables (expressions_of l.parts) ≡ l.fn.room + expressions_nodes l.variables (expressions_of (drop l.part-index l.parts))

abbrev pub invariant-after_assignments-loop-expression : goal.invariant-after_assignments-loop-expression
invariant-after_assignments-loop-expression g l =
    l.left + assignments_nodes l.variables (assignments_of l.assignments) ≡ l.fn.room + assignments_nodes l.variables (assignments_of (drop l.expression-index l.assignments))
