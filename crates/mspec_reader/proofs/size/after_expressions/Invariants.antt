-- the remaining room and the remaining nodes
use Rattle.std.proofs.Common.{◌≡◌, ◌+◌, drop, sum_by}
use Rattle.mspec_syntax.specs.Expression.{expression_nodes}
use Rattle.mspec_reader.proofs.size.after_expressions.Given as goal

abbrev pub invariant-loop-expression : goal.invariant-loop-expression
invariant-loop-expression g l =
    l.left + sum_by (expression_nodes l.variables) l.expressions ≡ l.fn.room + sum_by (expression_nodes l.variables) (drop l.expression-index l.expressions)
