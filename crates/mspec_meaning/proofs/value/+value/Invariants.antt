-- size decreases, with a row of expressions before an expression of its size; what was evaluated and what remains make
-- up the whole
use Rattle.std.proofs.Common.{◌+◌, ◌-◌, ◌*◌, map}
use Rattle.mspec_syntax.specs.Expression.{expression_size, expressions_size, assignments_size, expressions_of, assignments_of}
use Rattle.mspec_syntax.specs.ExpressionView.{tail_expression}
use Rattle.term_operand.specs.Value.{value_datum}
use Rattle.mspec_meaning.proofs.ValueLemmas.{ValuesFront, EntriesFront, DecidedFront}
use Rattle.mspec_meaning.proofs.value.+value.Given as goal

abbrev pub decreases-value : goal.decreases-value
decreases-value g l = 4 * expression_size l.expression.now + 3

abbrev pub decreases-values : goal.decreases-values
decreases-values g l = 4 * expressions_size (expressions_of l.arguments.now)

abbrev pub decreases-terms : goal.decreases-terms
decreases-terms g l = 4 * expressions_size (expressions_of l.elements.now)

abbrev pub decreases-pairs : goal.decreases-pairs
decreases-pairs g l = 4 * assignments_size (assignments_of l.assignments.now)

abbrev pub decreases-list : goal.decreases-list
decreases-list g l =
    4 * expression_size (tail_expression l.tail.now) + 5 + (4 * expressions_size (expressions_of l.elements.now) - 4)

abbrev pub decreases-tail_term : goal.decreases-tail_term
decreases-tail_term g l = 4 * expression_size (tail_expression l.tail.now) + 4

abbrev pub decreases-decide : goal.decreases-decide
decreases-decide g l = 4 * expressions_size (expressions_of l.arguments.now)

abbrev pub invariant-values-loop-argument : goal.invariant-values-loop-argument
invariant-values-loop-argument g l =
    ValuesFront l.environment.mode l.environment.substitution l.environment.object l.arguments l.argument-index (map value_datum l.values.items)

abbrev pub invariant-terms-loop-element : goal.invariant-terms-loop-element
invariant-terms-loop-element g l =
    ValuesFront l.environment.mode l.environment.substitution l.environment.object l.elements l.element-index l.terms.items

abbrev pub invariant-pairs-loop-key : goal.invariant-pairs-loop-key
invariant-pairs-loop-key g l =
    EntriesFront l.environment.mode l.environment.substitution l.environment.object l.assignments l.key-index l.pairs.items

abbrev pub invariant-decide-loop-argument : goal.invariant-decide-loop-argument
invariant-decide-loop-argument g l =
    DecidedFront l.environment.mode l.environment.substitution l.environment.object l.decides l.arguments l.argument-index
