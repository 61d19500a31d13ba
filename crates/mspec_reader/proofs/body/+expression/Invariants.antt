-- depth decreases, with a row of terms after a term of its depth, a call after its arguments and a tuple after its
-- call; what is read so far
use Rattle.std.proofs.Common.{◌+◌, ◌*◌}
use Rattle.term_core.specs.Datum.{items_of, entries_of}
use Rattle.term_core.specs.Limits.{depth, items_depth, entries_depth}
use Rattle.mspec_syntax.proofs.ExpressionLemmas.{PartsFront, AssignmentsFront}
use Rattle.mspec_reader.proofs.body.+expression.Given as goal

abbrev pub decreases-read_expression : goal.decreases-read_expression
decreases-read_expression g l = 6 * depth l.term.now

abbrev pub decreases-read_tuple : goal.decreases-read_tuple
decreases-read_tuple g l = 6 * items_depth (items_of l.elements.now) + 4

abbrev pub decreases-read_call : goal.decreases-read_call
decreases-read_call g l = 6 * items_depth (items_of l.arguments.now) + 2

abbrev pub decreases-read_construction : goal.decreases-read_construction
decreases-read_construction g l = 6 * items_depth (items_of l.parts.now) + 3

abbrev pub decreases-read_parts : goal.decreases-read_parts
decreases-read_parts g l = 6 * items_depth (items_of l.terms.now) + 1

abbrev pub decreases-read_assignments : goal.decreases-read_assignments
decreases-read_assignments g l = 6 * entries_depth (entries_of l.pairs.now) + 1

abbrev pub invariant-read_parts-loop-term : goal.invariant-read_parts-loop-term
invariant-read_parts-loop-term g l = PartsFront l.clause l.variables l.terms l.term-index l.parts.items

abbrev pub invariant-read_assignments-loop-key : goal.invariant-read_assignments-loop-key
invariant-read_assignments-loop-key g l = AssignmentsFront l.clause l.variables l.pairs l.key-index l.assignments.items
