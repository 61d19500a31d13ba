-- what is read so far
use Rattle.mspec_reader.proofs.ReadingLemmas.{ExpressionsFront}
use Rattle.mspec_reader.proofs.body.read_expressions.Given as goal

abbrev pub invariant-loop-term : goal.invariant-loop-term
invariant-loop-term g l = ExpressionsFront l.clause l.variables l.terms l.term-index l.expressions.items
