use Rattle.std.proofs.Common.{ap}
use Rattle.term_core.specs.Datum.Datum.{atom}
use Rattle.compiler_expressions.proofs.TextLemmas.{chars-true, chars-false}
use Rattle.compiler_expressions.proofs.put.boolean_text.Goals as goal

pub returns-then-value : goal.returns-then-value
returns-then-value c = rw c.if-value.true (ap atom chars-true)

pub returns-else-value : goal.returns-else-value
returns-else-value c = rw c.if-value.false (ap atom chars-false)
