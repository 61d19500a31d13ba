use Rattle.std.proofs.Common.{ap, subst, rules, sym}
use Rattle.term_core.specs.Datum.Datum.{atom}
use Rattle.term_core.specs.Limits.{IsSound}
use Rattle.term_operand.proofs.TextLemmas.{chars-true, chars-false, sound-true, sound-false}
use Rattle.term_operand.proofs.operand.boolean_text.Goals as goal

pub returns-then-value-clause-value : goal.returns-then-value-clause-value
returns-then-value-clause-value c = rw c.if-value.true (ap atom chars-true)

pub returns-then-value-clause-sound : goal.returns-then-value-clause-sound
returns-then-value-clause-sound c = sound-true

pub returns-else-value-clause-value : goal.returns-else-value-clause-value
returns-else-value-clause-value c = rw c.if-value.false (ap atom chars-false)

pub returns-else-value-clause-sound : goal.returns-else-value-clause-sound
returns-else-value-clause-sound c = sound-false
