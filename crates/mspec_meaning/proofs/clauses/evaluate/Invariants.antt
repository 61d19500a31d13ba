-- the remaining clauses decide
use Rattle.std.proofs.Common.{Option, drop}
use Rattle.term_core.specs.Datum.{Datum}
use Rattle.mspec_meaning.specs.Meaning.{Means}
use Rattle.mspec_meaning.proofs.clauses.evaluate.Given as goal

abbrev pub invariant-loop-clause : goal.invariant-loop-clause
invariant-loop-clause g l = (answer : Option Datum) → Means (drop l.clause-index l.clause-items) l.object answer → Means l.spec l.object answer
