-- the remaining conditions decide
use Rattle.mspec_meaning.proofs.HoldLemmas.{HoldFront}
use Rattle.mspec_meaning.proofs.clauses.all_hold.Given as goal

abbrev pub invariant-loop-condition : goal.invariant-loop-condition
invariant-loop-condition g l = HoldFront l.conditions l.condition-index l.environment.substitution l.environment.object
