-- what is collected so far and what remains make up the whole
use Rattle.std.proofs.Common.{◌≡◌, ◌++◌, drop}
use Rattle.mspec_syntax.specs.Specification.{heads_variables}
use Rattle.mspec_syntax.proofs.variables.Variables.of_clauses.Given as goal

abbrev pub invariant-loop-clause : goal.invariant-loop-clause
invariant-loop-clause g l = l.numbers.items ++ heads_variables (drop l.clause-index l.clauses) ≡ heads_variables l.clauses
