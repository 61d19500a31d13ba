-- The codes of clauses and specifications, by which proofs tell them apart.
use Rattle.std.specs.Prelude.{List, refl}
use Rattle.std.specs.Coded.{Coded, code_by, coded×, coded_list}
use Rattle.mspec_syntax.specs.Pattern.{Pattern}
use Rattle.mspec_syntax.specs.PatternCode.{pattern_code}
use Rattle.mspec_syntax.specs.Expression.{Expression}
use Rattle.mspec_syntax.specs.ExpressionCode.{expression_code}
use Rattle.mspec_syntax.specs.Specification.{Clause, Specification}

abbrev pub clause_code : Coded Clause
clause_code =
    code_by (Pattern × (List Expression × List Expression)) (coded× pattern_code (coded× (coded_list expression_code) (coded_list expression_code)))
    (λ c. (c.head, (c.conditions, c.body))) (λ p. record { head = p.0; conditions = p.1.0; body = p.1.1 }) (λ _. refl)

abbrev pub specification_code : Coded Specification
specification_code = coded_list clause_code
