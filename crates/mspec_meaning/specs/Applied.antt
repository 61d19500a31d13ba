-- The result of a clause on an object.
use Rattle.std.specs.Prelude.{◌≡◌}
use Rattle.term_core.specs.Datum.{Datum}
use Rattle.mspec_syntax.specs.Specification.{Clause}
use Rattle.mspec_match.specs.Match.{Substitution}
use Rattle.mspec_meaning.specs.Meaning.{Applies, IsApplicable, body_value}
use Rattle.mspec_meaning.specs.declared.clauses.Applied.{Applied}
use Rattle.mspec_meaning.specs.declared.clauses.Applied.TheVariants as applied

-- the clause does not apply, or it does, and the answer is the value of its body
abbrev pub AnswersBy : {A : Type 0} → Applied A → Clause → Datum → Type 0
AnswersBy applied.Not c o = ¬ IsApplicable c o
AnswersBy (applied.Answers answer) c o =
    (s : Substitution) × Applies c s o × (answer ≡ body_value c.body s o)
