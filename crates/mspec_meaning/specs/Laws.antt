-- Laws of the meaning.
use Rattle.std.specs.Prelude.{◌≡◌, ◌↔◌, Option, None, [], ◌∷◌}
use Rattle.std.specs.List.{All}
use Rattle.std.specs.Option.{IsSome}
use Rattle.term_core.specs.Datum.{Datum}
use Rattle.mspec_syntax.specs.Specification.{Clause, Specification}
use Rattle.mspec_match.specs.Match.{Substitution}
use Rattle.mspec_syntax.specs.Sound.{IsSoundClause}
use Rattle.mspec_meaning.specs.Meaning.{Applies, IsApplicable, Means, body_value}

-- the empty specification has no answer on any object
abbrev pub EmptyAnswersNothing : Type 0
EmptyAnswersNothing = (o : Datum) (answer : Option Datum) → Means [] o answer → answer ≡ None

-- if the first clause applies, the specification has the answer of this clause alone
abbrev pub FirstAnswers : Type 0
FirstAnswers =
    (c : Clause) (cs : Specification) (o : Datum) (answer : Option Datum) → IsApplicable c o
    → (Means (c ∷ cs) o answer ↔ Means (c ∷ []) o answer)

-- if the first clause does not apply, the specification has the answer of the other clauses
abbrev pub OthersAnswer : Type 0
OthersAnswer =
    (c : Clause) (cs : Specification) (o : Datum) (answer : Option Datum) → ¬ IsApplicable c o
    → (Means (c ∷ cs) o answer ↔ Means cs o answer)

-- a specification has one answer on an object
abbrev pub HasOneMeaning : Type 0
HasOneMeaning =
    (spec : Specification) (o : Datum) (a b : Option Datum) → Means spec o a → Means spec o b
    → a ≡ b

-- the body of a sound clause that applies has a value
abbrev pub ApplicableHasValue : Type 0
ApplicableHasValue =
    (c : Clause) (s : Substitution) (o : Datum) → IsSoundClause c → Applies c s o
    → IsSome (body_value c.body s o)

-- a specification of sound clauses has no answer exactly if no clause applies
abbrev pub NothingWhereNoneApplies : Type 0
NothingWhereNoneApplies =
    (spec : Specification) (o : Datum) → All IsSoundClause spec
    → (Means spec o None ↔ All (λ c. ¬ IsApplicable c o) spec)
