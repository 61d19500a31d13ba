-- Laws of the code of specifications.
use Rattle.std.specs.Prelude.{All}
use Rattle.mspec_syntax.specs.Sound.{IsSoundClause}
use Rattle.mspec_syntax.specs.Specification.{Specification, IsWithinLimits}
use Rattle.verifier.specs.Typing.{IsTyped}
use Rattle.compiler_assembly.specs.Assembled.{IsCode}
use Rattle.compiler_clauses.specs.Clauses.{code_of}

-- the code of a specification is within the limits of code, and typed
pub record IsGoodCode (spec : Specification) : Type 0 where
  pub code : IsCode (code_of spec)
  pub typed : IsTyped (code_of spec)

-- the code of a specification of sound clauses within the limits is typed
abbrev pub CodeIsTyped : Type 0
CodeIsTyped =
    (spec : Specification) → All IsSoundClause spec → IsWithinLimits spec → IsGoodCode spec
