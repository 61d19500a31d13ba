-- What holds of the code of every specification.
use Rattle.std.specs.Prelude.{ℕ, ◌≡◌, ◌+◌, ◌*◌, ◌≤◌, Option, length, All}
use Rattle.term_core.specs.Datum.{Datum}
use Rattle.mcode.specs.Answer.{answer_of}
use Rattle.mspec_syntax.specs.Sound.{IsSoundClause}
use Rattle.mspec_syntax.specs.Specification.{Specification, IsWithinLimits, specification_nodes}
use Rattle.mspec_meaning.specs.Meaning.{Means}
use Rattle.verifier.specs.Typing.{IsDepth}
use Rattle.compiler_clauses.specs.Clauses.{code_of}

-- the code of a specification answers what the specification means for an object
abbrev pub CodeAnswersAsMeant : Type 0
CodeAnswersAsMeant =
    (spec : Specification) (o : Datum) (answer : Option Datum) → All IsSoundClause spec
    → IsWithinLimits spec → Means spec o answer → answer ≡ answer_of (code_of spec) o

-- the code has at most eight instructions for each node, and one for the end
abbrev pub CodeIsShort : Type 0
CodeIsShort =
    (spec : Specification) → All IsSoundClause spec
    → length (code_of spec).instructions ≤ 8 * specification_nodes spec + 1

-- the stack is never deeper than there are nodes
abbrev pub CodeIsShallow : Type 0
CodeIsShallow =
    (spec : Specification) (depth : ℕ) → All IsSoundClause spec → IsWithinLimits spec
    → IsDepth (code_of spec) depth → depth ≤ specification_nodes spec
