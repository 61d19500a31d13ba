-- Laws of the output of the commands.
use Rattle.std.specs.Prelude.{ℕ, ◌≡◌, Option, Some, List}
use Rattle.term_core.specs.Datum.{Datum}
use Rattle.tool_io.specs.Terms.{OfTerms}
use Rattle.tool_query.specs.Answers.{Report}
use Rattle.tool_query.specs.Code.{WritesFile, WritesVerdict}
use Rattle.tool_query.specs.Run.{WritesAnswers}

-- the output for an input is determined by it
abbrev pub IsOne : (List Datum → (old new : Option (List ℕ)) → Type 0) → Type 0
IsOne Writes =
    (input written a b : List ℕ)
    → OfTerms (Some input) (λ terms. Writes terms (Some written) (Some a))
    → OfTerms (Some input) (λ terms. Writes terms (Some written) (Some b)) → a ≡ b

-- the answers and outcomes, the file of a specification's code, and the verdict on a file are determined by the input
pub record OutputIsOne : Type 0 where
  pub reports : (r : Report) → IsOne (WritesAnswers r)
  pub files : IsOne WritesFile
  pub verdicts : IsOne WritesVerdict
