-- A law of the output of `explain`.
use Rattle.std.specs.Prelude.{ℕ}
use Rattle.tool_query.specs.Laws.{IsOne}
use Rattle.tool_explain.specs.Explain.{WritesExplanation}

-- the output for an input is determined by it
abbrev pub ExplanationIsOne : Type 0
ExplanationIsOne = (keypos : ℕ) → IsOne (WritesExplanation keypos)
