-- The output is determined by the input.
use Rattle.std.proofs.Common.{◌≡◌, ◌∙◌, ℕ, List, [], ◌∷◌, ◌++◌, Some, sym, ap, subst}
use Rattle.term_core.specs.Datum.{Datum}
use Rattle.term_text.specs.Laws.{SpellsOne}
use Rattle.mspec_reader.specs.Laws.{HasOneReading}
use Rattle.code_writer.specs.Laws.{OneCode}
use Rattle.mcode.specs.Program.{Program}
use Rattle.budget.specs.Laws.{HasOneBudget}
use Rattle.verifier.specs.Laws.{DepthIsOne}
use Rattle.tool_query.specs.Query.{Query, IsQuery}
use Rattle.tool_query.proofs.OneLemmas.{terms_once, query_once}
use Rattle.tool_explain.specs.Explain.{CodeText, QueryText, WritesExplanation, code_shown, keys_shown, variables_shown}
use Rattle.tool_explain.specs.Laws.{ExplanationIsOne}
use Rattle.tool_explain.specs.Listing.{listing}
use Rattle.tool_explain.specs.Plan.{plan_text, bounds_text}

module _ (spells_one : SpellsOne) (one_reading : HasOneReading) (one_code : OneCode) (one_budget : HasOneBudget) (one_depth : DepthIsOne) where
  code_once : (vs : List ℕ) (p : Program) (a b : List ℕ) → CodeText vs p a → CodeText vs p b → a ≡ b
  code_once vs p a b first again =
      let budgets = one_budget p first.budget again.budget first.budget_is again.budget_is in
      let depths = one_depth p first.depth again.depth first.depth_is again.depth_is in
      first.text_is ∙ ap (λ n. bounds_text n first.depth ++ listing vs p) budgets ∙ ap (λ n. bounds_text again.budget n ++ listing vs p) depths ∙ sym again.text_is

  text_once : (keypos : ℕ) (q : Query) (a b : List ℕ) → QueryText keypos q a → QueryText keypos q b → a ≡ b
  text_once keypos q a b first again =
      let codes = code_once (variables_shown q) (code_shown q) first.code again.code first.code_is again.code_is in
      first.text_is ∙ ap (λ code. plan_text keypos (keys_shown keypos q) ++ code) codes ∙ sym again.text_is

  explained_once : (keypos : ℕ) (terms : List Datum) (written a b : List ℕ) → WritesExplanation keypos terms (Some written) (Some a) → WritesExplanation keypos terms (Some written) (Some b) → a ≡ b
  explained_once keypos terms written a b first again =
      let cells : (first.first ∷ []) ≡ (again.first ∷ []) = sym first.alone ∙ again.alone in
      let heads : first.first ≡ again.first = cc in
      let queries = query_once one_reading one_code again.first first.explains.0 again.explains.0 (subst (λ d. IsQuery d first.explains.0) heads first.explains.1) again.explains.1 in
      let texts = text_once keypos again.explains.0 first.text again.text (subst (λ q. QueryText keypos q first.text) queries first.explains.2) again.explains.2 in
      first.gained ∙ ap (λ text. written ++ text) texts ∙ sym again.gained

  pub explanation_once : ExplanationIsOne
  explanation_once keypos = terms_once spells_one (WritesExplanation keypos) (explained_once keypos)
