use Rattle.std.proofs.Common.{inr}
use Rattle.mspec_meaning.proofs.HoldLemmas.{first-answers, first-alone, others-answer}
use Rattle.mspec_meaning.proofs.laws.first_clause_decides.Goals as goal

pub returns-clause-first : goal.returns-clause-first
returns-clause-first c = λ b cs o answer h. (λ k. first-answers b cs o answer h k, λ k. first-alone b cs o answer h k)

pub returns-clause-others : goal.returns-clause-others
returns-clause-others c = λ b cs o answer h. (λ k. others-answer b cs o answer h k, λ k. inr (h, k))
