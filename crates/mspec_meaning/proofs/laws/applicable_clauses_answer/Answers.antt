use Rattle.mspec_meaning.proofs.MeaningLemmas.{applicable-value, none-applies, nothing-answered}
use Rattle.mspec_meaning.proofs.laws.applicable_clauses_answer.Goals as goal

pub returns-clause-value : goal.returns-clause-value
returns-clause-value c = λ b s o sound applies. applicable-value b s o sound applies

pub returns-clause-nothing : goal.returns-clause-nothing
returns-clause-nothing c = λ spec o sound.
    (λ means. none-applies spec o sound means, λ none. nothing-answered spec o none)
