use Rattle.budget.proofs.BodyLemmas.{budget_once}
use Rattle.budget.proofs.laws.budget_is_one.Goals as goal

pub returns : goal.returns
returns c = λ p n m a b. budget_once p n m a b
