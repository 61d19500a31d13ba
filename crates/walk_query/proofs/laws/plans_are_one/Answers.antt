use Rattle.walk_query.proofs.PlanLemmas.{one_plan}
use Rattle.walk_query.proofs.laws.plans_are_one.Goals as goal

pub returns : goal.returns
returns c = λ keypos ordered spec a b first second. one_plan keypos ordered spec a b first second
