use Rattle.machine_bodies.proofs.WalkLemmas.{run_within}
use Rattle.machine_bodies.proofs.laws.runs_stay_within_the_budget.Goals as goal

pub returns : goal.returns
returns c = λ p object n a budget is_budget run. run_within p object n a budget is_budget run
