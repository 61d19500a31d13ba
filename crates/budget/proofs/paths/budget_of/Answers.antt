use Rattle.budget.proofs.PassLemmas.{limited}
use Rattle.budget.proofs.paths.budget_of.Goals as goal

pub returns : goal.returns
returns g c =
    limited c.args.body.now c.args.budgets.now _ _ c.within_limit.result c.instructions.ensures.value c.in_ok-budget.ensures c.within_limit.ensures
