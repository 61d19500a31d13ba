use Rattle.walk_query.proofs.PlanLemmas.{plan_kept, planned_here, unplanned_elsewhere}
use Rattle.walk_query.proofs.query.Query.from_spec.Goals as goal

pub invariant_of-result : goal.invariant_of-result
invariant_of-result g c =
    record { kept = plan_kept c.in_ok-code.code c.in_ok-code.named c.in_ok-code.ensures.planned c.in_ok-code.ensures.silent }

pub returns-clause-planned : goal.returns-clause-planned
returns-clause-planned g c =
    λ ordered. planned_here c.args.keypos c.args.specification.now c.in_ok-code.named ordered c.in_ok-code.ensures.planned c.in_ok-code.ensures.keys c.in_ok-code.ensures.keypos

pub returns-clause-elsewhere : goal.returns-clause-elsewhere
returns-clause-elsewhere g c =
    λ other ordered apart. unplanned_elsewhere c.args.keypos c.in_ok-code.named other ordered c.in_ok-code.ensures.keypos apart
