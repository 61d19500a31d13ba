-- That a query has no answer for objects that its walks skip is a fact, with at most one proof, so that queries can keep it.
use Rattle.std.specs.Prelude.{ℕ, Bool, Option, Some, None, List}
use Rattle.std.specs.Coded.{codes}
use Rattle.std.specs.List.{IsDistinct-prop}
use Rattle.term_core.specs.Datum.{Datum}
use Rattle.term_core.specs.DatumCode.{datum_code}
use Rattle.term_operand.specs.Order.{is_same}
use Rattle.mcode.specs.Program.{Program}
use Rattle.walk_query.specs.Plan.{Plan, AreVisited, IsPlanFor, plan_at}

answers_set : IsSet (Option Datum)
answers_set = hlevel (codes, datum_code)

visited_prop : (code : Program) (keypos : ℕ) (plan : Option (List Datum)) → IsProp (AreVisited code keypos plan)
visited_prop code keypos None = hlevel
visited_prop code keypos (Some ks) = hlevel (IsDistinct-prop is_same ks, answers_set)

pub plan_prop : (code : Program) (named : Option Plan) → IsProp (IsPlanFor code named)
plan_prop code named =
    let each : (keypos : ℕ) (ordered : Bool) → IsProp (AreVisited code keypos (plan_at named keypos ordered)) = λ keypos ordered. visited_prop code keypos (plan_at named keypos ordered) in
    hlevel each
