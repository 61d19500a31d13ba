use Rattle.std.proofs.Common.{rules}
use Rattle.std.specs.Prelude.{FitsSigned}
use Rattle.std.specs.Int.{w64}
use Rattle.std.proofs.lemmas.Int.{to_z-of_z}
use Rattle.std.proofs.lemmas.Result.{IfOk-weaker}
use Rattle.tool_script.proofs.walk.walk.Goals as goal

pub returns-in-Select-clause-answered : goal.returns-in-Select-clause-answered
returns-in-Select-clause-answered g c =
    rw c.in-Select.is (IfOk-weaker c.select_all.result _ _ (λ reply is. is c.args.walks.now) c.select_all.ensures.answered)

pub returns-in-SelectMore-clause-answered : goal.returns-in-SelectMore-clause-answered
returns-in-SelectMore-clause-answered g c =
    let fits : FitsSigned w64 c.in-SelectMore.number = search rules in
    let answered = rw (to_z-of_z w64 c.in-SelectMore.number fits) at c.go_on.ensures.answered in
    rw c.in-SelectMore.is answered

pub returns-in-SelectCount-clause-answered : goal.returns-in-SelectCount-clause-answered
returns-in-SelectCount-clause-answered g c =
    rw c.in-SelectCount.is (IfOk-weaker c.count_all.result _ _ (λ reply is. is c.args.walks.now) c.count_all.ensures.answered)

pub returns-in-SelectDelete-clause-answered : goal.returns-in-SelectDelete-clause-answered
returns-in-SelectDelete-clause-answered g c =
    rw c.in-SelectDelete.is (IfOk-weaker c.delete_all.result _ _ (λ reply is. is c.args.walks.now) c.delete_all.ensures.answered)
