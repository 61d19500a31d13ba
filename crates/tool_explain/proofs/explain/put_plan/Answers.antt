use Rattle.std.proofs.Common.{◌++◌, ◌∙◌, ap}
use Rattle.std.proofs.lemmas.Result.{on_ok_weaker}
use Rattle.tool_explain.specs.Plan.{plan_text}
use Rattle.tool_explain.proofs.explain.put_plan.Goals as goal

pub returns-in-Some : goal.returns-in-Some
returns-in-Some g c =
    let named = rw c.in-Some.is at c.in_ok-keys.ensures in
    let put = rw c.as_slice.ensures.value at c.put_look_ups.ensures in
    on_ok_weaker c.put_look_ups.result (λ p. p ∙ ap (λ keys. c.args.lines.now.items ++ plan_text c.args.keypos keys) named) put

pub returns-in-None : goal.returns-in-None
returns-in-None g c =
    let named = rw c.in-None.is at c.in_ok-keys.ensures in
    on_ok_weaker c.put_whole_walk.result (λ p. p ∙ ap (λ keys. c.args.lines.now.items ++ plan_text c.args.keypos keys) named) c.put_whole_walk.ensures
