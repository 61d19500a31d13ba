use Rattle.std.proofs.Common.{◌++◌, ◌∙◌, refl}
use Rattle.std.proofs.lemmas.Result.{IfErr-weaker, on_ok_weaker}
use Rattle.tool_explain.proofs.ExplainLemmas.{meant_text, query_stops}
use Rattle.tool_explain.proofs.explain.explain_specification.Goals as goal

pub returns-in-Ok-compile-clause-ok : goal.returns-in-Ok-compile-clause-ok
returns-in-Ok-compile-clause-ok g c =
    let plan = rw c.new-lines.ensures.items at c.in-Ok.ensures in
    let lines = c.put_plan.new.lines.items in
    on_ok_weaker c.write_code.result
    (λ h. (lines ++ h.0, meant_text c.args.keypos c.args.specification.now c.in-Ok-compile.code c.numbers-variables.result.now lines (lines ++ h.0) h.0 c.in-Ok-compile.ensures.code c.in-Ok-compile.ensures.answers (c.numbers-variables.ensures ∙ c.variables.ensures) plan h.1 refl, h.2))
    c.write_code.ensures.ok

pub returns-in-Ok-compile-clause-stopped : goal.returns-in-Ok-compile-clause-stopped
returns-in-Ok-compile-clause-stopped g c =
    let plan = rw c.new-lines.ensures.items at c.in-Ok.ensures in
    let lines = c.put_plan.new.lines.items in
    IfErr-weaker c.write_code.result _ _
    (λ f h. query_stops c.args.keypos _ (lines ++ h.0) _ _ f (meant_text c.args.keypos c.args.specification.now c.in-Ok-compile.code c.numbers-variables.result.now lines (lines ++ h.0) h.0 c.in-Ok-compile.ensures.code c.in-Ok-compile.ensures.answers (c.numbers-variables.ensures ∙ c.variables.ensures) plan h.1 refl) h.2)
    c.write_code.ensures.stopped
