use Rattle.std.proofs.Common.{◌++◌, refl}
use Rattle.std.proofs.lemmas.Result.{IfErr-weaker, on_ok_weaker}
use Rattle.tool_explain.proofs.ExplainLemmas.{coded_text, query_stops}
use Rattle.tool_explain.proofs.explain.explain_code.Goals as goal

pub returns-in-Ok-clause-ok : goal.returns-in-Ok-clause-ok
returns-in-Ok-clause-ok g c =
    let plan = rw c.new-lines.ensures.items at c.in-Ok.ensures in
    let lines = c.put_whole_walk.new.lines.items in
    on_ok_weaker c.write_code.result (λ h. (lines ++ h.0, coded_text c.args.keypos c.args.code.now lines (lines ++ h.0) h.0 plan h.1 refl, h.2)) c.write_code.ensures.ok

pub returns-in-Ok-clause-stopped : goal.returns-in-Ok-clause-stopped
returns-in-Ok-clause-stopped g c =
    let plan = rw c.new-lines.ensures.items at c.in-Ok.ensures in
    let lines = c.put_whole_walk.new.lines.items in
    IfErr-weaker c.write_code.result _ _ (λ f h. query_stops c.args.keypos _ (lines ++ h.0) _ _ f (coded_text c.args.keypos c.args.code.now lines (lines ++ h.0) h.0 plan h.1 refl) h.2) c.write_code.ensures.stopped
