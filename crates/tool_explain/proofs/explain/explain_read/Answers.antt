use Rattle.std.proofs.Common.{inl, inr}
use Rattle.std.proofs.lemmas.Result.{IfErr-weaker, on_ok_weaker}
use Rattle.tool_query.proofs.RunLemmas.{kept}
use Rattle.tool_explain.proofs.explain.explain_read.Goals as goal

pub returns-in-Ok-clause-ok : goal.returns-in-Ok-clause-ok
returns-in-Ok-clause-ok g c =
    on_ok_weaker c.explain_specification.result (λ h. (c.in-Ok.specification, c.in-Ok.ensures.ok, h.0, h.1, h.2)) c.explain_specification.ensures.ok

pub returns-in-Ok-clause-stopped : goal.returns-in-Ok-clause-stopped
returns-in-Ok-clause-stopped g c =
    IfErr-weaker c.explain_specification.result _ _ (λ f h. inr (c.in-Ok.specification, c.in-Ok.ensures.ok, h)) c.explain_specification.ensures.stopped

pub returns-in-Err-clause-stopped : goal.returns-in-Err-clause-stopped
returns-in-Err-clause-stopped g c = inl (c.in-Err.ensures.refused, kept _)
