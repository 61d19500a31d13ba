use Rattle.std.proofs.lemmas.Result.{IfErr-weaker, on_ok_weaker}
use Rattle.tool_explain.proofs.ExplainLemmas.{term_stops}
use Rattle.tool_explain.proofs.explain.explain_terms.Goals as goal

pub returns-clause-ok : goal.returns-clause-ok
returns-clause-ok g c =
    on_ok_weaker c.explain_term.result
    (λ h. record { first = c.in_ok-term.term.now; text = h.0; alone = c.in_ok-term.ensures.ok; explains = h.1; gained = h.2 })
    c.explain_term.ensures.ok

pub returns-clause-stopped : goal.returns-clause-stopped
returns-clause-stopped g c =
    IfErr-weaker c.explain_term.result _ _ (λ f h. term_stops c.args.keypos c.args.terms.now c.in_ok-term.term.now _ _ f c.in_ok-term.ensures.ok h) c.explain_term.ensures.stopped
