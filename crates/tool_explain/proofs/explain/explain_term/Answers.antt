use Rattle.std.proofs.Common.{sym}
use Rattle.std.proofs.lemmas.Result.{IfErr-weaker, on_ok_weaker}
use Rattle.tool_query.proofs.QueryLemmas.{no_binary_at}
use Rattle.tool_explain.proofs.ExplainLemmas.{coded_written, meant_written, coded_stops, meant_stops}
use Rattle.tool_explain.proofs.explain.explain_term.Goals as goal

pub returns-in-Binary-clause-ok : goal.returns-in-Binary-clause-ok
returns-in-Binary-clause-ok g c =
    on_ok_weaker c.explain_file.result (λ h. coded_written c.args.keypos c.args.term.now c.in-Binary.bytes.now _ _ (sym c.in-Binary.ensures.value) h) c.explain_file.ensures.ok

pub returns-in-Binary-clause-stopped : goal.returns-in-Binary-clause-stopped
returns-in-Binary-clause-stopped g c =
    IfErr-weaker c.explain_file.result _ _ (λ f h. coded_stops c.args.keypos c.args.term.now c.in-Binary.bytes.now _ _ f (sym c.in-Binary.ensures.value) h) c.explain_file.ensures.stopped

pub returns : goal.returns
returns g c =
    let other = no_binary_at c.args.term.now c.view.result c.view.ensures.value c.view.ensures.split c.in_default.not-Binary in
    record {
      ok = on_ok_weaker c.explain_read.result (λ h. meant_written c.args.keypos c.args.term.now _ _ other h) c.explain_read.ensures.ok;
      stopped = IfErr-weaker c.explain_read.result _ _ (λ f h. meant_stops c.args.keypos c.args.term.now _ _ f other h) c.explain_read.ensures.stopped;
    }
