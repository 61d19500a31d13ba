use Rattle.std.proofs.Common.{inr, sym, ◌∙◌, ap, ◌∷◌, []}
use Rattle.std.proofs.lemmas.Result.{err_from_is_err_and, on_ok_weaker}
use Rattle.tool_query.proofs.QueryLemmas.{no_binary_at}
use Rattle.tool_query.proofs.RunLemmas.{kept, unloaded_stops}
use Rattle.tool_query.proofs.file.verify_terms.Goals as goal

pub returns-in_default : goal.returns-in_default
returns-in_default g c =
    let first = c.in_ok-only.field-0.now in
    let other = no_binary_at first c.view.result c.view.ensures.value c.view.ensures.split c.in_default.not-Binary in
    record { ok = tt; stopped = (inr (first, c.in_ok-only.ensures.ok, other), kept (g.W.Write.contents c.args.writer.now)) }

pub returns-in_err-code-clause-stopped : goal.returns-in_err-code-clause-stopped
returns-in_err-code-clause-stopped g c =
    let alone = c.in_ok-only.ensures.ok ∙ ap (λ d. d ∷ []) (sym c.in-Binary.ensures.value) in
    let back = err_from_is_err_and c.from_residual-in_err-code.result c.from_residual-in_err-code.ensures.1 in
    rw (back.1, back.2) (unloaded_stops c.args.terms.now c.in-Binary.bytes.now (g.W.Write.contents c.args.writer.now) _ alone c.in_err-code.ensures.refused)

pub returns-in-Ok-clause-ok : goal.returns-in-Ok-clause-ok
returns-in-Ok-clause-ok g c =
    let alone = c.in_ok-only.ensures.ok ∙ ap (λ d. d ∷ []) (sym c.in-Binary.ensures.value) in
    let grown = rw c.new-lines.ensures.items at c.in-Ok.ensures in
    on_ok_weaker c.write_lines.result (λ gained. record {
      bytes = c.in-Binary.bytes.now;
      code = c.in_ok-code.code;
      budget = c.budget.result;
      depth = c.depth.result;
      alone = alone;
      loaded = c.in_ok-code.ensures.ok;
      budget_is = c.budget.ensures;
      depth_is = c.depth.ensures;
      gained = rw grown at gained;
    }) c.write_lines.ensures.ok
