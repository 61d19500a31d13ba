use Rattle.std.proofs.Common.{◌++◌, ◌∙◌, [], refl, ap, subst, append_assoc}
use Rattle.std.specs.Io.KnownBytes.{Appends}
use Rattle.std.proofs.lemmas.Result.{IfErr-weaker, on_ok_weaker}
use Rattle.tool_io.proofs.LineLemmas.{appends_none}
use Rattle.tool_explain.specs.Listing.{listing}
use Rattle.tool_explain.specs.Passing.{StopsPassing}
use Rattle.tool_explain.specs.Plan.{bounds_text}
use Rattle.tool_explain.proofs.explain.write_code.Goals as goal

pub returns-in-Ok-clause-ok : goal.returns-in-Ok-clause-ok
returns-in-Ok-clause-ok g c =
    let bounds = bounds_text c.budget.result c.depth.result in
    let shown = listing c.args.variables.now c.args.code.now in
    let put = rw c.code.ensures.value at c.write_listing.ensures.ok in
    let whole = ap (λ l. l ++ shown) c.in-Ok.ensures ∙ append_assoc c.args.lines.now.items bounds shown in
    on_ok_weaker c.write_listing.result
    (λ gained. (
      bounds ++ shown,
      record { budget = c.budget.result; depth = c.depth.result; budget_is = c.budget.ensures; depth_is = c.depth.ensures; text_is = refl },
      subst (Appends (g.W.Write.contents c.args.writer.now) (g.W.Write.contents c.write_listing.new.writer)) whole gained,
    ))
    put

pub returns-in-Ok-clause-stopped : goal.returns-in-Ok-clause-stopped
returns-in-Ok-clause-stopped g c =
    let bounds = bounds_text c.budget.result c.depth.result in
    let shown = listing c.args.variables.now c.args.code.now in
    let stopped = rw c.code.ensures.value at c.write_listing.ensures.stopped in
    let whole = ap (λ l. l ++ shown) c.in-Ok.ensures ∙ append_assoc c.args.lines.now.items bounds shown in
    IfErr-weaker c.write_listing.result _ _
    (λ f stops. (
      bounds ++ shown,
      record { budget = c.budget.result; depth = c.depth.result; budget_is = c.budget.ensures; depth_is = c.depth.ensures; text_is = refl },
      subst (λ l. StopsPassing l (g.W.Write.contents c.args.writer.now) (g.W.Write.contents c.write_listing.new.writer) f) whole stops,
    ))
    stopped

pub returns-in-Err-clause-stopped : goal.returns-in-Err-clause-stopped
returns-in-Err-clause-stopped g c =
    let bounds = bounds_text c.budget.result c.depth.result in
    let shown = listing c.args.variables.now c.args.code.now in (
      bounds ++ shown,
      record { budget = c.budget.result; depth = c.depth.result; budget_is = c.budget.ensures; depth_is = c.depth.ensures; text_is = refl },
      record { front = []; rest = c.args.lines.now.items ++ (bounds ++ shown); is = refl; gained = appends_none _ },
    )
