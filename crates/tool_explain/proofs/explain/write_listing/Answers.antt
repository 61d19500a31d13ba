use Rattle.std.proofs.lemmas.Result.{on_ok_weaker, MatchResult-weaker}
use Rattle.tool_explain.specs.Listing.{listing}
use Rattle.tool_explain.proofs.PassingLemmas.{passed_whole, stopped_whole}
use Rattle.tool_explain.proofs.explain.write_listing.Goals as goal

pub returns-in-Ok-clause-ok : goal.returns-in-Ok-clause-ok
returns-in-Ok-clause-ok g c =
    on_ok_weaker c.write_lines.result (λ w. passed_whole (listing c.args.variables.now c.args.code.now) c.args.lines.now.items c.pass_listing.new.lines.items _ _ _ c.in-Ok.ensures.ok w) c.write_lines.ensures.ok

pub returns-in-Ok-clause-stopped : goal.returns-in-Ok-clause-stopped
returns-in-Ok-clause-stopped g c =
    MatchResult-weaker c.write_lines.result c.write_lines.ensures.failed (λ x p. p) (λ f failed. rw failed tt)

pub returns-in-Err-clause-stopped : goal.returns-in-Err-clause-stopped
returns-in-Err-clause-stopped g c =
    stopped_whole (listing c.args.variables.now c.args.code.now) c.args.lines.now.items _ _ c.in-Err.fault c.in-Err.ensures.stopped
