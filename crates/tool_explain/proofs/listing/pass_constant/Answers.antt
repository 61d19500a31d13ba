use Rattle.std.proofs.lemmas.Result.{on_ok_weaker, MatchResult-weaker}
use Rattle.tool_explain.specs.Listing.{constant_line}
use Rattle.tool_explain.proofs.PassingLemmas.{memory_stops, put_passes, write_stops}
use Rattle.tool_explain.proofs.listing.pass_constant.Goals as goal

pub returns-in-Ok-clause-ok : goal.returns-in-Ok-clause-ok
returns-in-Ok-clause-ok g c =
    on_ok_weaker c.write_if_many.result (λ p. put_passes (constant_line c.args.number c.args.constant.now) c.args.lines.now.items c.put_constant.new.lines.items c.write_if_many.new.lines.items _ _ c.in-Ok.ensures p) c.write_if_many.ensures.ok

pub returns-in-Ok-clause-stopped : goal.returns-in-Ok-clause-stopped
returns-in-Ok-clause-stopped g c =
    MatchResult-weaker c.write_if_many.result c.write_if_many.ensures.failed (λ x p. p) (λ f failed. write_stops (constant_line c.args.number c.args.constant.now) c.args.lines.now.items _ _ f failed)

pub returns-in-Err-clause-stopped : goal.returns-in-Err-clause-stopped
returns-in-Err-clause-stopped g c = memory_stops (constant_line c.args.number c.args.constant.now) c.args.lines.now.items _
