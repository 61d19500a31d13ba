use Rattle.std.proofs.lemmas.Result.{IfErr-weaker, on_ok_weaker}
use Rattle.tool_explain.specs.Listing.{body_lines, heading, routine_text}
use Rattle.tool_explain.proofs.PassingLemmas.{after_put, memory_stops, put_stops}
use Rattle.tool_explain.proofs.listing.pass_routine.Goals as goal

pub returns-in-Ok-clause-ok : goal.returns-in-Ok-clause-ok
returns-in-Ok-clause-ok g c =
    let body = body_lines c.args.variables.now c.args.constants.now c.args.routine.now.body.instructions in
    let passes = rw c.instructions.ensures at c.pass_instructions.ensures.ok in
    on_ok_weaker c.pass_instructions.result (λ p. after_put (heading c.args.number c.args.routine.now) body c.args.lines.now.items c.put_heading.new.lines.items c.pass_instructions.new.lines.items _ _ c.in-Ok.ensures p) passes

pub returns-in-Ok-clause-stopped : goal.returns-in-Ok-clause-stopped
returns-in-Ok-clause-stopped g c =
    let body = body_lines c.args.variables.now c.args.constants.now c.args.routine.now.body.instructions in
    let stops = rw c.instructions.ensures at c.pass_instructions.ensures.stopped in
    IfErr-weaker c.pass_instructions.result _ _ (λ f s. put_stops (heading c.args.number c.args.routine.now) body c.args.lines.now.items c.put_heading.new.lines.items _ _ f c.in-Ok.ensures s) stops

pub returns-in-Err-clause-stopped : goal.returns-in-Err-clause-stopped
returns-in-Err-clause-stopped g c =
    memory_stops (routine_text c.args.variables.now c.args.constants.now c.args.number c.args.routine.now) c.args.lines.now.items _
