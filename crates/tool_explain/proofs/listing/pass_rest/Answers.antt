use Rattle.std.proofs.Common.{◌≡◌, rules}
use Rattle.std.proofs.lemmas.Result.{IfErr-weaker, on_ok_weaker}
use Rattle.tool_explain.specs.Listing.{numbered, routine_text, constant_line}
use Rattle.tool_explain.proofs.PassingLemmas.{both_pass, first_stops, second_stops}
use Rattle.tool_explain.proofs.listing.pass_rest.Goals as goal

pub returns-in-Ok-clause-ok : goal.returns-in-Ok-clause-ok
returns-in-Ok-clause-ok g c =
    let constants : c.constants-constants.result.now ≡ c.args.code.now.constants = search rules in
    let routines : c.routines.result.now ≡ c.args.code.now.around.routines = search rules in
    let first = rw (constants, routines) at c.in-Ok.ensures.ok in
    let then = rw constants at c.pass_constants.ensures.ok in
    on_ok_weaker c.pass_constants.result (λ p. both_pass (numbered (routine_text c.args.variables.now c.args.code.now.constants) 1 c.args.code.now.around.routines) (numbered constant_line 0 c.args.code.now.constants) c.args.lines.now.items c.pass_routines.new.lines.items c.pass_constants.new.lines.items _ _ _ first p) then

pub returns-in-Ok-clause-stopped : goal.returns-in-Ok-clause-stopped
returns-in-Ok-clause-stopped g c =
    let constants : c.constants-constants.result.now ≡ c.args.code.now.constants = search rules in
    let routines : c.routines.result.now ≡ c.args.code.now.around.routines = search rules in
    let first = rw (constants, routines) at c.in-Ok.ensures.ok in
    let then = rw constants at c.pass_constants.ensures.stopped in
    IfErr-weaker c.pass_constants.result _ _ (λ f s. second_stops (numbered (routine_text c.args.variables.now c.args.code.now.constants) 1 c.args.code.now.around.routines) (numbered constant_line 0 c.args.code.now.constants) c.args.lines.now.items c.pass_routines.new.lines.items _ _ _ f first s) then

pub returns-in-Err-clause-stopped : goal.returns-in-Err-clause-stopped
returns-in-Err-clause-stopped g c =
    let constants : c.constants-constants.result.now ≡ c.args.code.now.constants = search rules in
    let routines : c.routines.result.now ≡ c.args.code.now.around.routines = search rules in
    let stops = rw (constants, routines) at c.in-Err.ensures.stopped in
    first_stops (numbered (routine_text c.args.variables.now c.args.code.now.constants) 1 c.args.code.now.around.routines) (numbered constant_line 0 c.args.code.now.constants) c.args.lines.now.items _ _ c.in-Err.fault stops
