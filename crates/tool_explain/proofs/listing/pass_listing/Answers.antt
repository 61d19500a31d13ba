use Rattle.std.proofs.Common.{◌≡◌, rules}
use Rattle.std.proofs.lemmas.Result.{IfErr-weaker, on_ok_weaker}
use Rattle.tool_explain.specs.Listing.{body_lines, rest_of_listing}
use Rattle.tool_explain.proofs.PassingLemmas.{both_pass, first_stops, second_stops}
use Rattle.tool_explain.proofs.listing.pass_listing.Goals as goal

pub returns-in-Ok-clause-ok : goal.returns-in-Ok-clause-ok
returns-in-Ok-clause-ok g c =
    let constants : c.constants.result.now ≡ c.args.code.now.constants = search rules in
    let instructions : c.instructions.result.now ≡ c.args.code.now.instructions = search rules in
    let first = rw (constants, instructions) at c.in-Ok.ensures.ok in
    on_ok_weaker c.pass_rest.result (λ p. both_pass (body_lines c.args.variables.now c.args.code.now.constants c.args.code.now.instructions) (rest_of_listing c.args.variables.now c.args.code.now) c.args.lines.now.items c.pass_instructions.new.lines.items c.pass_rest.new.lines.items _ _ _ first p) c.pass_rest.ensures.ok

pub returns-in-Ok-clause-stopped : goal.returns-in-Ok-clause-stopped
returns-in-Ok-clause-stopped g c =
    let constants : c.constants.result.now ≡ c.args.code.now.constants = search rules in
    let instructions : c.instructions.result.now ≡ c.args.code.now.instructions = search rules in
    let first = rw (constants, instructions) at c.in-Ok.ensures.ok in
    IfErr-weaker c.pass_rest.result _ _ (λ f s. second_stops (body_lines c.args.variables.now c.args.code.now.constants c.args.code.now.instructions) (rest_of_listing c.args.variables.now c.args.code.now) c.args.lines.now.items c.pass_instructions.new.lines.items _ _ _ f first s) c.pass_rest.ensures.stopped

pub returns-in-Err-clause-stopped : goal.returns-in-Err-clause-stopped
returns-in-Err-clause-stopped g c =
    let constants : c.constants.result.now ≡ c.args.code.now.constants = search rules in
    let instructions : c.instructions.result.now ≡ c.args.code.now.instructions = search rules in
    let stops = rw (constants, instructions) at c.in-Err.ensures.stopped in
    first_stops (body_lines c.args.variables.now c.args.code.now.constants c.args.code.now.instructions) (rest_of_listing c.args.variables.now c.args.code.now) c.args.lines.now.items _ _ c.in-Err.fault stops
