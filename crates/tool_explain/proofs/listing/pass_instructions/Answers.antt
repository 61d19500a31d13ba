use Rattle.std.proofs.Common.{◌+◌, refl}
use Rattle.std.proofs.Math.Numerals.{add-one}
use Rattle.tool_explain.specs.Listing.{instruction_line}
use Rattle.tool_explain.proofs.PassingLemmas.{numbered_passes, numbered_stops}
use Rattle.tool_explain.proofs.listing.pass_instructions.Goals as goal

pub loop-pc-init : goal.loop-pc-init
loop-pc-init g c = λ whole left start h. h

pub loop-pc-preserved : goal.loop-pc-preserved
loop-pc-preserved g c = λ whole left start h.
    let place = c.loop-pc.pc in
    numbered_passes (instruction_line c.args.variables.now c.args.constants.now) c.args.instructions.now place place (place + 1) _ _ whole left _ _ start _ _ c.loop-pc-test.true refl (add-one place) c.in-Ok.ensures.ok (c.loop-pc.invariant whole left start h)

pub returns-in-Err-clause-stopped : goal.returns-in-Err-clause-stopped
returns-in-Err-clause-stopped g c = λ whole left start h.
    let place = c.loop-pc.pc in
    numbered_stops (instruction_line c.args.variables.now c.args.constants.now) c.args.instructions.now place place _ _ whole left _ start _ _ c.in-Err.fault c.loop-pc-test.true refl c.in-Err.ensures.stopped (c.loop-pc.invariant whole left start h)
