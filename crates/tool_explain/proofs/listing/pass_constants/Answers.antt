use Rattle.std.proofs.Common.{◌+◌, refl}
use Rattle.std.proofs.Math.Numerals.{add-one}
use Rattle.tool_explain.specs.Listing.{constant_line}
use Rattle.tool_explain.proofs.PassingLemmas.{numbered_passes, numbered_stops}
use Rattle.tool_explain.proofs.listing.pass_constants.Goals as goal

pub loop-place-init : goal.loop-place-init
loop-place-init g c = λ whole left start h. h

pub loop-place-preserved : goal.loop-place-preserved
loop-place-preserved g c = λ whole left start h.
    let place = c.loop-place.place in
    numbered_passes (constant_line) c.args.constants.now place place (place + 1) c.index-constants-place.result c.index-constants-place.result whole left _ _ start _ _ c.loop-place-test.true c.index-constants-place.is (add-one place) c.in-Ok.ensures.ok (c.loop-place.invariant whole left start h)

pub returns-in-Err-clause-stopped : goal.returns-in-Err-clause-stopped
returns-in-Err-clause-stopped g c = λ whole left start h.
    let place = c.loop-place.place in
    numbered_stops (constant_line) c.args.constants.now place place c.index-constants-place.result c.index-constants-place.result whole left _ start _ _ c.in-Err.fault c.loop-place-test.true c.index-constants-place.is c.in-Err.ensures.stopped (c.loop-place.invariant whole left start h)
