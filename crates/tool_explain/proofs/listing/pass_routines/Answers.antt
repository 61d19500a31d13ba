use Rattle.std.proofs.Common.{◌+◌}
use Rattle.std.proofs.Math.Numerals.{add-one}
use Rattle.std.proofs.lemmas.List.{drop_all}
use Rattle.tool_explain.specs.Listing.{routine_text}
use Rattle.tool_explain.proofs.PassingLemmas.{numbered_passes, numbered_stops}
use Rattle.tool_explain.proofs.listing.pass_routines.Goals as goal

pub loop-place-init : goal.loop-place-init
loop-place-init g c = λ whole left start h. h

pub loop-place-preserved : goal.loop-place-preserved
loop-place-preserved g c = λ whole left start h.
    let place = c.loop-place.place in
    numbered_passes (routine_text c.args.variables.now c.args.constants.now) c.args.routines.now place (place + 1) ((place + 1) + 1) c.index-routines-place.result c.index-routines-place.result whole left _ _ start _ _ c.loop-place-test.true c.index-routines-place.is (add-one (place + 1)) c.in-Ok.ensures.ok (c.loop-place.invariant whole left start h)

pub returns-in-Err-clause-stopped : goal.returns-in-Err-clause-stopped
returns-in-Err-clause-stopped g c = λ whole left start h.
    let place = c.loop-place.place in
    numbered_stops (routine_text c.args.variables.now c.args.constants.now) c.args.routines.now place (place + 1) c.index-routines-place.result c.index-routines-place.result whole left _ start _ _ c.in-Err.fault c.loop-place-test.true c.index-routines-place.is c.in-Err.ensures.stopped (c.loop-place.invariant whole left start h)

pub returns-clause-ok : goal.returns-clause-ok
returns-clause-ok g c = λ whole left start h.
    let none = drop_all c.loop-place.place c.args.routines.now c.loop-place-test.false in
    rw none at (c.loop-place.invariant whole left start h)
