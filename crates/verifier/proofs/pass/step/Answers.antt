use Rattle.std.proofs.Common.{inr}
use Rattle.std.proofs.lemmas.Result.{err_from_is_err_and}
use Rattle.mcode.specs.Program.{frame_at}
use Rattle.verifier.proofs.PassLemmas.{slots_begun, walked_more, unbegun, untyped}
use Rattle.verifier.proofs.pass.step.Goals as goal

pub returns-in_err-begin-clause-fault : goal.returns-in_err-begin-clause-fault
returns-in_err-begin-clause-fault g c =
    let p = err_from_is_err_and c.from_residual.result c.from_residual.ensures.1 in
    rw (p.1, p.2) (unbegun c.args.body.now c.args.behind.now c.args.pc c.args.walk.now.falls c.args.walk.now.shape c.args.walk.now.depths.items c.args.walk.now.own c.args.walk.now.inner c.in_err-begin.field-0.0 c.requires.frames c.requires.inside c.requires.walked c.in_err-begin.ensures.fault)

pub returns-in_err-needed-clause-fault : goal.returns-in_err-needed-clause-fault
returns-in_err-needed-clause-fault g c =
    let p = err_from_is_err_and c.from_residual-in_err-needed.result c.from_residual-in_err-needed.ensures.1 in
    rw (p.1, p.2) (inr (untyped c.args.body.now c.args.behind.now c.args.pc c.args.walk.now.falls c.args.walk.now.shape c.begin.new.shape c.args.walk.now.depths.items c.args.walk.now.own c.args.walk.now.inner _ c.in_err-needed.field-0.0 c.requires.frames c.requires.walked c.instr_at-instr.ensures c.in_ok-begin.ensures.begins c.in_err-needed.ensures.fault))

pub leave-requires-clause-slots : goal.leave-requires-clause-slots
leave-requires-clause-slots g c =
    slots_begun c.args.body.now c.args.walk.now.shape c.begin.new.shape c.args.walk.now.falls (frame_at c.args.body.now.frames c.args.pc) c.requires.walked.slots c.in_ok-begin.ensures.begins

pub returns-clause-typed : goal.returns-clause-typed
returns-clause-typed g c =
    walked_more c.args.body.now c.args.behind.now c.args.pc c.args.walk.now.falls c.args.walk.now.shape c.begin.new.shape c.leave.new.shape c.args.walk.now.depths.items c.note.new.depths.items c.args.walk.now.own c.args.walk.now.inner c.depth-before.result c.depth.result c.inner_depth.result c.greatest-walk.result c.deeper-walk.result _ c.goes_on-walk.result
    c.requires.walked c.instr_at-instr.ensures c.in_ok-begin.ensures.begins c.in_ok-needed.ensures.fit c.in_ok-needed.ensures.inner c.inner_depth.ensures c.deeper-walk.ensures c.depth-before.ensures c.in_ok-note.ensures c.in_ok-leave.ensures c.depth.ensures c.greatest-walk.ensures c.goes_on-walk.ensures
