use Rattle.std.proofs.Common.{arith}
use Rattle.mcode.specs.Frame.{frame_of}
use Rattle.verifier_types.proofs.FrameLemmas.{frame_found}
use Rattle.verifier.proofs.pass.begin.Goals as goal

pub falls_below-requires : goal.falls_below-requires
falls_below-requires g c =
    (frame_found c.args.body.now c.args.pc (frame_of c.in-Some.frame.now) c.in-Some.ensures.within c.requires.frames c.in-Some.ensures.value).kept

pub enter-requires-clause-places : goal.enter-requires-clause-places
enter-requires-clause-places g c =
    (frame_found c.args.body.now c.args.pc (frame_of c.in-Some.frame.now) c.in-Some.ensures.within c.requires.frames c.in-Some.ensures.value).kept

pub enter-requires-clause-slots : goal.enter-requires-clause-slots
enter-requires-clause-slots g c k d inside =
    let found = frame_found c.args.body.now c.args.pc (frame_of c.in-Some.frame.now) c.in-Some.ensures.within c.requires.frames c.in-Some.ensures.value in
    omega (arith, found.slots k d inside, c.requires.slots)
