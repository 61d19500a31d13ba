use Rattle.mcode.specs.Frame.{frame_of}
use Rattle.verifier_types.proofs.FrameLemmas.{frame_found}
use Rattle.verifier_types.proofs.checks.is_jump_fit.Goals as goal

pub is_cut_below-requires-clause-frame : goal.is_cut_below-requires-clause-frame
is_cut_below-requires-clause-frame g c =
    (frame_found c.args.body.now c.in-Some.target (frame_of c.in-Some-frame_at.frame.now) c.in-Some-frame_at.ensures.within c.requires.frames c.in-Some-frame_at.ensures.value).kept
