-- The frames so far are fit.
use Rattle.std.specs.Prelude.{All, map, take}
use Rattle.mcode.specs.Frame.{frame_of}
use Rattle.verifier_types.specs.Fit.{IsFrameFit}
use Rattle.verifier.proofs.verification.check_frames.Given as goal

abbrev pub invariant-loop-frame : goal.invariant-loop-frame
invariant-loop-frame g l = All (IsFrameFit l.body) (take l.frame-index (map frame_of l.frames))
