use Rattle.std.proofs.Common.{map}
use Rattle.mcode.specs.Frame.{frame_of}
use Rattle.code_writer.specs.Spelling.{frame_bytes}
use Rattle.code_writer.specs.File.{HoldsFrame}
use Rattle.code_writer.proofs.WriteLemmas.{IsWritten}
use Rattle.code_writer.proofs.frame.put_frames.Given as goal

abbrev pub invariant-loop-frame : goal.invariant-loop-frame
invariant-loop-frame g l = IsWritten frame_bytes HoldsFrame (map frame_of l.frames) l.frame-index l.initial.out.items l.out.items
