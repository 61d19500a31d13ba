use Rattle.code_file.proofs.BodyLemmas.{IsFramesSoFar}
use Rattle.code_file.proofs.body.read_frame_rows.Given as goal

abbrev pub invariant-loop-read : goal.invariant-loop-read
invariant-loop-read g l = IsFramesSoFar l.fn.builder l.bytes l.builder l.rest l._read l.last
