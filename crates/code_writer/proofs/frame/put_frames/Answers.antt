use Rattle.std.proofs.Common.{arith, sym, subst}
use Rattle.mcode.specs.Frame.{frame_of}
use Rattle.mcode.specs.Program.{IsFrame}
use Rattle.code_writer.specs.Spelling.{frame_bytes}
use Rattle.code_writer.specs.File.{HoldsFrame}
use Rattle.code_writer.proofs.WriteLemmas.{written_next, written_each, seen_at, seen_length}
use Rattle.code_writer.proofs.frame.put_frames.Goals as goal

pub put_frame-requires : goal.put_frame-requires
put_frame-requires g c =
    subst IsFrame (sym (seen_at frame_of c.args.frames.now c.loop-frame.frame-index c.frame-item.result c.loop-frame-test.true c.frame-item.is))
    (c.requires.each c.loop-frame.frame-index (frame_of c.frame-item.result) (omega (arith, c.loop-frame-test.true, seen_length frame_of c.args.frames.now)))

pub loop-frame-preserved : goal.loop-frame-preserved
loop-frame-preserved g c =
    written_next frame_bytes HoldsFrame _ c.loop-frame.frame-index _ _ _ _ c.loop-frame.invariant (omega (arith, c.loop-frame-test.true, seen_length frame_of c.args.frames.now))
    (seen_at frame_of c.args.frames.now c.loop-frame.frame-index c.frame-item.result c.loop-frame-test.true c.frame-item.is) c.in_ok-put_frame.ensures.bytes c.in_ok-put_frame.ensures.held

pub returns-clause-held : goal.returns-clause-held
returns-clause-held g c = written_each frame_bytes HoldsFrame _ c.loop-frame.frame-index _ _ c.loop-frame.invariant (omega (arith, c.loop-frame-test.false, seen_length frame_of c.args.frames.now))
