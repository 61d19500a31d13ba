use Rattle.std.proofs.lemmas.Result.{on_ok_weaker}
use Rattle.mcode.specs.Frame.{frame_of}
use Rattle.code_writer.proofs.WriteLemmas.{four, frame_written}
use Rattle.code_writer.proofs.frame.put_frame.Goals as goal

pub returns-clause-bytes : goal.returns-clause-bytes
returns-clause-bytes g c =
    on_ok_weaker c.put_slots.result
    (λ last. frame_written (frame_of c.args.frame.now) _ _ _ _ c.as_slice.ensures c.as_slice-2.ensures (four _ _ _ _ _ _ _ _ _ c.in_ok-put_u16.ensures c.in_ok-put_u16-2.ensures c.in_ok-put_places.ensures.bytes last))
    c.put_slots.ensures.bytes
