use denote.Param.Send.{sendable}
use Rattle.ets.proofs.SendLemmas.{hash_part_send}
use Rattle.example.proofs.threads.write_line.Goals as goal

pub objects_left-requires-send-P : goal.objects_left-requires-send-P
objects_left-requires-send-P g c κs within = search (sendable, hash_part_send) depth 40
