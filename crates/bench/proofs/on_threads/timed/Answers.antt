use denote.Param.Send.{sendable}
use Rattle.part_hash.proofs.SendLemmas.{hash_part_send}
use Rattle.bench.proofs.on_threads.timed.Goals as goal

pub round-requires-send-P : goal.round-requires-send-P
round-requires-send-P g c κs within = search (sendable, hash_part_send) depth 40
