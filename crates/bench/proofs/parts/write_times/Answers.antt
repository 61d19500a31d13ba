use denote.Param.Send.{sendable}
use Rattle.part_hash.proofs.SendLemmas.{hash_part_send}
use Rattle.bench.proofs.parts.write_times.Goals as goal

pub both-requires-send-P : goal.both-requires-send-P
both-requires-send-P g c κs = search (sendable, hash_part_send) depth 40
