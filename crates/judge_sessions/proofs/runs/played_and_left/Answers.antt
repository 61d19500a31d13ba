use denote.Param.Send.{sendable}
use Rattle.part_hash.proofs.SendLemmas.{hash_part_send}
use Rattle.judge_sessions.proofs.runs.played_and_left.Goals as goal

pub played_alone-worker-requires-send-Q : goal.played_alone-worker-requires-send-Q
played_alone-worker-requires-send-Q g c κs within = search (sendable, hash_part_send) depth 40
