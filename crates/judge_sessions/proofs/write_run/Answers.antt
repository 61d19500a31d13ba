use denote.Param.Send.{sendable}
use Rattle.part_hash.proofs.SendLemmas.{hash_part_send}
use Rattle.part_order.proofs.SendLemmas.{order_part_send}
use Rattle.judge_sessions.proofs.write_run.Goals as goal

pub judged-judged-requires-send-P : goal.judged-judged-requires-send-P
judged-judged-requires-send-P g c κs within = search (sendable, order_part_send) depth 40

pub judged-judged-requires-else-is_ordered-send-P : goal.judged-judged-requires-else-is_ordered-send-P
judged-judged-requires-else-is_ordered-send-P g c κs within = search (sendable, hash_part_send) depth 40
