use denote.Param.Send.{sendable}
use Rattle.part_plain.proofs.SendLemmas.{plain_part_send}
use Rattle.part_plain.proofs.laws.plain_parts_may_be_sent.Goals as goal

pub may_be_sent-requires-send-T : goal.may_be_sent-requires-send-T
may_be_sent-requires-send-T c κs = search (sendable, plain_part_send) depth 40
