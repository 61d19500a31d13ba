use denote.Param.Send.{sendable}
use Rattle.kit_members.proofs.SentLemmas.{refused_hash_part_send}
use Rattle.kit_members.proofs.sending.hashed_parts_may_be_sent.Goals as goal

pub may_be_sent-requires-send-T : goal.may_be_sent-requires-send-T
may_be_sent-requires-send-T c κs within = search (sendable, refused_hash_part_send) depth 40
