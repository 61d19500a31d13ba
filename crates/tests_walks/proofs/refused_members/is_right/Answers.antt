use denote.Param.Send.{sendable}
use Rattle.kit_members.proofs.SentLemmas.{refused_hash_part_send}
use Rattle.tests_walks.proofs.refused_members.is_right.Goals as goal

pub is_right_at-requires-send-P : goal.is_right_at-requires-send-P
is_right_at-requires-send-P g c κs within = search (sendable, refused_hash_part_send) depth 40
