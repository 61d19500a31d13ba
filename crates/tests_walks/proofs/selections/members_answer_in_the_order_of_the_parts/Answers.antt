use denote.Param.Send.{sendable}
use Rattle.part_hash.proofs.SendLemmas.{hash_part_send}
use Rattle.tests_walks.proofs.selections.members_answer_in_the_order_of_the_parts.Goals as goal

pub comes_to-is_right-requires-send-P : goal.comes_to-is_right-requires-send-P
comes_to-is_right-requires-send-P g c κs = search (sendable, hash_part_send) depth 40
