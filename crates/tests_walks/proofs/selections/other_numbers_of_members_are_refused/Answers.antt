use denote.Param.Send.{sendable}
use Rattle.part_hash.proofs.SendLemmas.{hash_part_send}
use Rattle.tests_walks.proofs.selections.other_numbers_of_members_are_refused.Goals as goal

pub is_refused-is_refused_for_none-requires-send-P : goal.is_refused-is_refused_for_none-requires-send-P
is_refused-is_refused_for_none-requires-send-P g c κs = search (sendable, hash_part_send) depth 40

pub is_refused-is_refused_for_many-requires-send-P : goal.is_refused-is_refused_for_many-requires-send-P
is_refused-is_refused_for_many-requires-send-P g c κs = search (sendable, hash_part_send) depth 40
