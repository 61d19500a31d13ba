use denote.Param.Send.{sendable}
use Rattle.part_hash.proofs.SendLemmas.{hash_part_send}
use Rattle.tests_walks.proofs.selections.members_delete_all_objects.Goals as goal

pub are_deleted-requires-send-P : goal.are_deleted-requires-send-P
are_deleted-requires-send-P g c κs = search (sendable, hash_part_send) depth 40
