use denote.Param.Send.{sendable}
use Rattle.part_hash.proofs.SendLemmas.{hash_part_send}
use Rattle.tests_walks.proofs.selections.members_work_side_by_side.Goals as goal

pub work_side_by_side-requires-send-P : goal.work_side_by_side-requires-send-P
work_side_by_side-requires-send-P g c κs = search (sendable, hash_part_send) depth 40

pub work_side_by_side-requires-2-send-P : goal.work_side_by_side-requires-2-send-P
work_side_by_side-requires-2-send-P g c κs = search (sendable, hash_part_send) depth 40

pub work_side_by_side-requires-3-send-P : goal.work_side_by_side-requires-3-send-P
work_side_by_side-requires-3-send-P g c κs = search (sendable, hash_part_send) depth 40
