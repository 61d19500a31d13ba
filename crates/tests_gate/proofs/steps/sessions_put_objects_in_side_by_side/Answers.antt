use denote.Param.Send.{sendable}
use Rattle.part_plain.proofs.SendLemmas.{plain_part_send}
use Rattle.tests_gate.proofs.steps.sessions_put_objects_in_side_by_side.Goals as goal

pub side_by_side-requires-send-P : goal.side_by_side-requires-send-P
side_by_side-requires-send-P g c κs = search (sendable, plain_part_send) depth 40
