use denote.Param.Send.{sendable}
use Rattle.part_plain.proofs.SendLemmas.{plain_part_send}
use Rattle.tests_gate.proofs.steps.a_session_that_was_not_used_closes_with_all_objects.Goals as goal

pub closed_by_another-requires-send-P : goal.closed_by_another-requires-send-P
closed_by_another-requires-send-P g c κs = search (sendable, plain_part_send) depth 40
