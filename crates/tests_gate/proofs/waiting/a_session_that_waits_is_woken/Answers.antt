use denote.Param.Send.{sendable}
use Rattle.part_plain.proofs.SendLemmas.{plain_part_send}
use Rattle.tests_gate.proofs.waiting.a_session_that_waits_is_woken.Goals as goal

pub is_woken-by_a_reply-requires-send-P : goal.is_woken-by_a_reply-requires-send-P
is_woken-by_a_reply-requires-send-P g c κs = search (sendable, plain_part_send) depth 40

pub is_woken-by_an_error-requires-send-P : goal.is_woken-by_an_error-requires-send-P
is_woken-by_an_error-requires-send-P g c κs = search (sendable, plain_part_send) depth 40
