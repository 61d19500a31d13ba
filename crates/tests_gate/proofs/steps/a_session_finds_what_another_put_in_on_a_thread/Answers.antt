use denote.Param.Send.{sendable}
use Rattle.part_plain.proofs.SendLemmas.{plain_part_send}
use Rattle.tests_gate.proofs.steps.a_session_finds_what_another_put_in_on_a_thread.Goals as goal

pub in_turn-requires-send-P : goal.in_turn-requires-send-P
in_turn-requires-send-P g c κs = search (sendable, plain_part_send) depth 40
