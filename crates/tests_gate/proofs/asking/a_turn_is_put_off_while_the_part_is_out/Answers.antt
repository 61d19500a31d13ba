use denote.Param.Send.{sendable}
use Rattle.part_plain.proofs.SendLemmas.{plain_part_send}
use Rattle.tests_gate.proofs.asking.a_turn_is_put_off_while_the_part_is_out.Goals as goal

pub is_put_off-requires-send-P : goal.is_put_off-requires-send-P
is_put_off-requires-send-P g c κs = search (sendable, plain_part_send) depth 40
