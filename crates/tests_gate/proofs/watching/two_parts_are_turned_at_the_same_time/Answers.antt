use denote.Param.Send.{sendable}
use Rattle.part_plain.proofs.SendLemmas.{plain_part_send}
use Rattle.tests_gate.proofs.watching.two_parts_are_turned_at_the_same_time.Goals as goal

pub have_met-requires-send-P : goal.have_met-requires-send-P
have_met-requires-send-P g c κs = search (sendable, plain_part_send) depth 40
