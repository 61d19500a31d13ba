use denote.Param.Send.{sendable}
use Rattle.part_hash.proofs.SendLemmas.{hash_part_send}
use Rattle.tests_refusals.proofs.streams.status_of.Goals as goal

pub run_request-requires-send-P : goal.run_request-requires-send-P
run_request-requires-send-P g c κs = search (sendable, hash_part_send) depth 40
