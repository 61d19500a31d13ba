use denote.Param.Send.{sendable}
use Rattle.part_hash.proofs.SendLemmas.{hash_part_send}
use Rattle.tests_gate.proofs.walking.a_walk_outlasts_a_writer_on_a_thread_of_its_own.Goals as goal

pub outlasting-requires-send-P : goal.outlasting-requires-send-P
outlasting-requires-send-P g c κs = search (sendable, hash_part_send) depth 40
