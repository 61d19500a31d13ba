use denote.Param.Send.{sendable}
use Rattle.kit_members.proofs.SentLemmas.{refused_part_send}
use Rattle.tests_refusals.proofs.exact.run_over.Goals as goal

pub run_request-status-requires-send-P : goal.run_request-status-requires-send-P
run_request-status-requires-send-P g c κs within = search (sendable, refused_part_send) depth 40
