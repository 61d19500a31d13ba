use denote.Param.Send.{sendable}
use Rattle.part_plain.proofs.SendLemmas.{plain_part_send}
use Rattle.tests_refusals.proofs.scans.refused.Goals as goal

pub tool_scan-ended-requires-send-P : goal.tool_scan-ended-requires-send-P
tool_scan-ended-requires-send-P g c κs within = search (sendable, plain_part_send) depth 40
