use denote.Param.Send.{sendable}
use Rattle.kit_members.proofs.SentLemmas.{refused_part_send}
use Rattle.tests_refusals.proofs.scans.is_right.Goals as goal

pub tool_scan-ended-requires-send-P : goal.tool_scan-ended-requires-send-P
tool_scan-ended-requires-send-P g c κs within = search (sendable, refused_part_send) depth 40
