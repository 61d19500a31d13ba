use Rattle.std.proofs.Common.{length, ◌+◌, ◌*◌}
use Rattle.tool_scan.proofs.members.+puts.Given as goal

abbrev pub decreases-put_both-join_mut+arg3 : goal.decreases-put_both-join_mut+arg3
decreases-put_both-join_mut+arg3 g l = 3 * length l.rest.now + 1

abbrev pub decreases-put_both : goal.decreases-put_both
decreases-put_both g l = 3 * length l.rest.now + 2

abbrev pub decreases-put_each : goal.decreases-put_each
decreases-put_each g l = 3 * length l.members.now
