use Rattle.std.proofs.Common.{length, ◌+◌, ◌*◌}
use Rattle.parallel_select.proofs.workers.+tallies.Given as goal

abbrev pub decreases-tally_both-join_mut+arg3 : goal.decreases-tally_both-join_mut+arg3
decreases-tally_both-join_mut+arg3 g l = 3 * length l.rest.now + 1

abbrev pub decreases-tally_both : goal.decreases-tally_both
decreases-tally_both g l = 3 * length l.rest.now + 2

abbrev pub decreases-tally_each : goal.decreases-tally_each
decreases-tally_each g l = 3 * length l.members.now
