use Rattle.std.proofs.Common.{length, ◌+◌, ◌*◌}
use Rattle.parallel_select.proofs.workers.+answers.Given as goal

abbrev pub decreases-answer_both-join_mut+arg3 : goal.decreases-answer_both-join_mut+arg3
decreases-answer_both-join_mut+arg3 g l = 3 * length l.rest.now + 1

abbrev pub decreases-answer_both : goal.decreases-answer_both
decreases-answer_both g l = 3 * length l.rest.now + 2

abbrev pub decreases-answer_each : goal.decreases-answer_each
decreases-answer_each g l = 3 * length l.members.now
