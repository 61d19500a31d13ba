use Rattle.std.proofs.Common.{length}
use Rattle.tests_walks.proofs.members.+seat_all.Given as goal

abbrev pub decreases-seat_all : goal.decreases-seat_all
decreases-seat_all g l = length l.sessions.now
