use Rattle.std.proofs.Common.{length}
use Rattle.kit_members.proofs.members.+put_all.Given as goal

abbrev pub decreases-put_all : goal.decreases-put_all
decreases-put_all g l = length l.sessions.now
