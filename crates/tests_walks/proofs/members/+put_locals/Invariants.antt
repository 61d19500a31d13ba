use Rattle.std.proofs.Common.{length}
use Rattle.tests_walks.proofs.members.+put_locals.Given as goal

abbrev pub decreases-put_locals : goal.decreases-put_locals
decreases-put_locals g l = length l.tables.now
