use Rattle.std.proofs.Common.{arith}
use Rattle.tables.proofs.laws.changes_reach_all.Goals as goal

pub returns : goal.returns
returns c = λ h act answer v w all. λ part inside. all.turned part (omega arith) inside
