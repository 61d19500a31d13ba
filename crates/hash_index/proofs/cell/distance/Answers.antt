use Rattle.std.proofs.Common.{arith}
use Rattle.hash_index.proofs.Distances.{apart}
use Rattle.hash_index.proofs.cell.distance.Goals as goal

pub returns-then-from-to : goal.returns-then-from-to
returns-then-from-to c = omega (arith, apart c.args.count c.args.from c.args.to c.requires.from)

pub returns-else-from-to : goal.returns-else-from-to
returns-else-from-to c = omega (arith, apart c.args.count c.args.from c.args.to c.requires.from)
