use Rattle.prims.proofs.BitLemmas.{int_bit_and-bits}
use Rattle.prims.proofs.bits.band.Goals as goal

pub returns-clause-bits : goal.returns-clause-bits
returns-clause-bits c = int_bit_and-bits c.args.left c.args.right c.ranges.left c.ranges.right
