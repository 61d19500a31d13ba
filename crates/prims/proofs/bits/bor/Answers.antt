use Rattle.prims.proofs.BitLemmas.{int_bit_or-bits}
use Rattle.prims.proofs.bits.bor.Goals as goal

pub returns-clause-bits : goal.returns-clause-bits
returns-clause-bits c = int_bit_or-bits c.args.left c.args.right c.ranges.left c.ranges.right
