use Rattle.std.proofs.Common.{arith}
use Rattle.term_core.proofs.LimitLemmas.{AreBytes-each}
use Rattle.term_core.proofs.term.binary.byte_count.Goals as goal

pub returns-clause-sound : goal.returns-clause-sound
returns-clause-sound c = AreBytes-each c.args.bytes.now (λ i. omega (arith, c.type_inv.bytes i))
