use Rattle.std.proofs.Common.{arith}
use Rattle.std.proofs.lemmas.Grind.{common_steps}
use Rattle.prims_table.proofs.NumberLemmas.{arithmetic_at}
use Rattle.prims_table.proofs.prim.Arithmetic.numbered.Goals as goal

pub returns : goal.returns
returns c =
    arithmetic_at c.args.number c.in_ok-place.place c.arithmetic_of.result (grind (arith, common_steps)) (grind (arith, common_steps))
