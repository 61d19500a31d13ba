use Rattle.std.proofs.Common.{arith}
use Rattle.std.proofs.lemmas.Grind.{common_steps}
use Rattle.prims_table.proofs.NumberLemmas.{function_at}
use Rattle.prims_table.proofs.prim.Function.numbered.Goals as goal

pub returns : goal.returns
returns c =
    function_at c.args.number c.in_ok-place.place c.function_of.result (grind (arith, common_steps)) (grind (arith, common_steps))
