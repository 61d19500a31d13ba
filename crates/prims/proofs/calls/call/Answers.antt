use Rattle.std.proofs.Common.{map, arith}
use Rattle.std.proofs.lemmas.Grind.{common_steps}
use Rattle.term_operand.specs.Operand.{operand_datum}
use Rattle.prims.proofs.GivenLemmas.{given_result}
use Rattle.prims.proofs.calls.call.Goals as goal

pub returns-in-Function-clause-kind : goal.returns-in-Function-clause-kind
returns-in-Function-clause-kind g c =
    given_result c.of_any.result c.args.prim (map operand_datum c.args.operands.now) (grind (arith, common_steps))
