use Rattle.std.proofs.Common.{arith}
use Rattle.std.proofs.lemmas.Grind.{common_steps}
use Rattle.code_writer.proofs.OpcodeLemmas.{opcode_at}
use Rattle.code_writer.proofs.opcode.Opcode.numbered.Goals as goal

pub returns : goal.returns
returns c =
    opcode_at c.args.number c.in_ok-place.place c.at.result (grind (arith, common_steps)) (grind (arith, common_steps))
