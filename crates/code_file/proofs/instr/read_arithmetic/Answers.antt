use Rattle.std.proofs.lemmas.Result.{err_from_is_err_and}
use Rattle.code_file.proofs.InstructionLemmas.{arithmetic_short, arithmetic_unnamed}
use Rattle.code_file.proofs.instr.read_arithmetic.Goals as goal

pub returns-in_err-byte : goal.returns-in_err-byte
returns-in_err-byte c =
    let p = err_from_is_err_and c.from_residual.result c.from_residual.ensures.1 in
    rw (p.1, p.2) (arithmetic_short 0 c.args.bytes.now _ c.in_err-byte.ensures)

pub returns-in-None : goal.returns-in-None
returns-in-None c = arithmetic_unnamed 0 c.args.bytes.now c.in_ok-byte.byte c.in_ok-byte.rest.now c.in_ok-byte.ensures c.in-None.ensures
