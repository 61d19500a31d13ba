use Rattle.std.proofs.lemmas.Result.{err_from_is_err_and}
use Rattle.code_file.proofs.InstructionLemmas.{opcode_short, opcode_unnamed}
use Rattle.code_file.proofs.instr.read_opcode.Goals as goal

pub returns-in_err-byte : goal.returns-in_err-byte
returns-in_err-byte c =
    let p = err_from_is_err_and c.from_residual.result c.from_residual.ensures.1 in
    rw (p.1, p.2) (opcode_short c.args.most c.args.bytes.now _ c.in_err-byte.ensures)

pub returns-in-None : goal.returns-in-None
returns-in-None c = opcode_unnamed c.args.most c.args.bytes.now c.in_ok-byte.byte c.in_ok-byte.rest.now c.in_ok-byte.ensures c.in-None.ensures
