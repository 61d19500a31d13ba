use Rattle.std.proofs.lemmas.Result.{err_from_is_err_and}
use Rattle.code_file.proofs.BodyLemmas.{instructions_stop}
use Rattle.code_file.proofs.body.read_instr_rows.Goals as goal

pub returns-in_err-instr-clause-refused : goal.returns-in_err-instr-clause-refused
returns-in_err-instr-clause-refused g c =
    let p = err_from_is_err_and c.from_residual.result c.from_residual.ensures.1 in
    rw (p.1, p.2) (instructions_stop c.args.most c.args.bytes.now c.loop-read.builder.instructions c.loop-read.rest.now c.loop-read._read c.args.count _ c.loop-read.invariant.0 c.loop-read-test.true c.in_err-instr.ensures)
