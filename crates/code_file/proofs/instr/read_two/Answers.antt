use Rattle.std.proofs.lemmas.Result.{err_from_is_err_and}
use Rattle.code_file.proofs.StopLemmas.{two_second}
use Rattle.code_file.proofs.instr.read_two.Goals as goal

pub returns-in_err-second : goal.returns-in_err-second
returns-in_err-second c =
    let p = err_from_is_err_and c.from_residual-in_err-second.result c.from_residual-in_err-second.ensures.1 in
    rw (p.1, p.2) (two_second c.args.bytes.now c.in_ok-first.first c.in_ok-first.rest.now _ c.in_ok-first.ensures c.in_err-second.ensures)
