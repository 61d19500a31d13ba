use Rattle.std.proofs.lemmas.Result.{err_from_is_err_and}
use Rattle.std.proofs.Common.{◌-◌, arith}
use Rattle.code_file.proofs.LevelLemmas.{integer_short}
use Rattle.code_file.proofs.constant.read_integer.Goals as goal

pub returns-in_err-value : goal.returns-in_err-value
returns-in_err-value g c =
    let p = err_from_is_err_and c.from_residual.result c.from_residual.ensures.1 in
    rw (p.1, p.2) (integer_short (c.args.room - 1) c.args.room c.args.bytes.now c.args.rest.now _ (omega arith) c.requires.tag c.in_err-value.ensures)
