use Rattle.std.proofs.lemmas.Result.{err_from_is_err_and}
use Rattle.std.proofs.Common.{◌-◌, arith}
use Rattle.code_file.proofs.LevelLemmas.{content_stop}
use Rattle.code_file.proofs.constant.read_binary.Goals as goal

pub returns-in_err-content : goal.returns-in_err-content
returns-in_err-content g c =
    let p = err_from_is_err_and c.from_residual.result c.from_residual.ensures.1 in
    rw (p.1, p.2) (content_stop (c.args.room - 1) c.args.room c.args.bytes.now c.args.rest.now _ (omega arith) c.requires.tag c.in_err-content.ensures)
