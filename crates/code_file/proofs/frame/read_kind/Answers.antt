use Rattle.std.proofs.Common.{arith}
use Rattle.std.proofs.lemmas.Result.{err_from_is_err_and}
use Rattle.code_file.proofs.FrameLemmas.{kind_short, kind_short_size, kind_unnamed}
use Rattle.code_file.proofs.frame.read_kind.Goals as goal

pub returns-in_err-tag : goal.returns-in_err-tag
returns-in_err-tag c =
    let p = err_from_is_err_and c.from_residual.result c.from_residual.ensures.1 in
    rw (p.1, p.2) (kind_short c.args.bytes.now _ c.in_err-tag.ensures)

pub returns-in_err-size-in-5 : goal.returns-in_err-size-in-5
returns-in_err-size-in-5 c =
    let p = err_from_is_err_and c.from_residual-in_err-size-in-5.result c.from_residual-in_err-size-in-5.ensures.1 in
    rw (p.1, p.2) (kind_short_size c.args.bytes.now c.in_ok-tag.tag c.in_ok-tag.rest.now _ c.in_ok-tag.ensures c.in-5.is c.in_err-size-in-5.ensures)

pub returns-in_default : goal.returns-in_default
returns-in_default c = kind_unnamed c.args.bytes.now c.in_ok-tag.tag c.in_ok-tag.rest.now c.in_ok-tag.ensures (omega arith) (omega arith) (omega arith) (omega arith) (omega arith)
