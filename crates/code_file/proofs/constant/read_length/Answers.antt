use Rattle.std.proofs.lemmas.Result.{err_from_is_err_and}
use Rattle.code_file.proofs.LeafLemmas.{length_short, length_none, length_too_long}
use Rattle.code_file.proofs.constant.read_length.Goals as goal

pub returns-in_err-count : goal.returns-in_err-count
returns-in_err-count c =
    let p = err_from_is_err_and c.from_residual.result c.from_residual.ensures.1 in
    rw (p.1, p.2) (length_short c.args.bytes.now _ c.in_err-count.ensures)

pub returns-then-count-eq0 : goal.returns-then-count-eq0
returns-then-count-eq0 c = length_none c.args.bytes.now c.in_ok-count.count c.in_ok-count.rest.now c.in_ok-count.ensures c.if-count-eq0.true

pub returns-then-count-gt-MAX_LIST : goal.returns-then-count-gt-MAX_LIST
returns-then-count-gt-MAX_LIST c = length_too_long c.args.bytes.now c.in_ok-count.count c.in_ok-count.rest.now c.in_ok-count.ensures c.if-count-gt-MAX_LIST.true
