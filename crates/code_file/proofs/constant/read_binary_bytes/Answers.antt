use Rattle.std.proofs.lemmas.Result.{err_from_is_err_and}
use Rattle.code_file.proofs.LeafLemmas.{binary_short_size, binary_too_long, binary_short}
use Rattle.code_file.proofs.constant.read_binary_bytes.Goals as goal

pub returns-in_err-count : goal.returns-in_err-count
returns-in_err-count c =
    let p = err_from_is_err_and c.from_residual.result c.from_residual.ensures.1 in
    rw (p.1, p.2) (binary_short_size c.args.bytes.now _ c.in_err-count.ensures)

pub returns-then-count-gt-MAX_BINARY : goal.returns-then-count-gt-MAX_BINARY
returns-then-count-gt-MAX_BINARY c = binary_too_long c.args.bytes.now c.in_ok-count.count c.in_ok-count.behind.now c.in_ok-count.ensures c.if-count-gt-MAX_BINARY.true

pub returns-in_err-content : goal.returns-in_err-content
returns-in_err-content c =
    let p = err_from_is_err_and c.from_residual-in_err-content.result c.from_residual-in_err-content.ensures.1 in
    rw (p.1, p.2) (binary_short c.args.bytes.now c.in_ok-count.count c.in_ok-count.behind.now _ c.in_ok-count.ensures c.if-count-gt-MAX_BINARY.false c.in_err-content.ensures)
