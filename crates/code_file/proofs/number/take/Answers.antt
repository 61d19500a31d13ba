use Rattle.code_file.proofs.NumberLemmas.{bytes_short, bytes_read}
use Rattle.code_file.proofs.number.take.Goals as goal

pub returns-then-bytes-count : goal.returns-then-bytes-count
returns-then-bytes-count c = bytes_short c.args.count c.args.bytes.now c.if-bytes-count.true

pub returns : goal.returns
returns c =
    bytes_read c.args.count c.args.bytes.now c.split_at.result.0.now c.split_at.result.1.now c.if-bytes-count.false
    c.split_at.ensures.front c.split_at.ensures.back
