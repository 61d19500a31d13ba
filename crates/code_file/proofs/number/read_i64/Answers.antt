use Rattle.std.proofs.Common.{arith, w64}
use Rattle.std.proofs.lemmas.Int.{to_z-of_z}
use Rattle.code_file.proofs.NumberLemmas.{i64_short, i64_read}
use Rattle.code_file.proofs.number.read_i64.Goals as goal

pub returns-then-bytes-lt8 : goal.returns-then-bytes-lt8
returns-then-bytes-lt8 c = i64_short c.args.bytes.now c.if-bytes-lt8.true

pub returns : goal.returns
returns c =
    let read = i64_read c.args.bytes.now c.split_at.result.0.now c.split_at.result.1.now c.read_i64.result (λ i. omega (arith, c.type_inv.bytes i)) c.if-bytes-lt8.false
    c.split_at.ensures.front c.split_at.ensures.back c.read_i64.ensures in
    rw (to_z-of_z w64 c.read_i64.result read.fits) read
