use Rattle.std.proofs.Common.{arith}
use Rattle.code_file.proofs.NumberLemmas.{u32_short, u32_read}
use Rattle.code_file.proofs.number.read_u32.Goals as goal

pub returns-then-bytes-lt4 : goal.returns-then-bytes-lt4
returns-then-bytes-lt4 c = u32_short c.args.bytes.now c.if-bytes-lt4.true

pub returns : goal.returns
returns c =
    u32_read c.args.bytes.now c.split_at.result.0.now c.split_at.result.1.now c.read_u32.result (λ i. omega (arith, c.type_inv.bytes i)) c.if-bytes-lt4.false
    c.split_at.ensures.front c.split_at.ensures.back c.read_u32.ensures
