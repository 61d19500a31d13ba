use Rattle.std.proofs.Common.{arith}
use Rattle.code_file.proofs.NumberLemmas.{u16_short, u16_read}
use Rattle.code_file.proofs.number.read_u16.Goals as goal

pub returns-then-bytes-lt2 : goal.returns-then-bytes-lt2
returns-then-bytes-lt2 c = u16_short c.args.bytes.now c.if-bytes-lt2.true

pub returns : goal.returns
returns c =
    u16_read c.args.bytes.now c.split_at.result.0.now c.split_at.result.1.now c.read_u16.result (λ i. omega (arith, c.type_inv.bytes i)) c.if-bytes-lt2.false
    c.split_at.ensures.front c.split_at.ensures.back c.read_u16.ensures
