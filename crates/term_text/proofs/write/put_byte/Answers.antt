use Rattle.std.proofs.Common.{arith}
use Rattle.std.proofs.lemmas.Result.{on_ok_weaker}
use Rattle.term_text.proofs.Bytes.{digits_more}
use Rattle.term_text.proofs.write.put_byte.Goals as goal

pub returns-clause-items : goal.returns-clause-items
returns-clause-items g c = on_ok_weaker c.push.result (λ last. digits_more _ _ _ c.args.byte (omega (arith, c.if-byte-lt100.false)) (omega arith) c.in_ok-put_small.ensures.items last) c.push.ensures.items
