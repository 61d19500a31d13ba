use Rattle.std.proofs.Common.{arith}
use Rattle.std.proofs.lemmas.Result.{on_ok_weaker}
use Rattle.term_text.proofs.Bytes.{one_digit, two_digits}
use Rattle.term_text.proofs.write.put_small.Goals as goal

pub returns-then-value-lt10-clause-items : goal.returns-then-value-lt10-clause-items
returns-then-value-lt10-clause-items g c = rw (one_digit c.args.value (omega (arith, c.if-value-lt10.true))) c.push.ensures.items

pub returns-clause-items : goal.returns-clause-items
returns-clause-items g c = on_ok_weaker c.push-3.result (λ last. two_digits _ _ _ c.args.value (omega (arith, c.if-value-lt10.false)) (omega (arith, c.requires)) c.in_ok-push.ensures.items last) c.push-3.ensures.items
