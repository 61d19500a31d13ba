use Rattle.term_text.proofs.Bytes.{marked, past_shown}
use Rattle.term_text.proofs.write.put_shown.Goals as goal

pub returns-clause-items : goal.returns-clause-items
returns-clause-items g c = marked _ c.args.bytes.now _ _ _ c.loop-byte.invariant.1 (past_shown _ c.loop-byte.byte-index c.loop-byte-test.false) c.in_ok-push-2.ensures.items
