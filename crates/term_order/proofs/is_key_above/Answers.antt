use Rattle.term_order.proofs.KeyLemmas.{last_is, key_above}
use Rattle.term_order.proofs.is_key_above.Goals as goal

pub returns-in-Some : goal.returns-in-Some
returns-in-Some g c =
    let end = last_is c.args.before.now c.in-Some.last.now c.in-Some.ensures.value in
    key_above c.args.before.now end.0 c.in-Some.last.now c.args.key.now c.lt.result end.1 c.lt.ensures
