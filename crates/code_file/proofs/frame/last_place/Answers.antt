use Rattle.std.proofs.Common.{refl}
use Rattle.term_order.proofs.KeyLemmas.{last_is}
use Rattle.code_file.proofs.frame.last_place.Goals as goal

pub returns-in-Some : goal.returns-in-Some
returns-in-Some c =
    let end = last_is c.args.places.now c.in-Some.last.now c.in-Some.ensures.value in
    (end.0, c.in-Some.last.now, end.1, refl)
