use Rattle.std.proofs.Common.{sym, subst, arith}
use Rattle.compiler_clauses.specs.Writable.{AreAmong}
use Rattle.compiler_clauses.proofs.WriteLemmas.{slot_below}
use Rattle.compiler_clauses.proofs.clause.write_slots.Goals as goal

pub overflow_cast-rank : goal.overflow_cast-rank
overflow_cast-rank g c =
    let slots = c.args.slots.now in
    let numbers = c.numbers-number-items.result.now in
    let among = subst (λ ns. AreAmong ns slots) (sym c.numbers-number-items.ensures) c.requires.bound in
    let below = slot_below slots numbers c.loop-number.number-index c.requires.count among c.loop-number-test.true in
    omega (arith, below, c.count_before-rank.ensures)
