use Rattle.std.proofs.Common.{arith, length-append}
use Rattle.term_core.proofs.LimitLemmas.{cells-append}
use Rattle.term_core.proofs.term.prepended.Goals as goal

pub invariant_of-result : goal.invariant_of-result
invariant_of-result g c =
    rw (c.in-Ok.ensures.items, c.in-Some.ensures.value, cells-append)
    (c.requires.within, (c.requires.depth, simp length-append (omega (arith, c.requires.some)), c.requires.list.2))

pub invariant_of-result-in-Err : goal.invariant_of-result-in-Err
invariant_of-result-in-Err g c =
    rw (c.in-Err.ensures.other_items, c.in-Some.ensures.value) (c.requires.list_within, c.requires.list)

pub returns-in-Ok-clause-ok : goal.returns-in-Ok-clause-ok
returns-in-Ok-clause-ok g c = rw (c.in-Ok.ensures.items, c.in-Some.ensures.value, cells-append)
