use Rattle.std.proofs.Common.{arith, length-append}
use Rattle.term_core.proofs.LimitLemmas.{cells-append}
use Rattle.term_core.proofs.term.rest.prepended_to_rest.Goals as goal

pub invariant_of-result : goal.invariant_of-result
invariant_of-result g c =
    rw (c.in-Ok.ensures.elements, c.in-Ok.ensures.tail, c.behind.ensures, c.as_slice.ensures.value, c.as_ref.ensures.value, c.deref.ensures, c.deref-2.ensures, cells-append)
    (c.requires.within, (c.requires.depth, simp length-append (omega (arith, c.requires.some)), c.requires.list.0.2))

pub returns-in-Ok-clause-ok : goal.returns-in-Ok-clause-ok
returns-in-Ok-clause-ok g c =
    rw (c.in-Ok.ensures.elements, c.in-Ok.ensures.tail, c.behind.ensures, c.as_slice.ensures.value, c.as_ref.ensures.value, c.deref.ensures, c.deref-2.ensures, cells-append)
