use Rattle.std.proofs.Common.{arith, length-append}
use Rattle.term_core.proofs.LimitLemmas.{cells-append}
use Rattle.term_core.proofs.SharedLemmas.{few_cells}
use Rattle.term_core.proofs.term.prepended_to_few.Goals as goal

pub invariant_of-result : goal.invariant_of-result
invariant_of-result g c =
    rw (c.in-Ok.ensures.elements, c.in-Ok.ensures.tail, c.few_of.ensures.elements, cells-append, few_cells c.args.few c.requires.list)
    (c.requires.within, (c.requires.depth, simp length-append (omega (arith, c.requires.some)), tt))

pub returns-in-Ok-clause-ok : goal.returns-in-Ok-clause-ok
returns-in-Ok-clause-ok g c =
    rw (c.in-Ok.ensures.elements, c.in-Ok.ensures.tail, c.few_of.ensures.elements, cells-append, few_cells c.args.few c.requires.list)
