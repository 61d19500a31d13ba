use Rattle.std.proofs.Common.{arith}
use Rattle.term_core.specs.TermFalls.{depth-cells}
use Rattle.term_core.specs.Term.{tail_of}
use Rattle.term_core.proofs.term.rest.is_as_deep.Goals as goal

pub returns-then-levels_of_tail-levels-clause-some : goal.returns-then-levels_of_tail-levels-clause-some
returns-then-levels_of_tail-levels-clause-some g c =
    λ _. omega (arith, depth-cells c.args.elements.now (tail_of c.args.tail.now) c.requires.some, c.levels_of_tail.ensures.value, c.if-levels_of_tail-levels.true)

pub returns-clause-some : goal.returns-clause-some
returns-clause-some g c =
    λ deep. omega (arith, depth-cells c.args.elements.now (tail_of c.args.tail.now) c.requires.some, c.has_as_deep.ensures.some deep)

pub returns-clause-none : goal.returns-clause-none
returns-clause-none g c =
    λ less. omega (arith, depth-cells c.args.elements.now (tail_of c.args.tail.now) c.requires.some, c.levels_of_tail.ensures.value, c.if-levels_of_tail-levels.false, c.has_as_deep.ensures.none less)
