use Rattle.std.proofs.Common.{arith}
use Rattle.term_core.proofs.SharedLemmas.{as_deep}
use Rattle.term_core.proofs.term.rest.has_as_deep.Goals as goal

pub returns-then-depth-clause-some : goal.returns-then-depth-clause-some
returns-then-depth-clause-some g c =
    λ _. as_deep c.args.elements.now c.loop-element.element-index c.element-item.result c.args.depth c.loop-element-test.true c.element-item.is (omega (arith, c.depth.ensures.value, c.if-depth.true))
