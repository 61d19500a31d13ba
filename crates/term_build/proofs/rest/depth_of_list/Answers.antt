use Rattle.std.proofs.Common.{arith}
use Rattle.std.specs.Option.{option_copied}
use Rattle.term_core.specs.Term.{tail_of}
use Rattle.term_core.specs.TermFalls.{depth-cells}
use Rattle.term_core.proofs.DepthLemmas.{tail_depth-tail}
use Rattle.term_build.proofs.rest.depth_of_list.Goals as goal

pub overflow_add-result : goal.overflow_add-result
overflow_add-result g c =
    let tail = option_copied c.args.tail in
    record { fits = omega (arith, c.requires.within.shallow, depth-cells c.args.elements.now (tail_of tail) c.requires.some, tail_depth-tail tail c.requires.tail, c.deepest.ensures.value, c.depth_of_tail.ensures, c.max.ensures) }

pub returns : goal.returns
returns g c =
    let tail = option_copied c.args.tail in
    omega (arith, depth-cells c.args.elements.now (tail_of tail) c.requires.some, tail_depth-tail tail c.requires.tail, c.deepest.ensures.value, c.depth_of_tail.ensures, c.max.ensures)
