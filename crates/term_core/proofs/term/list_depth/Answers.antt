use Rattle.std.proofs.Common.{arith}
use Rattle.term_core.specs.Term.{tail_of}
use Rattle.term_core.specs.TermFalls.{depth-cells}
use Rattle.term_core.proofs.LimitLemmas.{cells-IsTerm, cells-long, cells-not_long}
use Rattle.term_core.proofs.term.list_depth.Goals as goal

pub returns-then-deepest-ge-MAX_DEPTH-clause-refused : goal.returns-then-deepest-ge-MAX_DEPTH-clause-refused
returns-then-deepest-ge-MAX_DEPTH-clause-refused g c =
    omega (arith, depth-cells c.args.elements.now (tail_of c.args.tail.now) c.requires)

pub returns-then-elements-length_of_tail-clause-refused : goal.returns-then-elements-length_of_tail-clause-refused
returns-then-elements-length_of_tail-clause-refused g c =
    (omega (arith, depth-cells c.args.elements.now (tail_of c.args.tail.now) c.requires), cells-long c.args.elements.now (tail_of c.args.tail.now) c.requires (omega arith))

pub returns-clause-ok : goal.returns-clause-ok
returns-clause-ok g c = record {
  depth = omega (arith, depth-cells c.args.elements.now (tail_of c.args.tail.now) c.requires);
  within = cells-IsTerm c.args.elements.now (tail_of c.args.tail.now) c.requires c.deepest.ensures.sound c.levels_of_tail.ensures.sound (omega arith) (omega arith);
  short = cells-not_long c.args.elements.now (tail_of c.args.tail.now) (omega arith) c.requires;
}
