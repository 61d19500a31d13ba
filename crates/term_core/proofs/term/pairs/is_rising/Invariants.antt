-- The keys so far are in ascending order.
use Rattle.std.specs.List.{AllAdjacentBelow}
use Rattle.term_core.proofs.MapLemmas.{Rises}
use Rattle.term_core.proofs.term.pairs.is_rising.Given as goal

abbrev pub invariant-loop-later : goal.invariant-loop-later
invariant-loop-later g l = AllAdjacentBelow Rises l.pairs l.later
