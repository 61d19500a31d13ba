-- The neighbours so far differ.
use Rattle.std.specs.List.{AllAdjacentBelow}
use Rattle.term_core.proofs.MapLemmas.{Differ}
use Rattle.term_core.proofs.term.pairs.neighbours_differ.Given as goal

abbrev pub invariant-loop-later : goal.invariant-loop-later
invariant-loop-later g l = AllAdjacentBelow Differ l.terms l.later
