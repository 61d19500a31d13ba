use Rattle.hash_index.specs.Cells.{IsTaken}
use Rattle.hash_index.proofs.Searches.{Missed}
use Rattle.hash_index.proofs.search.free_from.Given as goal

abbrev pub invariant-loop-taken : goal.invariant-loop-taken
invariant-loop-taken l = Missed (λ cell. IsTaken cell) l.cells l.start l._taken l.pos
