use Rattle.hash_index.proofs.Mixing.{Mixing}
use Rattle.hash_index.proofs.anew.put_all.Given as goal

abbrev pub invariant-loop-cell : goal.invariant-loop-cell
invariant-loop-cell g l = Mixing (λ cell n. goal.F-post g l.mixed_of cell n) l.old l.cells l.room l.longest l.cell-index
