use Rattle.hash_index.proofs.Closing.{Closes}
use Rattle.hash_index.proofs.close.close.Given as goal

abbrev pub invariant-loop-looked : goal.invariant-loop-looked
invariant-loop-looked l = Closes l.count l.fn.longest l.fn.cells l.cells l.fn.gone l.hole l.pos l._looked
