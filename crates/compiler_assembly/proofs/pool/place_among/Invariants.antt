-- the number of the term among what is left is its number among all
use Rattle.std.proofs.Common.{◌≡◌, drop}
use Rattle.compiler_assembly.specs.Pool.{place_from}
use Rattle.compiler_assembly.proofs.pool.place_among.Given as goal

abbrev pub invariant-loop-place : goal.invariant-loop-place
invariant-loop-place g l = place_from (drop l.place l.terms) l.place l.term ≡ place_from l.terms 0 l.term
