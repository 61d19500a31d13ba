-- the copies so far and the remaining terms make up the whole
use Rattle.std.proofs.Common.{◌≡◌, ◌++◌, drop}
use Rattle.std.specs.Prelude.{map as each}
use Rattle.term_core.proofs.term.copies.copies.Given as goal

abbrev pub invariant-loop-term : goal.invariant-loop-term
invariant-loop-term g l = l.copies.items ++ each (λ t. t.now) (drop l.term-index l.terms) ≡ each (λ t. t.now) l.terms
