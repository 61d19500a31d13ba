-- The copies so far and the remaining terms make up the whole.
use Rattle.std.proofs.Common.{◌≡◌, ◌++◌, drop}
use Rattle.term_build.proofs.copies.copy_all.Given as goal

abbrev pub invariant-loop-term : goal.invariant-loop-term
invariant-loop-term g l = l.copies.items ++ drop l.term-index l.terms ≡ l.terms
