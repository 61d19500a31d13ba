-- The terms so far and the remaining ones make up the whole.
use Rattle.std.proofs.Common.{◌≡◌, ◌++◌, drop}
use Rattle.term_core.proofs.MapLemmas.{seen}
use Rattle.term_build.proofs.apart.references.Given as goal

abbrev pub invariant-loop-term : goal.invariant-loop-term
invariant-loop-term g l = seen l.references.items ++ drop l.term-index l.terms ≡ l.terms
