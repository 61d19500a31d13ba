-- The copies so far and the remaining pairs make up the whole.
use Rattle.std.proofs.Common.{◌≡◌, ◌++◌, drop}
use Rattle.term_core.proofs.term.pairs.copy_pairs.Given as goal

abbrev pub invariant-loop-key : goal.invariant-loop-key
invariant-loop-key g l = l.copies.items ++ drop l.key-index l.pairs ≡ l.pairs
