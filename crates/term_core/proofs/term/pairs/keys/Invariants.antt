-- The keys so far and the remaining ones make up the whole.
use Rattle.std.proofs.Common.{◌≡◌, ◌++◌, drop}
use Rattle.term_core.specs.MapPairs.{keys_of}
use Rattle.term_core.proofs.MapLemmas.{seen}
use Rattle.term_core.proofs.term.pairs.keys.Given as goal

abbrev pub invariant-loop-pair : goal.invariant-loop-pair
invariant-loop-pair g l = seen l.keys.items ++ keys_of (drop l.pair-index l.pairs) ≡ keys_of l.pairs
