-- the greatest depth so far and that of the remaining pairs make up the whole
use Rattle.std.proofs.Common.{◌≡◌, max, drop}
use Rattle.std.specs.List.{AllByRecursion}
use Rattle.term_core.specs.Datum.{entries_of}
use Rattle.term_core.specs.Limits.{entries_depth}
use Rattle.term_core.specs.MapPairs.{IsPairSound}
use Rattle.term_text.proofs.pairs.deepest_pair.Given as goal

abbrev pub invariant-loop-pair : goal.invariant-loop-pair
invariant-loop-pair g l =
    (max l.deepest (entries_depth (entries_of (drop l.pair-index l.pairs))) ≡ entries_depth (entries_of l.pairs))
    × (AllByRecursion IsPairSound (drop l.pair-index l.pairs) → AllByRecursion IsPairSound l.pairs)
