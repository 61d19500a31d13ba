-- the greatest depth so far and that of the remaining terms make up the whole
use Rattle.std.proofs.Common.{◌≡◌, max, drop}
use Rattle.term_core.specs.Datum.{items_of}
use Rattle.term_core.specs.Limits.{items_depth, AreSound}
use Rattle.term_core.proofs.term.deepest.Given as goal

abbrev pub invariant-loop-term : goal.invariant-loop-term
invariant-loop-term g l =
    (max l.deepest (items_depth (items_of (drop l.term-index l.terms))) ≡ items_depth (items_of l.terms))
    × (AreSound (items_of (drop l.term-index l.terms)) → AreSound (items_of l.terms))
