-- the greatest depth so far and that of the remaining terms make up the whole
use Rattle.std.proofs.Common.{◌≡◌, max, drop}
use Rattle.std.specs.Prelude.{map as each}
use Rattle.term_core.specs.Datum.{items_of}
use Rattle.term_core.specs.Limits.{items_depth, AreSound}
use Rattle.term_core.proofs.term.copies.deepest.Given as goal

abbrev pub invariant-loop-term : goal.invariant-loop-term
invariant-loop-term g l =
    (max l.deepest (items_depth (items_of (each (λ t. t.now) (drop l.term-index l.terms)))) ≡ items_depth (items_of (each (λ t. t.now) l.terms)))
    × (AreSound (items_of (each (λ t. t.now) (drop l.term-index l.terms))) → AreSound (items_of (each (λ t. t.now) l.terms)))
