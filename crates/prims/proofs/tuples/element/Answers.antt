use Rattle.std.proofs.Common.{rules}
use Rattle.std.specs.Prelude.{FitsSigned}
use Rattle.std.specs.Int.{w64}
use Rattle.std.proofs.lemmas.Int.{to_z-of_z}
use Rattle.prims.proofs.ListLemmas.{item_found}
use Rattle.prims.proofs.tuples.element.Goals as goal

pub returns-in_ok-index-in-Integer-Tuple : goal.returns-in_ok-index-in-Integer-Tuple
returns-in_ok-index-in-Integer-Tuple g c =
    let fits : FitsSigned w64 c.in-Integer-Tuple.place = search rules in
    let index = rw (to_z-of_z w64 c.in-Integer-Tuple.place fits) at c.in_ok-index-in-Integer-Tuple.ensures in
    rw (← c.in-Integer-Tuple.ensures.value, ← c.in-Integer-Tuple.ensures'.value, ← index)
    (item_found c.get.result c.in-Integer-Tuple.elements.now c.in_ok-index-in-Integer-Tuple.field-0 c.get.ensures.lookup.3)
