use Rattle.std.proofs.Common.{SFits}
use Rattle.std.specs.Int.{w64}
use Rattle.std.proofs.lemmas.Int.{to_z-of_z}
use Rattle.term_core.specs.Order.{datum_cmp}
use Rattle.term_core.proofs.order.order_of.Goals as goal

pub returns-in-Integer-view : goal.returns-in-Integer-view
unfolding datum_cmp
returns-in-Integer-view g c =
    let fits_a : SFits w64 c.in-Integer.left = (rw (← c.in-Integer.ensures.value) at c.in-Integer.ensures.within).sound in
    let fits_b : SFits w64 c.in-Integer-view.right = (rw (← c.in-Integer-view.ensures.value) at c.in-Integer-view.ensures.within).sound in
    rw (← c.in-Integer.ensures.value, ← c.in-Integer-view.ensures.value) (simp to_z-of_z at c.compare_integers.ensures)
