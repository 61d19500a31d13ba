-- The slots so far are in ascending order.
use Rattle.std.specs.Prelude.{◌<◌}
use Rattle.std.specs.List.{AllAdjacentBelow}
use Rattle.mcode.proofs.builder.slots_rise.Given as goal

abbrev pub invariant-loop-later : goal.invariant-loop-later
invariant-loop-later l = AllAdjacentBelow (λ m n. m < n) l.slots l.later
