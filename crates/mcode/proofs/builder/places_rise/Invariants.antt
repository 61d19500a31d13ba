-- The places so far are in ascending order.
use Rattle.std.specs.Prelude.{◌<◌}
use Rattle.std.specs.List.{AllAdjacentBelow}
use Rattle.mcode.specs.Program.{place_number}
use Rattle.mcode.proofs.builder.places_rise.Given as goal

abbrev pub invariant-loop-later : goal.invariant-loop-later
invariant-loop-later l = AllAdjacentBelow (λ p q. place_number p < place_number q) l.places l.later
