use Rattle.std.proofs.Common.{◌≡◌, ◌++◌, take}
use Rattle.part_core.specs.Visits.{in_class}
use Rattle.part_plain.proofs.looking.look_in.Given as goal

abbrev pub invariant-loop-row : goal.invariant-loop-row
invariant-loop-row g l =
    l.into.items ≡ l.initial.into.items ++ in_class l.settings l.base l.class (take l.row-index l.rows)
