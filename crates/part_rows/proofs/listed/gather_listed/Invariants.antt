use Rattle.std.proofs.Common.{◌≡◌, ◌++◌, take}
use Rattle.std.specs.Prelude.{filter_map}
use Rattle.part_core.specs.Acts.Purpose.{Answers}
use Rattle.part_core.specs.Visits.{yield_of_rows}
use Rattle.part_rows.proofs.listed.gather_listed.Given as goal

abbrev pub invariant-loop-number : goal.invariant-loop-number
invariant-loop-number g l =
    (l.machine.code ≡ l.initial.machine.code)
    × (l.found.items ≡ l.initial.found.items ++ yield_of_rows Answers l.initial.machine.code (filter_map (g.R.Rows.row_of l.rows) (take l.number l.places)))
