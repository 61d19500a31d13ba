use Rattle.std.proofs.Common.{◌≡◌, length, take}
use Rattle.std.specs.Prelude.{filter_map, min}
use Rattle.part_core.specs.Acts.Purpose.{Counts}
use Rattle.part_core.specs.Replies.{most_counted}
use Rattle.part_core.specs.Visits.{yield_of_rows}
use Rattle.part_rows.proofs.listed.count_listed.Given as goal

abbrev pub invariant-loop-number : goal.invariant-loop-number
invariant-loop-number g l =
    (l.machine.code ≡ l.initial.machine.code)
    × (l.total ≡ min (length (yield_of_rows Counts l.initial.machine.code (filter_map (g.R.Rows.row_of l.rows) (take l.number l.places)))) most_counted)
