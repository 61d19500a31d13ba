use Rattle.std.proofs.Common.{◌≡◌, length, take}
use Rattle.std.specs.Prelude.{min}
use Rattle.part_core.specs.Acts.Purpose.{Deletes}
use Rattle.part_core.specs.Replies.{most_counted}
use Rattle.part_core.specs.Visits.{answers_of, yield_of_rows}
use Rattle.part_engine.specs.Deletions.{rows_left}
use Rattle.part_engine.proofs.SeenLemmas.{Sees}
use Rattle.part_engine.proofs.deleting.sort_until.Given as goal

abbrev pub invariant-loop-place : goal.invariant-loop-place
invariant-loop-place g l =
    (l.machine.code ≡ l.initial.machine.code)
    × Sees l.stops (answers_of Deletes l.initial.machine.code) l.wanted l.rows l.place l.wanting
    × (l.left.items ≡ rows_left l.initial.machine.code (take l.place l.rows))
    × (l.total ≡ min (length (yield_of_rows Deletes l.initial.machine.code (take l.place l.rows))) most_counted)
