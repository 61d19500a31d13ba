use Rattle.std.proofs.Common.{◌≡◌, ◌++◌, take}
use Rattle.part_core.specs.Acts.Purpose.{Answers}
use Rattle.part_core.specs.Visits.{answers_of, yield_of_rows}
use Rattle.part_engine.proofs.SeenLemmas.{Sees}
use Rattle.part_engine.proofs.answering.gather_until.Given as goal

abbrev pub invariant-loop-place : goal.invariant-loop-place
invariant-loop-place g l =
    (l.machine.code ≡ l.initial.machine.code)
    × Sees l.stops (answers_of Answers l.initial.machine.code) l.wanted l.rows l.place l.left
    × (l.found.items ≡ l.initial.found.items ++ yield_of_rows Answers l.initial.machine.code (take l.place l.rows))
