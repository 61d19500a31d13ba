use Rattle.std.proofs.Common.{◌≡◌, length, take}
use Rattle.std.specs.Prelude.{filter}
use Rattle.part_core.specs.Visits.{is_true}
use Rattle.part_rows.proofs.objects.count_all.Given as goal

abbrev pub invariant-loop-object : goal.invariant-loop-object
invariant-loop-object g l =
    (l.machine.code ≡ l.initial.machine.code)
    × (l.count ≡ length (filter (is_true l.initial.machine.code) (take l.object-index l.objects)))
