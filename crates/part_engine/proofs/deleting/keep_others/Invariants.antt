use Rattle.std.proofs.Common.{◌≡◌, ◌++◌, take}
use Rattle.std.specs.Prelude.{filter, not}
use Rattle.part_core.specs.Visits.{is_true}
use Rattle.part_engine.proofs.deleting.keep_others.Given as goal

abbrev pub invariant-loop-object : goal.invariant-loop-object
invariant-loop-object g l =
    (l.machine.code ≡ l.initial.machine.code)
    × (l.kept.items ≡ l.initial.kept.items ++ filter (λ t. not (is_true l.initial.machine.code t)) (take l.object-index l.objects))
