use Rattle.std.proofs.Common.{◌≡◌, ◌++◌, take}
use Rattle.std.specs.Prelude.{filter_map}
use Rattle.mcode.specs.Answer.{answer_of}
use Rattle.part_rows.proofs.objects.gather_all.Given as goal

abbrev pub invariant-loop-object : goal.invariant-loop-object
invariant-loop-object g l =
    (l.machine.code ≡ l.initial.machine.code)
    × (l.found.items ≡ l.initial.found.items ++ filter_map (answer_of l.initial.machine.code) (take l.object-index l.objects))
