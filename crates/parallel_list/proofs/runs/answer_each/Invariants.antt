use Rattle.std.proofs.Common.{◌≡◌, ◌≤◌, length, map, take, vec_len, vec_capacity}
use Rattle.mcode.specs.Answer.{answer_of}
use Rattle.parallel_list.proofs.runs.answer_each.Given as goal

abbrev pub invariant-loop-place : goal.invariant-loop-place
invariant-loop-place g l =
    (l.machine.code ≡ l.initial.machine.code)
    × (vec_len l.answers ≡ l.place)
    × (length l.objects ≤ vec_capacity l.answers)
    × (l.answers.items ≡ map (answer_of l.initial.machine.code) (take l.place l.objects))
