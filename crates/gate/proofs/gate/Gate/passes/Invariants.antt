use Rattle.std.proofs.Common.{◌≡◌, [], map}
use Rattle.std.specs.List.{range_with_len}
use Rattle.gate.specs.Rule.{opener}
use Rattle.gate.specs.Views.{first_ticket}
use Rattle.gate.proofs.gate.Gate.passes.Given as goal

abbrev pub invariant-loop-number : goal.invariant-loop-number
invariant-loop-number g l =
    (l.seat.table_id ≡ l.initial.seat.table_id)
    × (l.seat.me.0 ≡ opener l.initial.seat.me.0.settings l.number)
    × (l.seat.me.1 ≡ [])
    × (l.passes.items ≡ map (first_ticket l.self l.initial.seat.me.0.settings) (range_with_len 0 l.number))
