use Rattle.std.proofs.Common.{◌≡◌}
use Rattle.gate.proofs.gate.Gate.take.Given as goal

abbrev pub invariant-loop-wait : goal.invariant-loop-wait
invariant-loop-wait g l = (l.seat.table_id ≡ l.initial.seat.table_id) × (l.seat.me ≡ l.initial.seat.me)
