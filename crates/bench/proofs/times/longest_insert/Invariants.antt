use Rattle.std.proofs.Common.{◌≡◌}
use Rattle.bench.proofs.times.longest_insert.Given as goal

abbrev pub invariant-loop-object : goal.invariant-loop-object
invariant-loop-object g l = l.table.options ≡ l.initial.table.options
