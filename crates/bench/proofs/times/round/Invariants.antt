use Rattle.std.proofs.Common.{◌<◌}
use Rattle.bench.proofs.times.round.Given as goal

abbrev pub invariant-loop-work : goal.invariant-loop-work
invariant-loop-work g l = 0 < l.table.options.sessions
