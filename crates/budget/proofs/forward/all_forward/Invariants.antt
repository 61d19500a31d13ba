-- The bodies so far go forward.
use Rattle.std.proofs.Common.{ℕ, ◌<◌}
use Rattle.mcode.specs.Program.{body_of}
use Rattle.budget.specs.Paths.{IsForward}
use Rattle.budget.proofs.forward.all_forward.Given as goal

abbrev pub invariant-loop-number : goal.invariant-loop-number
invariant-loop-number g l = (b : ℕ) → b < l.number → IsForward (body_of l.code b)
