-- The instructions so far go forward.
use Rattle.std.proofs.Common.{ℕ, ◌<◌}
use Rattle.budget.specs.Pass.{IsStepForward}
use Rattle.budget.proofs.forward.is_body_forward.Given as goal

abbrev pub invariant-loop-pc : goal.invariant-loop-pc
invariant-loop-pc g l = (a : ℕ) → a < l.pc → IsStepForward l.body a
