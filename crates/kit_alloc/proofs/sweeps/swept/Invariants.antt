use Rattle.kit_alloc.specs.Sweeps.{RunWell, plan_by}
use Rattle.kit_alloc.proofs.sweeps.swept.Given as goal

-- each run so far behaved well, and together they led to the closure as it is now
abbrev pub invariant-loop-earlier : goal.invariant-loop-earlier
invariant-loop-earlier g l = goal.F-IsAlwaysCallable g l.run × RunWell g.F.FnMut l.fn.inner (plan_by l.refusals) l.fn.run l.earlier l.run
