-- The instructions so far are typed.
use Rattle.verifier.specs.Pass.{IsWalked}
use Rattle.verifier.proofs.verification.walk_through.Given as goal

abbrev pub invariant-loop-pc : goal.invariant-loop-pc
invariant-loop-pc g l = IsWalked l.body l.behind l.pc l.walk.falls l.walk.shape l.walk.depths.items l.walk.own l.walk.inner
