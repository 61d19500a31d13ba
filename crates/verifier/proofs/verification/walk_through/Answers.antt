use Rattle.std.proofs.Common.{arith, ap, subst, length, ◌≡◌}
use Rattle.verifier.specs.Pass.{IsWalked}
use Rattle.verifier.proofs.verification.walk_through.Goals as goal

pub loop-pc-init : goal.loop-pc-init
loop-pc-init g c = c.in_ok-walk.ensures c.args.behind.now

pub returns-clause-typed : goal.returns-clause-typed
returns-clause-typed g c =
    let walk = c.loop-pc.walk in
    let same : c.loop-pc.pc ≡ length c.args.body.now.instructions = omega (arith, c.loop-pc-test.false, c.loop-pc.auto.pc-end, ap length c.instructions-pc-end.ensures.value) in
    subst (λ n. IsWalked c.args.body.now c.args.behind.now n walk.falls walk.shape walk.depths.items walk.own walk.inner) same c.loop-pc.invariant
