use Rattle.std.proofs.Common.{arith, ap, length, refl}
use Rattle.budget.specs.Pass.{IsStepForward}
use Rattle.budget.proofs.ForwardLemmas.{all_more, body_forward, step_of_body}
use Rattle.budget.proofs.forward.is_body_forward.Goals as goal

pub loop-pc-preserved : goal.loop-pc-preserved
loop-pc-preserved g c =
    all_more (IsStepForward c.args.body.now) c.loop-pc.pc c.loop-pc.invariant (c.is_forward.ensures.0 c.if-not-is_forward.false)

pub returns-then-not-is_forward : goal.returns-then-not-is_forward
returns-then-not-is_forward g c = (
  λ never. absurd (cc),
  λ forward.
      let yes = c.is_forward.ensures.1 (step_of_body c.args.body.now c.loop-pc.pc forward) in
      absurd (cc),
)

pub returns : goal.returns
returns g c = (
  λ holds. body_forward c.args.body.now c.loop-pc.pc (omega (arith, c.loop-pc-test.false, ap length c.instructions-pc-end.ensures.value)) c.loop-pc.invariant,
  λ forward. refl,
)
