use Rattle.std.proofs.Common.{arith, ap, length, refl}
use Rattle.mcode.specs.Program.{body_of}
use Rattle.budget.specs.Paths.{IsForward}
use Rattle.budget.proofs.ForwardLemmas.{all_more}
use Rattle.budget.proofs.forward.all_forward.Goals as goal

pub loop-number-preserved : goal.loop-number-preserved
loop-number-preserved g c =
    all_more (λ b. IsForward (body_of c.args.code.now b)) c.loop-number.number c.loop-number.invariant (c.is_forward_at.ensures.0 c.if-not-is_forward_at.false)

pub returns-then-not-is_forward_at : goal.returns-then-not-is_forward_at
returns-then-not-is_forward_at g c = (
  λ never. absurd (cc),
  λ all.
      let yes = c.is_forward_at.ensures.1 (all c.loop-number.number (omega (arith, c.loop-number-test.true, ap length c.routines-count.ensures.value))) in
      absurd (cc),
)

pub returns : goal.returns
returns g c = (
  λ holds b inside. c.loop-number.invariant b (omega (arith, inside, c.loop-number-test.false, ap length c.routines-count.ensures.value)),
  λ all. refl,
)
