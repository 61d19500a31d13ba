use Rattle.std.proofs.Common.{rules, ◌≡◌, ◌+◌, ◌-◌, length, replicate, arith}
use Rattle.budget.proofs.PassLemmas.{longest_none, longest_more, budget_first, small_none, small_more}
use Rattle.budget.proofs.paths.longest_of.Goals as goal

pub loop-pc-init : goal.loop-pc-init
loop-pc-init g c =
    let zeros : c.in_ok-numbers.numbers.items ≡ replicate (length c.args.instructions.now) 0 = search rules in
    (longest_none (omega (arith, c.in_ok-numbers.ensures.len)), rw zeros (small_none _ _))

pub longest_from-requires-clause-later : goal.longest_from-requires-clause-later
longest_from-requires-clause-later g c =
    let next : c.loop-pc.pc - 1 + 1 ≡ c.loop-pc.pc = omega arith in
    rw (next, c.as_slice.ensures.value) c.loop-pc.invariant.0

pub longest_from-requires-clause-small : goal.longest_from-requires-clause-small
longest_from-requires-clause-small g c =
    let next : c.loop-pc.pc - 1 + 1 ≡ c.loop-pc.pc = omega arith in
    rw (next, c.as_slice.ensures.value) c.loop-pc.invariant.1

pub loop-pc-preserved : goal.loop-pc-preserved
loop-pc-preserved g c =
    let next : c.loop-pc.pc ≡ c.loop-pc.pc - 1 + 1 = omega arith in
    let is = c.args.instructions.now in (
      longest_more (c.loop-pc.pc - 1) c.longest_from.result (omega arith) (rw (← next) c.loop-pc.invariant.0) c.longest_from.ensures.longest,
      small_more _ (c.loop-pc.pc - 1) c.longest_from.result (length is - c.loop-pc.pc) (length is - (c.loop-pc.pc - 1)) (omega arith) (omega arith) c.loop-pc.invariant.1 c.longest_from.ensures.small,
    )

pub returns : goal.returns
returns g c =
    let done : c.loop-pc.pc ≡ 0 = omega arith in
    rw (c.number_at.ensures, c.as_slice-2.ensures.value) (budget_first (rw done at c.loop-pc.invariant.0))
