use Rattle.std.proofs.Common.{rules, refl, arith, ◌∙◌}
use Rattle.part_hash.proofs.SweepLemmas.{dead_next, dead_none, dead_within}
use Rattle.part_hash.proofs.removing.sweep_all.Goals as goal

pub loop-at-init : goal.loop-at-init
loop-at-init g c = (refl, λ o rows spread s. (rows, s, refl, λ i dead. omega arith, λ i dead. dead))

pub loop-at-preserved : goal.loop-at-preserved
loop-at-preserved g c = (
  c.sweep.ensures.slots ∙ c.loop-at.invariant.0,
  λ o rows spread s.
      let before = c.loop-at.invariant.1 o rows spread s in
      let after = c.sweep.ensures.done o before.0 spread before.1 in
      (after.0, after.1, after.2 ∙ before.2, dead_next c.loop-at.store.rows c.sweep.new.store.rows c.loop-at.at after.4 after.3 before.3, λ i dead. before.4 i (after.4 i dead)),
)

pub returns-clause-done : goal.returns-clause-done
returns-clause-done g c = λ o rows spread s.
    let last = c.loop-at.invariant.1 o rows spread s in
    (last.0, last.1, last.2, dead_none c.loop-at.store.rows c.loop-at.at c.capacity-at-end.result (search rules) last.3 (λ i dead. dead_within c.args.store.now.rows c.capacity-at-end.result (search rules) i (last.4 i dead)))

pub returns-clause-slots : goal.returns-clause-slots
returns-clause-slots g c = c.loop-at.invariant.0
