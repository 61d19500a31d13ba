use Rattle.std.proofs.Common.{rules, of_calls, refl, ◌∙◌}
use Rattle.kit_alloc.specs.Sweeps.RunWell.{none, another}
use Rattle.kit_alloc.proofs.SweepLemmas.{Runs-call}
use Rattle.kit_alloc.proofs.sweeps.swept.Goals as goal

pub loop-earlier-init : goal.loop-earlier-init
loop-earlier-init g c = (c.requires, none)

pub returns-then-not-run : goal.returns-then-not-run
returns-then-not-run g c =
    let made = c.new-heap.ensures in
    (_, _, _, refl, search rules, c.loop-earlier.invariant.1, Runs-call g.F.FnMut c.run.ensures c.if-not-run.true made.inner (made.plan ∙ c.plan.ensures))

pub returns-then-not-was_refused : goal.returns-then-not-was_refused
returns-then-not-was_refused g c =
    let made = c.new-heap.ensures in
    (search rules, search rules, (_, another _ _ _ c.loop-earlier.invariant.1 (Runs-call g.F.FnMut c.run.ensures c.if-not-run.false made.inner (made.plan ∙ c.plan.ensures))))

pub loop-earlier-preserved : goal.loop-earlier-preserved
loop-earlier-preserved g c =
    let made = c.new-heap.ensures in
    (search (of_calls, rules), another _ _ _ c.loop-earlier.invariant.1 (Runs-call g.F.FnMut c.run.ensures c.if-not-run.false made.inner (made.plan ∙ c.plan.ensures)))
