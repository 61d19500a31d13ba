use Rattle.std.proofs.Common.{refl, sym, ◌∙◌}
use Rattle.part_core.specs.Acts.Purpose.{Counts}
use Rattle.part_core.specs.Visits.{answers_of}
use Rattle.part_engine.proofs.SeenLemmas.{sees_none, sees_all}
use Rattle.part_engine.proofs.VisitLemmas.{saw_last, sees_next, total_next}
use Rattle.part_engine.proofs.counting.count_until.Goals as goal

pub returns-then-is_over-clause-rows : goal.returns-then-is_over-clause-rows
returns-then-is_over-clause-rows g c =
    let count = rw c.loop-place.invariant.0 at c.in_ok-count.ensures.count in
    (saw_last c.args.stops Counts c.args.machine.now.code c.args.wanted c.args.rows.now c.loop-place.place c.loop-place.left c.saturating_sub-left.result c.in_ok-count.count c.index-rows-place.result c.held.result.now c.loop-place-test.true c.index-rows-place.is c.held.ensures count c.saturating_sub-left.ensures c.loop-place.invariant.1 (sym c.is_over.ensures ∙ c.if-is_over.true)).whole

pub returns-then-is_over-clause-left : goal.returns-then-is_over-clause-left
returns-then-is_over-clause-left g c =
    let count = rw c.loop-place.invariant.0 at c.in_ok-count.ensures.count in
    (saw_last c.args.stops Counts c.args.machine.now.code c.args.wanted c.args.rows.now c.loop-place.place c.loop-place.left c.saturating_sub-left.result c.in_ok-count.count c.index-rows-place.result c.held.result.now c.loop-place-test.true c.index-rows-place.is c.held.ensures count c.saturating_sub-left.ensures c.loop-place.invariant.1 (sym c.is_over.ensures ∙ c.if-is_over.true)).left

pub returns-then-is_over-clause-total : goal.returns-then-is_over-clause-total
returns-then-is_over-clause-total g c =
    let count = rw c.loop-place.invariant.0 at c.in_ok-count.ensures.count in
    total_next Counts c.args.machine.now.code c.args.rows.now c.loop-place.place c.index-rows-place.result c.held.result.now c.loop-place.total c.in_ok-count.count c.saturating_add.result c.loop-place-test.true c.index-rows-place.is c.held.ensures count c.loop-place.invariant.2 c.saturating_add.ensures

pub loop-place-init : goal.loop-place-init
loop-place-init g c = (refl, sees_none c.args.stops (answers_of Counts c.args.machine.now.code) c.args.wanted c.args.rows.now, c.requires)

pub loop-place-preserved : goal.loop-place-preserved
loop-place-preserved g c =
    let count = rw c.loop-place.invariant.0 at c.in_ok-count.ensures.count in (
      c.count_true.ensures.code ∙ c.loop-place.invariant.0,
      sees_next c.args.stops Counts c.args.machine.now.code c.args.wanted c.args.rows.now c.loop-place.place c.loop-place.left c.saturating_sub-left.result c.in_ok-count.count c.index-rows-place.result c.held.result.now c.loop-place-test.true c.index-rows-place.is c.held.ensures count c.saturating_sub-left.ensures c.loop-place.invariant.1 (sym c.is_over.ensures ∙ c.if-is_over.false),
      total_next Counts c.args.machine.now.code c.args.rows.now c.loop-place.place c.index-rows-place.result c.held.result.now c.loop-place.total c.in_ok-count.count c.saturating_add.result c.loop-place-test.true c.index-rows-place.is c.held.ensures count c.loop-place.invariant.2 c.saturating_add.ensures,
    )

pub returns-clause-rows : goal.returns-clause-rows
returns-clause-rows g c =
    (sees_all c.args.stops (answers_of Counts c.args.machine.now.code) c.args.wanted c.args.rows.now c.loop-place.place c.loop-place.left c.loop-place-test.false c.loop-place.invariant.1).whole

pub returns-clause-left : goal.returns-clause-left
returns-clause-left g c =
    (sees_all c.args.stops (answers_of Counts c.args.machine.now.code) c.args.wanted c.args.rows.now c.loop-place.place c.loop-place.left c.loop-place-test.false c.loop-place.invariant.1).left
