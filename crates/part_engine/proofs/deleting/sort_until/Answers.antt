use Rattle.std.proofs.Common.{refl, sym, ◌∙◌}
use Rattle.part_core.specs.Acts.Purpose.{Deletes}
use Rattle.part_core.specs.Visits.{answers_of}
use Rattle.part_engine.proofs.SeenLemmas.{sees_none, sees_all}
use Rattle.part_engine.proofs.VisitLemmas.{left_next, saw_last, sees_next, total_next}
use Rattle.part_engine.proofs.deleting.sort_until.Goals as goal

pub returns-then-is_over-clause-rows : goal.returns-then-is_over-clause-rows
returns-then-is_over-clause-rows g c =
    let count = rw c.loop-place.invariant.0 at c.in_ok-count.ensures.count in
    (saw_last c.args.stops Deletes c.args.machine.now.code c.args.wanted c.args.rows.now c.loop-place.place c.loop-place.wanting c.saturating_sub-wanting.result c.in_ok-count.count c.index-rows-place.result c.index-rows-place.result.1 c.loop-place-test.true c.index-rows-place.is refl count c.saturating_sub-wanting.ensures c.loop-place.invariant.1 (sym c.is_over.ensures ∙ c.if-is_over.true)).whole

pub returns-then-is_over-clause-left : goal.returns-then-is_over-clause-left
returns-then-is_over-clause-left g c =
    let count = rw c.loop-place.invariant.0 at c.in_ok-count.ensures.count in
    (saw_last c.args.stops Deletes c.args.machine.now.code c.args.wanted c.args.rows.now c.loop-place.place c.loop-place.wanting c.saturating_sub-wanting.result c.in_ok-count.count c.index-rows-place.result c.index-rows-place.result.1 c.loop-place-test.true c.index-rows-place.is refl count c.saturating_sub-wanting.ensures c.loop-place.invariant.1 (sym c.is_over.ensures ∙ c.if-is_over.true)).left

pub returns-then-is_over-clause-sorted : goal.returns-then-is_over-clause-sorted
returns-then-is_over-clause-sorted g c =
    let left = rw c.loop-place.invariant.0 at c.in_ok-count.ensures.left in
    left_next c.args.machine.now.code c.args.rows.now c.loop-place.place c.index-rows-place.result c.loop-place.left.items c.sort_out.new.left.items c.loop-place-test.true c.index-rows-place.is c.loop-place.invariant.2 left

pub returns-then-is_over-clause-total : goal.returns-then-is_over-clause-total
returns-then-is_over-clause-total g c =
    let count = rw c.loop-place.invariant.0 at c.in_ok-count.ensures.count in
    total_next Deletes c.args.machine.now.code c.args.rows.now c.loop-place.place c.index-rows-place.result c.index-rows-place.result.1 c.loop-place.total c.in_ok-count.count c.saturating_add.result c.loop-place-test.true c.index-rows-place.is refl count c.loop-place.invariant.3 c.saturating_add.ensures

pub loop-place-init : goal.loop-place-init
loop-place-init g c = (refl, sees_none c.args.stops (answers_of Deletes c.args.machine.now.code) c.args.wanted c.args.rows.now, c.requires.left, c.requires.total)

pub loop-place-preserved : goal.loop-place-preserved
loop-place-preserved g c =
    let count = rw c.loop-place.invariant.0 at c.in_ok-count.ensures.count in
    let left = rw c.loop-place.invariant.0 at c.in_ok-count.ensures.left in (
      c.sort_out.ensures.code ∙ c.loop-place.invariant.0,
      sees_next c.args.stops Deletes c.args.machine.now.code c.args.wanted c.args.rows.now c.loop-place.place c.loop-place.wanting c.saturating_sub-wanting.result c.in_ok-count.count c.index-rows-place.result c.index-rows-place.result.1 c.loop-place-test.true c.index-rows-place.is refl count c.saturating_sub-wanting.ensures c.loop-place.invariant.1 (sym c.is_over.ensures ∙ c.if-is_over.false),
      left_next c.args.machine.now.code c.args.rows.now c.loop-place.place c.index-rows-place.result c.loop-place.left.items c.sort_out.new.left.items c.loop-place-test.true c.index-rows-place.is c.loop-place.invariant.2 left,
      total_next Deletes c.args.machine.now.code c.args.rows.now c.loop-place.place c.index-rows-place.result c.index-rows-place.result.1 c.loop-place.total c.in_ok-count.count c.saturating_add.result c.loop-place-test.true c.index-rows-place.is refl count c.loop-place.invariant.3 c.saturating_add.ensures,
    )

pub returns-clause-rows : goal.returns-clause-rows
returns-clause-rows g c =
    (sees_all c.args.stops (answers_of Deletes c.args.machine.now.code) c.args.wanted c.args.rows.now c.loop-place.place c.loop-place.wanting c.loop-place-test.false c.loop-place.invariant.1).whole

pub returns-clause-left : goal.returns-clause-left
returns-clause-left g c =
    (sees_all c.args.stops (answers_of Deletes c.args.machine.now.code) c.args.wanted c.args.rows.now c.loop-place.place c.loop-place.wanting c.loop-place-test.false c.loop-place.invariant.1).left
