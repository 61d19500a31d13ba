use Rattle.std.proofs.Common.{refl, sym, ◌∙◌}
use Rattle.std.proofs.lemmas.List.{append-nil}
use Rattle.part_core.specs.Acts.Purpose.{Answers}
use Rattle.part_core.specs.Visits.{answers_of}
use Rattle.part_engine.proofs.SeenLemmas.{sees_none, sees_all}
use Rattle.part_engine.proofs.VisitLemmas.{found_next, saw_last, sees_next}
use Rattle.part_engine.proofs.answering.gather_until.Goals as goal

pub returns-then-is_over-clause-rows : goal.returns-then-is_over-clause-rows
returns-then-is_over-clause-rows g c =
    let count = rw c.loop-place.invariant.0 at c.in_ok-count.ensures.count in
    (saw_last c.args.stops Answers c.args.machine.now.code c.args.wanted c.args.rows.now c.loop-place.place c.loop-place.left c.saturating_sub-left.result c.in_ok-count.count c.index-rows-place.result c.held.result.now c.loop-place-test.true c.index-rows-place.is c.held.ensures count c.saturating_sub-left.ensures c.loop-place.invariant.1 (sym c.is_over.ensures ∙ c.if-is_over.true)).whole

pub returns-then-is_over-clause-left : goal.returns-then-is_over-clause-left
returns-then-is_over-clause-left g c =
    let count = rw c.loop-place.invariant.0 at c.in_ok-count.ensures.count in
    (saw_last c.args.stops Answers c.args.machine.now.code c.args.wanted c.args.rows.now c.loop-place.place c.loop-place.left c.saturating_sub-left.result c.in_ok-count.count c.index-rows-place.result c.held.result.now c.loop-place-test.true c.index-rows-place.is c.held.ensures count c.saturating_sub-left.ensures c.loop-place.invariant.1 (sym c.is_over.ensures ∙ c.if-is_over.true)).left

pub returns-then-is_over-clause-found : goal.returns-then-is_over-clause-found
returns-then-is_over-clause-found g c =
    let found = rw c.loop-place.invariant.0 at c.in_ok-count.ensures.found in
    found_next Answers c.args.machine.now.code c.args.rows.now c.loop-place.place c.index-rows-place.result c.held.result.now c.args.found.now.items c.loop-place.found.items c.gather.new.found.items c.loop-place-test.true c.index-rows-place.is c.held.ensures c.loop-place.invariant.2 found

pub loop-place-init : goal.loop-place-init
loop-place-init g c = (refl, sees_none c.args.stops (answers_of Answers c.args.machine.now.code) c.args.wanted c.args.rows.now, sym (append-nil c.args.found.now.items))

pub loop-place-preserved : goal.loop-place-preserved
loop-place-preserved g c =
    let count = rw c.loop-place.invariant.0 at c.in_ok-count.ensures.count in
    let found = rw c.loop-place.invariant.0 at c.in_ok-count.ensures.found in (
      c.gather.ensures.code ∙ c.loop-place.invariant.0,
      sees_next c.args.stops Answers c.args.machine.now.code c.args.wanted c.args.rows.now c.loop-place.place c.loop-place.left c.saturating_sub-left.result c.in_ok-count.count c.index-rows-place.result c.held.result.now c.loop-place-test.true c.index-rows-place.is c.held.ensures count c.saturating_sub-left.ensures c.loop-place.invariant.1 (sym c.is_over.ensures ∙ c.if-is_over.false),
      found_next Answers c.args.machine.now.code c.args.rows.now c.loop-place.place c.index-rows-place.result c.held.result.now c.args.found.now.items c.loop-place.found.items c.gather.new.found.items c.loop-place-test.true c.index-rows-place.is c.held.ensures c.loop-place.invariant.2 found,
    )

pub returns-clause-rows : goal.returns-clause-rows
returns-clause-rows g c =
    (sees_all c.args.stops (answers_of Answers c.args.machine.now.code) c.args.wanted c.args.rows.now c.loop-place.place c.loop-place.left c.loop-place-test.false c.loop-place.invariant.1).whole

pub returns-clause-left : goal.returns-clause-left
returns-clause-left g c =
    (sees_all c.args.stops (answers_of Answers c.args.machine.now.code) c.args.wanted c.args.rows.now c.loop-place.place c.loop-place.left c.loop-place-test.false c.loop-place.invariant.1).left
