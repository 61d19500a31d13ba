use Rattle.std.proofs.Common.{[], ap, sym, ◌∙◌, true}
use Rattle.part_core.specs.Rows.{is_fixed, objects_at, objects_without}
use Rattle.part_core.proofs.StepLemmas.{empty_row}
use Rattle.part_rows.specs.Shown.{shown_exchanged}
use Rattle.part_engine.proofs.LeadLemmas.{delete_object_says, no_object_says, no_row_says, sound}
use Rattle.part_engine.proofs.SweepLemmas.{exchanged_sound}
use Rattle.part_rows.specs.Shown.{state_of}
use Rattle.part_engine.proofs.stored.StoredPart.delete_object.Goals as goal

pub returns-in_default-clause-leads : goal.returns-in_default-clause-leads
returns-in_default-clause-leads g c = λ n w keeps state.
    let s = no_object_says c.args.self.now.settings (state_of w c.args.self.now.fixes.items c.args.self.now.base) n c.args.object.now c.in_default.ensures in
    (s.0, (w, keeps, s.1))

pub returns-then-not-is_there-clause-leads : goal.returns-then-not-is_there-clause-leads
returns-then-not-is_there-clause-leads g c = λ n w keeps state.
    let exchanged = c.exchange_counted-is_there.ensures w keeps (sound c.args.self.now.settings w c.args.self.now.fixes.items c.args.self.now.base state) in
    let written = exchanged.2 in
    let now = rw c.none-held.ensures at written in
    let s = no_row_says c.args.self.now.settings w c.args.self.now.fixes.items c.args.self.now.base n c.args.object.now c.in-Some.key.now state c.in-Some.ensures (sym exchanged.0 ∙ c.if-not-is_there.true) in
    (s.0, (shown_exchanged c.in-Some.key.now [] true w, now, s.1))

pub returns-clause-leads : goal.returns-clause-leads
returns-clause-leads g c = λ n w keeps state.
    let k = c.in-Some.key.now in
    let exchanged = c.exchange_counted-is_there.ensures w keeps (sound c.args.self.now.settings w c.args.self.now.fixes.items c.args.self.now.base state) in
    let first = exchanged.2 in
    let empty = rw c.none-held.ensures at first in
    let held = exchanged.1 in
    let there_held = rw c.if-not-is_there.false at held in
    let again = (c.exchange_counted.ensures (shown_exchanged k [] true w) empty (exchanged_sound c.args.self.now.settings w k [] true (sound c.args.self.now.settings w c.args.self.now.fixes.items c.args.self.now.base state) (empty_row c.args.self.now.settings k))).2 in
    let now = rw (c.remove.ensures ∙ ap (objects_without c.args.object.now) there_held, c.is_fixed-keeps.ensures ∙ ap is_fixed c.as_slice.ensures.value) at again in
    let s = delete_object_says c.args.self.now.settings w c.args.self.now.fixes.items c.args.self.now.base n c.args.object.now k state c.in-Some.ensures in
    (s.0, (shown_exchanged k (objects_without c.args.object.now (objects_at w.rows k)) (is_fixed c.args.self.now.fixes.items) (shown_exchanged k [] true w), now, s.1))
