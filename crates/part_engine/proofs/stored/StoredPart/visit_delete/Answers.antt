use Rattle.std.proofs.Common.{ℕ, List, ap, ◌∙◌}
use Rattle.part_core.specs.Acts.Purpose.{Deletes}
use Rattle.part_core.specs.Ops.{cursor_of, scope_of}
use Rattle.part_core.specs.Rows.{is_fixed}
use Rattle.std.specs.Option.{option_map}
use Rattle.part_rows.specs.Shown.{Shown, state_of}
use Rattle.part_engine.specs.Deletions.{shown_swept}
use Rattle.part_engine.proofs.LeadLemmas.{sound}
use Rattle.part_engine.proofs.VisitLemmas.{visit_refused, delete_visit_says, chosen_each}
use Rattle.part_engine.proofs.stored.StoredPart.visit_delete.Goals as goal

pub returns-then-not-is_inside-clause-leads : goal.returns-then-not-is_inside-clause-leads
returns-then-not-is_inside-clause-leads g c = λ n w keeps state.
    let s = visit_refused c.args.self.now.settings (state_of w c.args.self.now.fixes.items c.args.self.now.base) n Deletes c.args.look.now.code.now (scope_of c.args.look.now.scope) c.args.look.now.wanted (c.is_inside.ensures.inside w c.args.self.now.fixes.items ∙ c.if-not-is_inside.true) in
    (s.0, (w, keeps, s.1))

pub returns-clause-leads : goal.returns-clause-leads
returns-clause-leads g c = λ n w keeps state.
    let inside = c.is_inside.ensures.inside w c.args.self.now.fixes.items ∙ c.if-not-is_inside.false in
    let left = c.in_ok-left.field-0.left.items in
    let next = option_map cursor_of c.in_ok-left.field-0.next in
    let chosen = c.in_ok-left.ensures w keeps.there (sound c.args.self.now.settings w c.args.self.now.fixes.items c.args.self.now.base state) in
    let each = chosen_each c.args.self.now.settings w c.args.self.now.fixes.items c.args.self.now.base c.args.look.now.code.now (scope_of c.args.look.now.scope) c.args.look.now.wanted left c.in_ok-left.field-0.total next state inside chosen in
    let s = delete_visit_says c.args.self.now.settings w c.args.self.now.fixes.items c.args.self.now.base n c.args.look.now.code.now (scope_of c.args.look.now.scope) c.args.look.now.wanted left c.in_ok-left.field-0.total next state inside chosen in
    let v : Shown = shown_swept (is_fixed c.args.self.now.fixes.items) left w in
    (s.0, (v, c.sweep.ensures.rows w keeps (sound c.args.self.now.settings w c.args.self.now.fixes.items c.args.self.now.base state) each, ap (λ (fs : List ℕ). state_of v fs c.sweep.new.self.base) c.sweep.ensures.fixes ∙ ap (λ base. state_of v c.args.self.now.fixes.items base) c.sweep.ensures.base ∙ s.1))
