use Rattle.std.proofs.Common.{◌∙◌}
use Rattle.std.specs.Option.{option_map}
use Rattle.part_core.specs.Acts.Purpose.{Answers}
use Rattle.part_core.specs.Ops.{cursor_of, scope_of}
use Rattle.part_rows.specs.Shown.{state_of}
use Rattle.part_engine.proofs.LeadLemmas.{sound}
use Rattle.part_engine.proofs.VisitLemmas.{visit_refused, visit_says}
use Rattle.part_engine.proofs.stored.StoredPart.visit.Goals as goal

pub returns-then-not-is_inside : goal.returns-then-not-is_inside
returns-then-not-is_inside g c = λ n w keeps state.
    let s = visit_refused c.args.self.now.settings (state_of w c.args.self.now.fixes.items c.args.self.now.base) n Answers c.args.look.now.code.now (scope_of c.args.look.now.scope) c.args.look.now.wanted (c.is_inside.ensures.inside w c.args.self.now.fixes.items ∙ c.if-not-is_inside.true) in
    (s.0, (w, keeps, s.1))

pub returns : goal.returns
returns g c = λ n w keeps state.
    let inside = c.is_inside.ensures.inside w c.args.self.now.fixes.items ∙ c.if-not-is_inside.false in
    let found = c.in_ok-answers.ensures w keeps.there (sound c.args.self.now.settings w c.args.self.now.fixes.items c.args.self.now.base state) in
    let s = visit_says c.args.self.now.settings w c.args.self.now.fixes.items c.args.self.now.base n c.args.look.now.code.now (scope_of c.args.look.now.scope) c.args.look.now.wanted c.in_ok-answers.field-0.answers.items (option_map cursor_of c.in_ok-answers.field-0.next) state inside found in
    (s.0, (w, keeps, s.1))
