use Rattle.std.proofs.Common.{◌≡◌, ap, ◌∙◌, get_or, arith}
use Rattle.part_engine.proofs.LeadLemmas.{fix_says, fix_refused}
use Rattle.part_engine.proofs.stored.StoredPart.fix.Goals as goal

pub returns-in_default-clause-leads : goal.returns-in_default-clause-leads
returns-in_default-clause-leads g c = λ w keeps state.
    let here : c.fixes_at.result ≡ get_or c.args.self.now.fixes.items c.args.session 0 = c.fixes_at.ensures ∙ ap (λ fs. get_or fs c.args.session 0) c.as_slice.ensures.value in
    let full = rw here at c.in_default.ensures in
    let s = fix_refused c.args.self.now.settings w c.args.self.now.fixes.items c.args.self.now.base c.args.session full in
    (s.0, (w, keeps, s.1))

pub returns-clause-leads : goal.returns-clause-leads
returns-clause-leads g c = λ w keeps state.
    let here : c.fixes_at.result ≡ get_or c.args.self.now.fixes.items c.args.session 0 = c.fixes_at.ensures ∙ ap (λ fs. get_or fs c.args.session 0) c.as_slice.ensures.value in
    let counted = rw here at c.in-Some.ensures in
    let s = fix_says c.args.self.now.settings w c.args.self.now.fixes.items c.args.self.now.base c.args.session (omega (arith, c.requires, c.args.self.now.sessions)) counted.0 in
    rw (c.from.ensures, counted.1) (s.0, (w, keeps, s.1))
