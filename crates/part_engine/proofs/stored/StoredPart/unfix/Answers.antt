use Rattle.std.proofs.Common.{◌≡◌, ℕ, List, ap, ◌∙◌, ◌-◌, get_or, set}
use Rattle.part_rows.specs.Dead.{shown_settled}
use Rattle.part_rows.specs.Shown.{Shown, state_of}
use Rattle.part_engine.proofs.LeadLemmas.{unfix_says, unfix_refused, settled_state}
use Rattle.part_engine.proofs.stored.StoredPart.unfix.Goals as goal

pub returns-in_default-clause-leads : goal.returns-in_default-clause-leads
returns-in_default-clause-leads g c = λ w keeps state.
    let here : c.fixes_at.result ≡ get_or c.args.self.now.fixes.items c.args.session 0 = c.fixes_at.ensures ∙ ap (λ fs. get_or fs c.args.session 0) c.as_slice.ensures.value in
    let none = rw here at c.in_default.ensures in
    let s = unfix_refused c.args.self.now.settings w c.args.self.now.fixes.items c.args.self.now.base c.args.session none in
    (s.0, (w, keeps, s.1))

pub returns-clause-leads : goal.returns-clause-leads
returns-clause-leads g c = λ w keeps state.
    let here : c.fixes_at.result ≡ get_or c.args.self.now.fixes.items c.args.session 0 = c.fixes_at.ensures ∙ ap (λ fs. get_or fs c.args.session 0) c.as_slice.ensures.value in
    let counts : List ℕ = set c.args.self.now.fixes.items c.from.result c.in-Some.count in
    let counted = rw here at c.in-Some.ensures in
    let same : counts ≡ set c.args.self.now.fixes.items c.args.session (get_or c.args.self.now.fixes.items c.args.session 0 - 1) = ap (λ i. set c.args.self.now.fixes.items i c.in-Some.count) c.from.ensures ∙ ap (set c.args.self.now.fixes.items c.args.session) counted.1 in
    let v : Shown = shown_settled counts w in
    let settled = c.settle.ensures.settled w keeps in
    let s = unfix_says c.args.self.now.settings w c.args.self.now.fixes.items c.args.self.now.base c.args.session counted.0 in (
      s.0,
      (v, settled.0, ap (λ (fs : List ℕ). state_of v fs c.settle.new.self.base) c.settle.ensures.fixes ∙ ap (λ base. state_of v counts base) settled.1 ∙ ap (λ (fs : List ℕ). settled_state w fs c.args.self.now.base) same ∙ s.1),
    )
