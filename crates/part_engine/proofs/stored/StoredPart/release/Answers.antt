use Rattle.std.proofs.Common.{◌≡◌, ℕ, List, ap, ◌∙◌, set}
use Rattle.part_rows.specs.Dead.{shown_settled}
use Rattle.part_rows.specs.Shown.{Shown, state_of}
use Rattle.part_engine.proofs.LeadLemmas.{release_says, settled_state}
use Rattle.part_engine.proofs.stored.StoredPart.release.Goals as goal

pub returns-clause-leads : goal.returns-clause-leads
returns-clause-leads g c = λ w keeps state.
    let counts : List ℕ = set c.args.self.now.fixes.items c.from.result 0 in
    let same : counts ≡ set c.args.self.now.fixes.items c.args.session 0 = ap (λ i. set c.args.self.now.fixes.items i 0) c.from.ensures in
    let v : Shown = shown_settled counts w in
    let settled = c.settle.ensures.settled w keeps in
    let s = release_says c.args.self.now.settings w c.args.self.now.fixes.items c.args.self.now.base c.args.session in (
      s.0,
      (v, settled.0, ap (λ (fs : List ℕ). state_of v fs c.settle.new.self.base) c.settle.ensures.fixes ∙ ap (λ base. state_of v counts base) settled.1 ∙ ap (λ (fs : List ℕ). settled_state w fs c.args.self.now.base) same ∙ s.1),
    )
