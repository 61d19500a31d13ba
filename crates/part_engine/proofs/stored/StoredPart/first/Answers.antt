use Rattle.std.proofs.Common.{◌∙◌}
use Rattle.part_engine.proofs.LeadLemmas.{first_says, sound}
use Rattle.part_engine.proofs.stored.StoredPart.first.Goals as goal

pub returns : goal.returns
returns g c = λ n w keeps state.
    let s = first_says c.args.self.now.settings w c.args.self.now.fixes.items c.args.self.now.base n c.in_ok-key.key state (c.in_ok-key.ensures ∙ c.first_key.ensures w keeps.there (sound c.args.self.now.settings w c.args.self.now.fixes.items c.args.self.now.base state)) in
    (s.0, (w, keeps, s.1))
