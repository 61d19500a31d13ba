use Rattle.part_engine.proofs.LeadLemmas.{member_says, sound}
use Rattle.part_engine.proofs.stored.StoredPart.member.Goals as goal

pub returns : goal.returns
returns g c = λ n w keeps state.
    let s = member_says c.args.self.now.settings w c.args.self.now.fixes.items c.args.self.now.base n c.args.key.now c.has_objects.result state (c.has_objects.ensures w keeps.there (sound c.args.self.now.settings w c.args.self.now.fixes.items c.args.self.now.base state)) in
    (s.0, (w, keeps, s.1))
