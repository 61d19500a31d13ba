use Rattle.std.proofs.Common.{sym, ◌∙◌}
use Rattle.part_engine.proofs.LeadLemmas.{next_says, next_refused, sound}
use Rattle.part_engine.proofs.stored.StoredPart.next.Goals as goal

pub returns-then-not-has_place : goal.returns-then-not-has_place
returns-then-not-has_place g c = λ n w keeps state.
    let s = next_refused c.args.self.now.settings w c.args.self.now.fixes.items c.args.self.now.base n c.args.key.now (sym (c.has_place.ensures w keeps.there (sound c.args.self.now.settings w c.args.self.now.fixes.items c.args.self.now.base state)) ∙ c.if-not-has_place.true) in
    (s.0, (w, keeps, s.1))

pub returns : goal.returns
returns g c = λ n w keeps state.
    let placed = sym (c.has_place.ensures w keeps.there (sound c.args.self.now.settings w c.args.self.now.fixes.items c.args.self.now.base state)) ∙ c.if-not-has_place.false in
    let s = next_says c.args.self.now.settings w c.args.self.now.fixes.items c.args.self.now.base n c.args.key.now c.in_ok-next.next state placed (c.in_ok-next.ensures ∙ c.following_key.ensures w keeps.there (sound c.args.self.now.settings w c.args.self.now.fixes.items c.args.self.now.base state) placed) in
    (s.0, (w, keeps, s.1))
