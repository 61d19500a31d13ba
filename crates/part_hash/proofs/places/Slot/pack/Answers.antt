use Rattle.std.proofs.Common.{rules, ◌≡◌, arith, ap, sym, ◌∙◌, subst}
use Rattle.std.proofs.lemmas.Fn.{filter_same}
use Rattle.part_hash.specs.Places.{is_standing, standing}
use Rattle.part_hash.specs.Slots.{AreRising}
use Rattle.part_hash.proofs.PlaceLemmas.{rising_filtered}
use Rattle.part_hash.proofs.places.Slot.pack.Goals as goal

pub invariant_of-self : goal.invariant_of-self
invariant_of-self g c =
    let is : c.retain.new.self.items ≡ standing c.args.rows.now c.self.inside.places.items = filter_same _ (is_standing c.args.rows.now) _ (λ x b f k. search rules) _ _ c.retain.ensures.filtered in
    (subst AreRising (sym is) (rising_filtered (is_standing c.args.rows.now) c.self.inside.places.items c.self.invariant.0), omega arith)

pub returns : goal.returns
returns g c =
    let is : c.retain.new.self.items ≡ standing c.args.rows.now c.self.inside.places.items = filter_same _ (is_standing c.args.rows.now) _ (λ x b f k. search rules) _ _ c.retain.ensures.filtered in
    ap (λ ps. (ps, 0, 0)) (is ∙ ap (λ v. standing c.args.rows.now v.0) c.self.view_is)
