use Rattle.std.proofs.Common.{rules, arith, length-append, ◌∷◌, []}
use Rattle.std.specs.Prelude.{◌<◌, All}
use Rattle.part_rows.specs.declared.place.Place.{Place}
use Rattle.part_hash.proofs.PlaceLemmas.{rising_more}
use Rattle.part_hash.proofs.places.Slot.put_last.Goals as goal

pub invariant_of-self-2 : goal.invariant_of-self-2
invariant_of-self-2 g c =
    let last : All (λ (p : Place). p.made < c.args.place.made) c.self.inside.places.items = search rules in
    rw c.in_ok-push.ensures.items (rising_more c.self.inside.places.items c.args.place c.self.invariant.0 last, omega (arith, c.self.invariant.1, length-append c.self.inside.places.items (c.args.place ∷ [])))
