use Rattle.std.proofs.Common.{rules, ◌≡◌, ◌-◌, length, get_or}
use Rattle.std.proofs.lemmas.Bool.{ltb-true}
use Rattle.part_rows.specs.declared.place.Place.{Place}
use Rattle.part_hash.proofs.PlaceLemmas.{after_last}
use Rattle.part_hash.proofs.places.is_last.Goals as goal

pub returns-in-Some : goal.returns-in-Some
returns-in-Some c = λ less rising.
    let last : Place = c.in-Some.last.now in
    let is : get_or c.args.places.now (length c.args.places.now - 1) last ≡ last = search rules in
    after_last c.args.places.now c.args.made last rising is (ltb-true _ _ less)
