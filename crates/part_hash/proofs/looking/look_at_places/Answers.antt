use Rattle.std.proofs.Common.{rules, ◌<◌, length, get_or}
use Rattle.std.proofs.lemmas.List.{get_or_default}
use Rattle.part_rows.specs.declared.place.Place.{Place}
use Rattle.part_hash.proofs.ClassLemmas.{rows_more}
use Rattle.part_hash.proofs.looking.look_at_places.Goals as goal

pub loop-place-preserved : goal.loop-place-preserved
loop-place-preserved g c =
    let first : Place = record { made = 0; at = 0; low = 0 } in
    let place : Place = get_or c.args.places.now c.loop-place.place-index first in
    let within : c.loop-place.place-index < length c.args.places.now = search rules in
    rows_more c.args.rows.now c.args.places.now c.loop-place.place-index place c.loop-place.into.items c.look_at_place.new.into.items c.args.into.now.items within (get_or_default c.args.places.now c.loop-place.place-index first place within) c.loop-place.invariant c.in_ok-look_at_place.ensures
