use Rattle.std.proofs.Common.{◌≡◌, ◌++◌, ◌==◌, List, ap, sym, ◌∙◌, length}
use Rattle.std.specs.Prelude.{filter, flat_map}
use Rattle.std.specs.List.{range_with_len}
use Rattle.part_core.specs.Settings.{class_at}
use Rattle.part_rows.specs.declared.place.Place.{Place}
use Rattle.part_hash.specs.Slots.{listing_at}
use Rattle.part_hash.specs.Places.{passes}
use Rattle.part_hash.specs.Classes.{part_of_class, slot_of_class}
use Rattle.part_hash.proofs.ClassLemmas.{flat_more}
use Rattle.part_hash.proofs.looking.places_by_slot.Goals as goal

pub loop-turn-preserved : goal.loop-turn-preserved
loop-turn-preserved g c =
    let part = part_of_class c.args.settings c.args.base c.args.class c.args.store.now.rows c.args.store.now.slots.items in
    let slot : c.slot_in.result.now ≡ listing_at c.args.store.now.slots.items (slot_of_class (length c.args.store.now.slots.items) c.args.base c.args.class c.loop-turn.turn) = c.slot_in.ensures ∙ ap (λ vs. listing_at vs (slot_of_class (length vs) c.args.base c.args.class c.loop-turn.turn)) c.as_slice-slots.ensures.value in
    let some : c.places-some.result.now ≡ (listing_at c.args.store.now.slots.items (slot_of_class (length c.args.store.now.slots.items) c.args.base c.args.class c.loop-turn.turn)).0 = c.places-some.ensures.places ∙ ap (λ v. v.0) slot in
    c.in_ok-gather_places.ensures
    ∙ ap (λ (ps : List Place). ps ++ filter (passes (λ k. class_at c.args.settings c.args.base k == c.args.class) c.args.store.now.rows) c.places-some.result.now) c.loop-turn.invariant
    ∙ ap (λ (ps : List Place). flat_map part (range_with_len 0 c.loop-turn.turn) ++ filter (passes (λ k. class_at c.args.settings c.args.base k == c.args.class) c.args.store.now.rows) ps) some
    ∙ sym (flat_more part c.loop-turn.turn)
