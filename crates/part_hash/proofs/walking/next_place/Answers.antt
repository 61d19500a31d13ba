use Rattle.std.proofs.Common.{rules, arith, ℕ, ◌≡◌, ◌==◌, ◌<◌, ◌/◌, ◌+◌, suc, List, length, ap, ◌∙◌, drop}
use Rattle.std.specs.Prelude.{Bool, ◌&&◌, false, find, Option}
use Rattle.std.specs.Option.{option_map_or}
use Rattle.part_core.specs.Rows.{Row, is_live}
use Rattle.part_core.specs.Settings.{class_at}
use Rattle.part_rows.specs.declared.place.Place.{Place}
use Rattle.part_hash.specs.Classes.{earlier, earliest, is_next, slot_of_class, step_of}
use Rattle.part_hash.specs.Places.{row_of}
use Rattle.part_hash.specs.Slots.{Listing, listing_at}
use Rattle.part_hash.proofs.PlaceLemmas.{next_past}
use Rattle.part_hash.proofs.TurnLemmas.{slot_there}
use Rattle.part_hash.proofs.walking.next_place.Goals as goal

pub loop-turn-preserved : goal.loop-turn-preserved
loop-turn-preserved g c = λ rows s.
    let slab = c.args.store.now.rows in
    let slots : List Listing = c.args.store.now.slots.items in
    let turn : ℕ = c.loop-turn.turn in
    let number : ℕ = slot_of_class (length slots) c.args.base c.args.class turn in
    let v : Listing = listing_at slots number in
    let test : Place → Bool = is_next c.args.settings c.args.base c.args.class c.args.from slab in
    let of_row : Row → Bool = λ r. is_live r && (class_at c.args.settings c.args.base r.0 == c.args.class) in
    let in_slot : ℕ → Option Place = λ n. find test (listing_at slots (slot_of_class (length slots) c.args.base c.args.class n)).0 in
    let slot : c.slot_in.result.now ≡ v = c.slot_in.ensures ∙ ap (λ vs. listing_at vs (slot_of_class (length vs) c.args.base c.args.class turn)) c.as_slice-slots.ensures.value in
    let front : c.from_front.result.now ≡ drop v.2 v.0 = c.from_front.ensures.places ∙ ap (λ w. drop w.2 w.0) slot in
    let below : turn < length slots / step_of (length slots) c.args.base = search rules in
    let listed = s.listed number (slot_there (length slots) c.args.base c.args.class turn c.requires.base below) in
    let next : c.next_among-found.result ≡ in_slot turn =
    c.next_among-found.ensures
    ∙ c.later-places.ensures c.from_front.ensures.rising (λ p. option_map_or of_row (row_of slab p) false)
    ∙ ap (find test) front
    ∙ next_past slab of_row c.args.from v.2 v.0 listed.passed in
    let one : suc turn ≡ turn + 1 = omega arith in
    c.earlier-next.ensures
    ∙ ap (λ q. earlier c.loop-turn.next q) next
    ∙ ap (λ q. earlier q (in_slot turn)) (c.loop-turn.invariant rows s)
    ∙ ap (earliest in_slot) one

pub returns : goal.returns
returns g c = λ rows s.
    let slots : List Listing = c.args.store.now.slots.items in
    let over : c.loop-turn.turn ≡ length slots / step_of (length slots) c.args.base = search rules in
    c.loop-turn.invariant rows s ∙ ap (earliest (λ n. find (is_next c.args.settings c.args.base c.args.class c.args.from c.args.store.now.rows) (listing_at slots (slot_of_class (length slots) c.args.base c.args.class n)).0)) over
