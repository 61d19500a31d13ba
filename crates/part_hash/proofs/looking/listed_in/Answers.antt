use Rattle.std.proofs.Common.{rules, ◌≡◌, ◌<◌, List, ap, sym, ◌∙◌, length, arith}
use Rattle.std.proofs.lemmas.List.{get_or_read}
use Rattle.part_core.specs.Visits.{in_class}
use Rattle.part_hash.specs.Places.{rows_of}
use Rattle.part_hash.specs.Slots.{Listing, listing_at, no_listing}
use Rattle.part_hash.proofs.ClassLemmas.{rows_in_slot}
use Rattle.part_hash.proofs.looking.listed_in.Goals as goal

pub returns-then-base-len : goal.returns-then-base-len
returns-then-base-len g c = λ rows s.
    let slots : List Listing = c.args.store.now.slots.items in
    let base : c.args.base ≡ length slots = search rules in
    let below : c.args.class < length slots = omega (arith, base, c.requires.class) in
    let slot : c.index.result.now ≡ listing_at slots c.args.class = get_or_read slots c.args.class c.index.result.now below c.index.ensures no_listing in
    ap (rows_of c.args.store.now.rows) (c.places.ensures.places ∙ ap (λ v. v.0) slot) ∙ rows_in_slot c.args.class s c.requires.parts below ∙ ap (λ b. in_class c.args._settings b c.args.class rows) (sym base)
