use Rattle.std.proofs.Common.{rules, ◌≡◌, ◌<◌, ◌/◌, ◌%◌, List, length, ap, subst, ◌∙◌}
use Rattle.std.proofs.lemmas.Result.{err_from_is_err_and}
use Rattle.part_hash.specs.Places.{spread}
use Rattle.part_hash.specs.Slots.{Listing}
use Rattle.part_hash.proofs.ListedLemmas.{listed_kept, listed_more}
use Rattle.part_hash.proofs.adding.list_in.Goals as goal

pub returns-clause-listed : goal.returns-clause-listed
returns-clause-listed g c = λ new row list is added listed.
    let slots : List Listing = c.args.slots.now.items in
    let count : c.len.result ≡ length slots = search rules in
    listed_more c.args.settings c.args.rows.now new slots list c.args.place row c.args.hash c.slot_of-number.result c.index_mut.result.now c.push.new.self c.requires is (c.slot_of-number.ensures.value ∙ ap (λ d. (c.args.hash / d) % c.len.result) c.spread_of.ensures.value ∙ ap (λ n. (c.args.hash / spread c.args.settings) % n) count) c.index_mut.ensures.value c.in_ok-push.ensures.done added listed

pub returns-in_err-push-clause-refused : goal.returns-in_err-push-clause-refused
returns-in_err-push-clause-refused g c =
    let slots : List Listing = c.args.slots.now.items in
    let count : c.len.result ≡ length slots = search rules in
    let within : c.slot_of-number.result < length slots = subst (λ n. c.slot_of-number.result < n) count c.slot_of-number.ensures.within in
    let back = err_from_is_err_and c.from_residual.result c.from_residual.ensures.1 in
    rw back.1 (λ made list listed. listed_kept c.args.settings c.args.rows.now made slots list c.slot_of-number.result c.index_mut.result.now c.push.new.self within c.index_mut.ensures.value c.in_err-push.ensures.refused listed)
