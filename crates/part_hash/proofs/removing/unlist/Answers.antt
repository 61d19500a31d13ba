use Rattle.std.proofs.Common.{rules, ◌≡◌, ◌<◌, ◌/◌, ◌%◌, List, length, ap, sym, subst, ◌∙◌}
use Rattle.part_hash.specs.Slots.{AreListedWithGone, Listing}
use Rattle.part_hash.proofs.ListedLemmas.{listed_lose}
use Rattle.part_hash.proofs.removing.unlist.Goals as goal

pub returns-clause-listed : goal.returns-clause-listed
returns-clause-listed g c = λ o total list gone.
    let slots : List Listing = c.args.slots.now.items in
    let count : c.len.result ≡ length slots = search rules in
    let number : c.slot_of-number.result ≡ (c.args.hash / c.args.spread) % length slots = c.slot_of-number.ensures.value ∙ ap (λ n. (c.args.hash / c.args.spread) % n) count in
    let within : c.slot_of-number.result < length slots = subst (λ n. c.slot_of-number.result < n) count c.slot_of-number.ensures.within in
    listed_lose o c.args.rows.now total slots list c.slot_of-number.result c.index_mut.result.now c.lose.new.self within c.index_mut.ensures.value c.lose.ensures (subst (λ n. AreListedWithGone o c.args.rows.now total slots n list) (sym number) gone)
