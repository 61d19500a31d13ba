use Rattle.std.proofs.Common.{arith, ◌≡◌, ◌*◌, ap, sym, subst, ◌∙◌, length}
use Rattle.std.proofs.lemmas.List.FromFn.{length-map-range_with_len}
use Rattle.part_hash.specs.Slots.{AreListed, half_at}
use Rattle.part_hash.proofs.AddLemmas.{base_some}
use Rattle.part_hash.proofs.ListedLemmas.{lists_doubled}
use Rattle.part_hash.proofs.adding.list_doubled.Goals as goal

pub list_in-requires : goal.list_in-requires
list_in-requires g c =
    let size : length c.in_ok-wide.wide.items ≡ 2 * length c.args.slots.now = ap length c.in_ok-wide.ensures ∙ length-map-range_with_len (half_at c.args.slots.now) 0 (2 * length c.args.slots.now) in
    omega (arith, size, base_some (length c.args.slots.now) c.requires.base)

pub returns-clause-count : goal.returns-clause-count
returns-clause-count g c =
    c.list_in.ensures.count ∙ ap length c.in_ok-wide.ensures ∙ length-map-range_with_len (half_at c.args.slots.now) 0 (2 * length c.args.slots.now)

pub returns-clause-listed : goal.returns-clause-listed
returns-clause-listed g c = λ new row list is added low listed.
    c.in_ok-list_in.ensures.listed new row list is added
    (subst (λ vs. AreListed c.args.settings c.args.rows.now c.args.place.made vs list) (sym c.in_ok-wide.ensures)
    (lists_doubled c.args.settings c.args.rows.now c.args.place.made c.args.slots.now list (base_some (length c.args.slots.now) c.requires.base) c.requires.base low listed))
