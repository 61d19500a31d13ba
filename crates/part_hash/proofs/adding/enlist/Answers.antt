use Rattle.std.proofs.Common.{rules, ◌≡◌, ◌+◌, ◌++◌, List, [], ◌∷◌, sym, subst}
use Rattle.part_hash.specs.Slots.{AreListed, Listing}
use Rattle.part_hash.proofs.adding.enlist.Goals as goal

pub returns-in_ok-wide-clause-listed : goal.returns-in_ok-wide-clause-listed
returns-in_ok-wide-clause-listed g c = λ new row list is added low listed.
    let now : c.replace.new.dest.items ≡ c.in_ok-wide.wide.items = search rules in
    let was : AreListed c.args.settings c.args.rows.now c.args.place.made c.as_slice-then-are_too_few.result.now list = subst (λ (vs : List Listing). AreListed c.args.settings c.args.rows.now c.args.place.made vs list) (sym c.as_slice-then-are_too_few.ensures.value) listed in
    subst (λ (vs : List Listing). AreListed c.args.settings new (c.args.place.made + 1) vs (list ++ (c.args.place, row) ∷ [])) (sym now) (c.in_ok-wide.ensures.listed new row list is added low was)

pub returns-in_ok-list_in-clause-listed : goal.returns-in_ok-list_in-clause-listed
returns-in_ok-list_in-clause-listed g c = λ new row list is added low listed.
    c.in_ok-list_in.ensures.listed new row list is added listed
