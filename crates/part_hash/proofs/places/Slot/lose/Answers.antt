use Rattle.std.proofs.Common.{rules, ◌≡◌, ◌≤◌, ◌+◌, arith, ap, sym, subst, length}
use Rattle.part_hash.specs.Slots.{Listing, Relists, with_gone}
use Rattle.part_hash.proofs.SlotLemmas.{cleared, fewer_gone, packed, relists_both}
use Rattle.part_hash.proofs.places.Slot.lose.Goals as goal

pub returns-then-count-gone : goal.returns-then-count-gone
returns-then-count-gone g c =
    let v : Listing = c.args.self.now in
    let gone : c.self.inside.gone ≡ v.1 = ap (λ w. w.1) c.self.view_is in
    let few : c.saturating_add-self-inside.result ≤ v.1 + 1 = omega (arith, c.saturating_add-self-inside.ensures, gone) in
    let count : c.len-count.result ≡ length c.self.inside.places.items = search rules in
    let size : length c.self.inside.places.items ≡ length v.0 = ap (λ w. length w.0) c.self.view_is in
    let all : length v.0 ≤ c.saturating_add-self-inside.result = omega (arith, c.if-count-gone.true, count, size) in
    subst (λ w. Relists c.args.rows.now (with_gone v) w) (sym c.clear.ensures) (cleared c.args.rows.now v c.saturating_add-self-inside.result few all)

pub returns-then-are_many : goal.returns-then-are_many
returns-then-are_many g c =
    let v : Listing = c.args.self.now in
    let gone : c.self.inside.gone ≡ v.1 = ap (λ w. w.1) c.self.view_is in
    let few : c.saturating_add-self-inside.result ≤ v.1 + 1 = omega (arith, c.saturating_add-self-inside.ensures, gone) in
    let counted : Listing = (c.self.inside.places.items, c.saturating_add-self-inside.result, c.self.inside.front) in
    relists_both c.args.rows.now (with_gone v) counted c.pack.new.self
    (subst (λ w. Relists c.args.rows.now (with_gone v) (w.0, c.saturating_add-self-inside.result, w.2)) (sym c.self.view_is) (fewer_gone c.args.rows.now v c.saturating_add-self-inside.result few))
    (subst (λ w. Relists c.args.rows.now counted w) (sym c.pack.ensures) (packed c.args.rows.now counted))

pub returns-else-are_many : goal.returns-else-are_many
returns-else-are_many g c =
    let v : Listing = c.args.self.now in
    let gone : c.self.inside.gone ≡ v.1 = ap (λ w. w.1) c.self.view_is in
    let few : c.saturating_add-self-inside.result ≤ v.1 + 1 = omega (arith, c.saturating_add-self-inside.ensures, gone) in
    let counted : Listing = (c.self.inside.places.items, c.saturating_add-self-inside.result, c.self.inside.front) in
    relists_both c.args.rows.now (with_gone v) counted c.pass.new.self
    (subst (λ w. Relists c.args.rows.now (with_gone v) (w.0, c.saturating_add-self-inside.result, w.2)) (sym c.self.view_is) (fewer_gone c.args.rows.now v c.saturating_add-self-inside.result few))
    c.pass.ensures
