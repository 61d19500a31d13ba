use Rattle.std.proofs.Common.{sym, subst}
use Rattle.std.specs.Prelude.{◌<◌, All}
use Rattle.std.proofs.lemmas.List.Elements.{All-filter}
use Rattle.part_rows.specs.declared.place.Place.{Place}
use Rattle.part_hash.specs.Places.{is_standing}
use Rattle.part_hash.specs.Slots.{Relists}
use Rattle.part_hash.proofs.SlotLemmas.{packed}
use Rattle.part_hash.proofs.places.Slot.make_room.Goals as goal

pub returns-then-count-self-clause-kept : goal.returns-then-count-self-clause-kept
returns-then-count-self-clause-kept g c =
    subst (λ v. Relists c.args.rows.now c.args.self.now v) (sym c.pack.ensures) (packed c.args.rows.now c.args.self.now)

pub returns-then-count-self-clause-last : goal.returns-then-count-self-clause-last
returns-then-count-self-clause-last g c = λ made below.
    subst (λ v. All (λ (p : Place). p.made < made) v.0) (sym c.pack.ensures) (All-filter (is_standing c.args.rows.now) (λ (p : Place). p.made < made) c.args.self.now.0 below)
