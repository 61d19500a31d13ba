use Rattle.std.proofs.Common.{◌≡◌, sym, ◌∙◌, ap, subst, ◌++◌, List, ◌∷◌, [], take}
use Rattle.std.specs.Prelude.{false}
use Rattle.std.proofs.lemmas.List.{take_more}
use Rattle.part_core.specs.Rows.{Row, has_row}
use Rattle.part_plain.proofs.PlaceLemmas.{place_here, none_more}
use Rattle.part_plain.proofs.places.place_of.Goals as goal

pub returns-then-is_of : goal.returns-then-is_of
returns-then-is_of g c =
    place_here c.args.key.now c.args.rows.now c.loop-place.place c.index-rows-place.result c.loop-place-test.true c.index-rows-place.is c.loop-place.invariant (sym c.is_of.ensures ∙ c.if-is_of.true)

pub loop-place-preserved : goal.loop-place-preserved
loop-place-preserved g c =
    let more = take_more c.args.rows.now c.loop-place.place c.index-rows-place.result c.loop-place-test.true in
    subst (λ (rows : List Row). has_row rows c.args.key.now ≡ false) (sym (more ∙ ap (λ (r : Row). take c.loop-place.place c.args.rows.now ++ r ∷ []) (sym c.index-rows-place.is)))
    (none_more c.args.key.now (take c.loop-place.place c.args.rows.now) c.index-rows-place.result c.loop-place.invariant (sym c.is_of.ensures ∙ c.if-is_of.false))
