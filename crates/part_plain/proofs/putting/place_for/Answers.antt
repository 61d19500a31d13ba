use Rattle.std.proofs.Common.{◌≡◌, List, [], ◌∷◌, ◌++◌, length, ap, sym, subst, ◌∙◌, arith}
use Rattle.term_core.specs.Datum.{Datum}
use Rattle.part_core.specs.Rows.{Row, has_row}
use Rattle.part_plain.specs.Places.{IsPlace}
use Rattle.part_plain.proofs.PlaceLemmas.{place_there}
use Rattle.part_plain.proofs.PutLemmas.{key_there, place_behind}
use Rattle.part_plain.proofs.putting.place_for.Goals as goal

pub returns-in-Some-clause-rows : goal.returns-in-Some-clause-rows
returns-in-Some-clause-rows g c =
    key_there c.args.key.now c.args.rows.now.items (ap (λ (rs : List Row). has_row rs c.args.key.now) (sym c.deref.ensures.value) ∙ place_there c.in-Some.ensures)

pub returns-in_ok-push-in-None-clause-place : goal.returns-in_ok-push-in-None-clause-place
returns-in_ok-push-in-None-clause-place g c =
    let rows : List Row = c.args.rows.now.items in
    let count : length rows ≡ c.len-place.result = omega (arith, ap length c.deref.ensures.value, c.deref.ensures.len, c.len-place.ensures) in
    let made : c.push.new.self.items ≡ rows ++ (c.args.key.now, []) ∷ [] = c.in_ok-push-in-None.ensures.items ∙ ap (λ (r : Row). rows ++ r ∷ []) (c.new.ensures ∙ ap (λ (k : Datum). (k, [])) c.in_ok-copy-in-None.ensures) in
    subst (λ (rs : List Row). IsPlace c.args.key.now rs c.len-place.result) (sym made) (place_behind c.args.key.now rows c.len-place.result (ap (λ (rs : List Row). has_row rs c.args.key.now) (sym c.deref.ensures.value) ∙ c.in-None.ensures) count)
