use Rattle.std.proofs.Common.{List, ap, sym, subst, ◌∙◌}
use Rattle.std.specs.Prelude.{Bool}
use Rattle.part_core.specs.Rows.{Row, has_row}
use Rattle.part_rows.specs.Shown.{rows_exchanged}
use Rattle.part_plain.specs.Places.{IsPlace}
use Rattle.part_plain.proofs.PlaceLemmas.{place_there, place_objects, place_set}
use Rattle.part_plain.proofs.ExchangeLemmas.{exchanged_kept, exchanged_left}
use Rattle.part_engine.proofs.SetLemmas.{exchanged_none}
use Rattle.part_plain.proofs.exchanging.exchange.Goals as goal

pub returns-in_default-clause-rows : goal.returns-in_default-clause-rows
returns-in_default-clause-rows g c = λ apart.
    exchanged_none c.args.key.now c.args.held.now c.args.keeps c.args.rows.now.items (ap (λ (rs : List Row). has_row rs c.args.key.now) (sym c.deref.ensures.value) ∙ c.in_default.ensures)

pub returns-then-not-keeps-clause-found : goal.returns-then-not-keeps-clause-found
returns-then-not-keeps-clause-found g c =
    let place : IsPlace c.args.key.now c.args.rows.now.items c.in-Some.place = subst (λ (rs : List Row). IsPlace c.args.key.now rs c.in-Some.place) c.deref.ensures.value c.in-Some.ensures in
    sym (place_there place)

pub returns-then-not-keeps-clause-held : goal.returns-then-not-keeps-clause-held
returns-then-not-keeps-clause-held g c =
    let place : IsPlace c.args.key.now c.args.rows.now.items c.in-Some.place = subst (λ (rs : List Row). IsPlace c.args.key.now rs c.in-Some.place) c.deref.ensures.value c.in-Some.ensures in
    c.exchange.ensures.held ∙ ap (λ (r : Row). r.1) c.index_mut.ensures.value ∙ place_objects c.index_mut.result.now place

pub returns-then-not-keeps-clause-rows : goal.returns-then-not-keeps-clause-rows
returns-then-not-keeps-clause-rows g c = λ apart.
    let place : IsPlace c.args.key.now c.args.rows.now.items c.in-Some.place = subst (λ (rs : List Row). IsPlace c.args.key.now rs c.in-Some.place) c.deref.ensures.value c.in-Some.ensures in
    exchanged_left c.args.held.now c.index_mut.result.now c.exchange.new.self c.settle.new.rows.items place c.index_mut.ensures.value c.exchange.ensures.row apart (c.settle.ensures place.before place.after c.exchange.new.self place.count (place_set c.exchange.new.self place))
    ∙ ap (λ (b : Bool). rows_exchanged c.args.key.now c.args.held.now b c.args.rows.now.items) (sym c.if-not-keeps.true)

pub returns-else-not-keeps-clause-found : goal.returns-else-not-keeps-clause-found
returns-else-not-keeps-clause-found g c =
    let place : IsPlace c.args.key.now c.args.rows.now.items c.in-Some.place = subst (λ (rs : List Row). IsPlace c.args.key.now rs c.in-Some.place) c.deref.ensures.value c.in-Some.ensures in
    sym (place_there place)

pub returns-else-not-keeps-clause-held : goal.returns-else-not-keeps-clause-held
returns-else-not-keeps-clause-held g c =
    let place : IsPlace c.args.key.now c.args.rows.now.items c.in-Some.place = subst (λ (rs : List Row). IsPlace c.args.key.now rs c.in-Some.place) c.deref.ensures.value c.in-Some.ensures in
    c.exchange.ensures.held ∙ ap (λ (r : Row). r.1) c.index_mut.ensures.value ∙ place_objects c.index_mut.result.now place

pub returns-else-not-keeps-clause-rows : goal.returns-else-not-keeps-clause-rows
returns-else-not-keeps-clause-rows g c = λ apart.
    let place : IsPlace c.args.key.now c.args.rows.now.items c.in-Some.place = subst (λ (rs : List Row). IsPlace c.args.key.now rs c.in-Some.place) c.deref.ensures.value c.in-Some.ensures in
    exchanged_kept c.args.held.now c.index_mut.result.now c.exchange.new.self place c.index_mut.ensures.value c.exchange.ensures.row apart
    ∙ ap (λ (b : Bool). rows_exchanged c.args.key.now c.args.held.now b c.args.rows.now.items) (sym c.if-not-keeps.false)
