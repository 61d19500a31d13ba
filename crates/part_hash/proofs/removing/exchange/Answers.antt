use Rattle.std.proofs.Common.{◌≡◌, List, refl, sym, subst, ◌∙◌}
use Rattle.std.specs.Prelude.{true, false}
use Rattle.slab.specs.Slab.{get}
use Rattle.part_core.specs.Rows.{Row, is_empty, objects_at}
use Rattle.part_rows.specs.Shown.{rows_exchanged}
use Rattle.part_engine.proofs.SetLemmas.{exchanged_none}
use Rattle.part_hash.specs.Standing.{Stands}
use Rattle.part_hash.proofs.ExchangeLemmas.{exchanged_in, exchanged_out}
use Rattle.part_hash.proofs.StandLemmas.{made_there}
use Rattle.part_hash.proofs.WriteLemmas.{live_noted, written_as}
use Rattle.part_hash.proofs.removing.exchange.Goals as goal

pub returns-in_default-clause-done : goal.returns-in_default-clause-done
returns-in_default-clause-done g c = λ rows s.
    let none = c.in_default.ensures.found c.args.settings rows s in
    (sym none, refl, subst (λ (rs : List Row). Stands c.args.settings c.args.store.now rs) (exchanged_none c.args.key.now c.args.held.now c.args.keeps rows none) s)

pub returns-then-is_empty-clause-done : goal.returns-then-is_empty-clause-done
returns-then-is_empty-clause-done g c = λ rows s.
    let found = c.in-Some.ensures.found c.args.settings rows s in
    let made = made_there (get c.args.store.now.rows c.in-Some.at) (c.args.key.now, objects_at rows c.args.key.now) found.1 in
    let done = c.empty_at.ensures.done c.args.settings rows ((c.args.key.now, objects_at rows c.args.key.now), made.0) c.spread_of.ensures.value s made.1 in
    (sym found.0, done.0, subst (λ (rs : List Row). Stands c.args.settings c.empty_at.new.store rs) (exchanged_out c.args.key.now c.args.held.now c.args.keeps rows (sym c.is_empty.ensures ∙ c.if-is_empty.true)) done.1)

pub returns-clause-done : goal.returns-clause-done
returns-clause-done g c = λ rows s.
    let found = c.in-Some.ensures.found c.args.settings rows s in
    let made = made_there (get c.args.store.now.rows c.in-Some.at) (c.args.key.now, objects_at rows c.args.key.now) found.1 in
    let done = c.exchange_at.ensures.done ((c.args.key.now, objects_at rows c.args.key.now), made.0) made.1 in
    let some : is_empty c.args.held.now ≡ false = sym c.is_empty.ensures ∙ c.if-is_empty.false in
    (sym found.0, done.0, written_as c.args.settings c.args.store.now _ rows (rows_exchanged c.args.key.now c.args.held.now c.args.keeps rows) c.in-Some.at made.0 c.args.key.now (objects_at rows c.args.key.now) c.args.held.now (exchanged_in c.args.key.now c.args.held.now c.args.keeps rows some) s made.1 done.1 refl refl refl refl refl refl (live_noted c.args.key.now c.args.held.now c.args.store.now.lost c.args.store.now.dying.items c.in-Some.at some))

pub invariant_of-store : goal.invariant_of-store
invariant_of-store g c = record {
  is_base = c.args.store.now.is_base;
  only = λ mixed at has. c.exchange_at.ensures.same at ∙ c.args.store.now.only mixed at has;
}
