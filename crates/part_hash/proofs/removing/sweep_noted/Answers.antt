use Rattle.std.proofs.Common.{rules, ℕ, ◌≡◌, ◌≤◌, ◌<◌, List, refl, ap, ◌∙◌, length, get_or}
use Rattle.part_hash.proofs.SweepLemmas.{noted_first, noted_next, noted_none}
use Rattle.part_hash.proofs.removing.sweep_noted.Goals as goal

pub loop-number-init : goal.loop-number-init
loop-number-init g c =
    (refl, refl, λ o rows spread all s. (rows, s, refl, noted_first c.args.store.now.rows c.args.store.now.dying.items c.args.store.now.lost all s.noted))

pub loop-number-preserved : goal.loop-number-preserved
loop-number-preserved g c =
    let ns : List ℕ = c.args.store.now.dying.items in
    let is : c.noted_at-at.result ≡ get_or ns c.loop-number.number 0 = c.noted_at-at.ensures ∙ ap (λ xs. get_or xs c.loop-number.number 0) (c.as_slice.ensures.value ∙ c.loop-number.invariant.1) in
    let within : c.loop-number.number < length ns = search rules in (
      c.sweep.ensures.slots ∙ c.loop-number.invariant.0,
      c.sweep.ensures.dying ∙ c.loop-number.invariant.1,
      λ o rows spread all s.
          let before = c.loop-number.invariant.2 o rows spread all s in
          let after = c.sweep.ensures.done o before.0 spread before.1 in
          (after.0, after.1, after.2 ∙ before.2, noted_next c.loop-number.store.rows c.sweep.new.store.rows ns c.loop-number.number c.noted_at-at.result is within after.4 after.3 before.3),
    )

pub returns-clause-done : goal.returns-clause-done
returns-clause-done g c = λ o rows spread all s.
    let ns : List ℕ = c.args.store.now.dying.items in
    let last = c.loop-number.invariant.2 o rows spread all s in
    let over : length ns ≤ c.loop-number.number = search rules in
    (last.0, last.1, last.2, noted_none c.loop-number.store.rows ns c.loop-number.number over last.3)

pub returns-clause-slots : goal.returns-clause-slots
returns-clause-slots g c = c.loop-number.invariant.0
