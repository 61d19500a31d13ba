use Rattle.std.proofs.Common.{◌≡◌, List, refl, ap, sym, ◌∙◌}
use Rattle.std.specs.Prelude.{Some, not, filter, if◌then◌else◌}
use Rattle.slab.specs.Slab.{get}
use Rattle.term_operand.specs.Order.{is_same}
use Rattle.part_core.specs.Rows.{Row, rows_at_key}
use Rattle.part_hash.proofs.WriteLemmas.{written_as}
use Rattle.part_hash.proofs.removing.empty_at.Goals as goal

pub invariant_of-store : goal.invariant_of-store
invariant_of-store g c = record {
  is_base = c.note.new.store.is_base;
  only = λ mixed at has. c.exchange_at.ensures.same at ∙ c.note.new.store.only mixed at has;
}

pub returns-then-keeps-clause-done : goal.returns-then-keeps-clause-done
returns-then-keeps-clause-done g c = λ o rows s spread stands there.
    let kept = c.note.ensures.kept o rows stands in
    let still : get c.note.new.store.rows c.args.at ≡ Some s = ap (λ slab. get slab c.args.at) c.note.ensures.rows ∙ there in
    let done = c.exchange_at.ensures.done s still in
    let after : List Row = if c.args.keeps then rows_at_key s.0.0 (λ _. c.args.held.now) rows else filter (λ r. not (is_same s.0.0 r.0)) rows in
    let same : rows_at_key s.0.0 (λ _. c.args.held.now) rows ≡ after = sym (ap (λ b. if b then rows_at_key s.0.0 (λ _. c.args.held.now) rows else filter (λ r. not (is_same s.0.0 r.0)) rows) c.if-keeps.true) in
    (done.0, written_as o c.note.new.store _ rows after c.args.at s.1 s.0.0 s.0.1 c.args.held.now same kept still done.1 refl refl refl refl refl refl (λ dead. c.note.ensures.noted))
