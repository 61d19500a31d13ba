use Rattle.std.proofs.Common.{◌≡◌, refl, ap, sym, ◌∙◌}
use Rattle.std.specs.Prelude.{true, false, Option, unwrap_or}
use Rattle.std.specs.Option.{option_map_or}
use Rattle.std.proofs.lemmas.Bool.{true≢false}
use Rattle.std.proofs.lemmas.Result.{err_from_is_err_and}
use Rattle.slab.specs.Slab.{get}
use Rattle.term_core.specs.Datum.{Datum}
use Rattle.term_core.specs.Datum.Datum.{nil}
use Rattle.part_core.specs.Rows.{Row, is_live, objects_with}
use Rattle.part_core.proofs.AfterLemmas.{with_live}
use Rattle.part_hash.proofs.PutLemmas.{done_at, revived_at}
use Rattle.part_hash.proofs.StandLemmas.{made_there}
use Rattle.part_hash.proofs.WriteLemmas.{stands_written}
use Rattle.part_hash.proofs.putting.put_into.Goals as goal
use Rattle.part_hash.proofs.putting.put_into.Goals.{else-live-via-then-live+else-not-replaces, else-live-via-else-live}

pub invariant_of-store : goal.invariant_of-store
invariant_of-store g c = record {
  is_base = c.args.store.now.is_base;
  only = λ mixed at has. c.write_at.ensures.same at ∙ c.args.store.now.only mixed at has;
}

pub returns-in_err-write_at-clause-refused : goal.returns-in_err-write_at-clause-refused
returns-in_err-write_at-clause-refused g c =
    let back = err_from_is_err_and c.from_residual.result c.from_residual.ensures.1 in
    rw back.1 (λ rows key os s there.
    let made = made_there (get c.args.store.now.rows c.args.at) (key, os) there in
    let refused = c.in_err-write_at.ensures.refused ((key, os), made.0) made.1 in
    stands_written c.args.settings c.args.store.now _ rows c.args.at made.0 key os os s made.1 refused.0 refl refl refl refl refl refl (λ dead. absurd (true≢false (sym refused.1 ∙ dead))))

pub returns-then-live-2-clause-done : goal.returns-then-live-2-clause-done
returns-then-live-2-clause-done g c = λ rows key os s there.
    let made = made_there (get c.args.store.now.rows c.args.at) (key, os) there in
    let object : Datum = unwrap_or c.args.object.now nil in
    let live : is_live (key, os) ≡ true = sym (ap (λ (r : Option Row). option_map_or is_live r false) there) ∙ sym c.is_live_at-live.ensures ∙ c.if-live-2.true in
    let all : c.args.replaces ≡ true = elim c.else-live.branch [
      | else-live-via-then-live+else-not-replaces w ↦ w.if-not-replaces.false
      | else-live-via-else-live w ↦ absurd (true≢false (sym c.if-live-2.true ∙ w.if-live.false))
    ] in
    (done_at key os c.args.replaces live all, stands_written c.args.settings c.args.store.now _ rows c.args.at made.0 key os (objects_with c.args.settings.kind os object) s made.1 (c.in_ok-write_at.ensures.done ((key, os), made.0) made.1) refl refl refl refl refl refl (λ dead. absurd (true≢false (sym (with_live c.args.settings.kind key os object) ∙ dead))))

pub returns-else-live-2-clause-done : goal.returns-else-live-2-clause-done
returns-else-live-2-clause-done g c = λ rows key os s there.
    let made = made_there (get c.args.store.now.rows c.args.at) (key, os) there in
    let object : Datum = unwrap_or c.args.object.now nil in
    let died : is_live (key, os) ≡ false = sym (ap (λ (r : Option Row). option_map_or is_live r false) there) ∙ sym c.is_live_at-live.ensures ∙ c.if-live-2.false in
    (revived_at key os c.args.replaces died, stands_written c.args.settings c.args.store.now _ rows c.args.at made.0 key os (objects_with c.args.settings.kind os object) s made.1 (c.in_ok-write_at.ensures.done ((key, os), made.0) made.1) refl refl refl refl refl refl (λ dead. absurd (true≢false (sym (with_live c.args.settings.kind key os object) ∙ dead))))
