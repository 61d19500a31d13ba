use Rattle.std.proofs.Common.{◌≡◌, ◌+◌, List, [], ◌∷◌, ◌++◌, ap, sym, subst, ◌∙◌, length, length-append}
use Rattle.std.specs.Prelude.{Some, IsFalse, IsTrue, if◌then◌else◌, unwrap_or}
use Rattle.std.proofs.lemmas.Result.{err_from_is_err_and}
use Rattle.term_core.specs.Datum.{Datum}
use Rattle.term_core.specs.Datum.Datum.{nil}
use Rattle.part_core.specs.declared.kind.TableKind.TheVariants.{Set}
use Rattle.part_core.specs.After.{slots_after}
use Rattle.part_core.specs.Rows.{Row, has_row, objects_at, objects_with, rows_at_key, with_object}
use Rattle.part_core.specs.Settings.{key_of}
use Rattle.part_rows.specs.Puts.{is_put, put_at}
use Rattle.part_hash.specs.Places.{row_in}
use Rattle.part_hash.specs.Standing.{Stands}
use Rattle.part_hash.proofs.AddLemmas.{some_object}
use Rattle.part_hash.proofs.PutLemmas.{put_new, put_there, same_objects, slots_written}
use Rattle.part_hash.proofs.StandLemmas.{held_none, held_there}
use Rattle.part_hash.proofs.putting.put.Goals as goal

pub returns-in_ok-put-in-Some-find-clause-done : goal.returns-in_ok-put-in-Some-find-clause-done
returns-in_ok-put-in-Some-find-clause-done g c = λ rows plain s.
    let o = c.args.settings in
    let object : Datum = unwrap_or c.args.object.now nil in
    let key : Datum = key_of o object in
    let found = subst (λ (k : Datum). IsTrue (has_row rows k) × (row_in c.args.store.now.rows c.in-Some-find.at ≡ Some (k, objects_at rows k))) c.in-Some.ensures.key (c.in-Some-find.ensures.found o rows s) in
    let done = c.in_ok-put-in-Some-find.ensures.done rows key (objects_at rows key) s found.1 in
    let all : rows_at_key key (λ _. objects_with o.kind (objects_at rows key) object) rows ≡ with_object o object rows = put_there o object rows found.0 s.apart in
    let same : (if is_put c.in_ok-put-in-Some-find.put then rows_at_key key (λ _. objects_with o.kind (objects_at rows key) object) rows else rows) ≡ (if is_put c.in_ok-put-in-Some-find.put then with_object o object rows else rows) = ap (λ (rs : List Row). if is_put c.in_ok-put-in-Some-find.put then rs else rows) all in (
      done.0 ∙ ap (put_at c.args.replaces) (held_there rows key found.0),
      subst (λ (rs : List Row). Stands o c.put_into.new.store rs) same done.1,
      ap length c.put_into.ensures.slots ∙ slots_written key (objects_with o.kind (objects_at rows key) object) (is_put c.in_ok-put-in-Some-find.put) rows (length c.args.store.now.slots.items) ∙ ap (λ (rs : List Row). slots_after Set (length rows) (length rs) (length c.args.store.now.slots.items)) same,
    )

pub returns-in_err-put-in-Some-find-clause-refused : goal.returns-in_err-put-in-Some-find-clause-refused
returns-in_err-put-in-Some-find-clause-refused g c =
    let back = err_from_is_err_and c.from_residual.result c.from_residual.ensures.1 in
    rw back.1 (λ rows s.
    let o = c.args.settings in
    let key : Datum = key_of o (unwrap_or c.args.object.now nil) in
    let found = subst (λ (k : Datum). IsTrue (has_row rows k) × (row_in c.args.store.now.rows c.in-Some-find.at ≡ Some (k, objects_at rows k))) c.in-Some.ensures.key (c.in-Some-find.ensures.found o rows s) in
    subst (λ (rs : List Row). Stands o c.put_into.new.store rs) (same_objects key rows s.apart) (c.in_err-put-in-Some-find.ensures.refused rows key (objects_at rows key) s found.1))

pub returns-in_ok-add-in-None-clause-done : goal.returns-in_ok-add-in-None-clause-done
returns-in_ok-add-in-None-clause-done g c = λ rows plain s.
    let o = c.args.settings in
    let object : Datum = unwrap_or c.args.object.now nil in
    let key : Datum = key_of o object in
    let none : IsFalse (has_row rows key) = subst (λ (k : Datum). IsFalse (has_row rows k)) c.in-Some.ensures.key (c.in-None.ensures.found o rows s) in
    let own : c.in_ok-key-in-None.key ≡ key = c.in_ok-key-in-None.ensures ∙ c.in-Some.ensures.key in
    let added = c.in_ok-add-in-None.ensures.done rows (subst (λ (k : Datum). IsFalse (has_row rows k)) (sym own) none) s in
    let same : rows ++ (key, object ∷ []) ∷ [] ≡ with_object o object rows = put_new o object rows none plain in (
      ap (put_at c.args.replaces) (held_none rows key none),
      subst (λ (rs : List Row). Stands o c.add.new.store rs) (ap (λ (k : Datum). rows ++ (k, object ∷ []) ∷ []) own ∙ same) added.0,
      added.1 ∙ ap (λ n. slots_after Set (length rows) n (length c.args.store.now.slots.items)) (sym (length-append rows ((key, object ∷ []) ∷ []))) ∙ ap (λ (rs : List Row). slots_after Set (length rows) (length rs) (length c.args.store.now.slots.items)) same,
    )

pub add-requires-clause-object : goal.add-requires-clause-object
add-requires-clause-object g c = some_object c.args.settings c.args.object.now c.in-Some.ensures.object
