use Rattle.std.specs.Prelude.{unwrap_or}
use Rattle.std.proofs.lemmas.Result.{err_from_is_err_and}
use Rattle.term_core.specs.Datum.Datum.{nil}
use Rattle.part_engine.proofs.SetLemmas.{plain_served}
use Rattle.part_rows.specs.Puts.{is_put}
use Rattle.part_hash.proofs.ShownLemmas.{shown_either, shown_still}
use Rattle.part_hash.proofs.rows.HashRowsRows.put.Goals as goal
use Rattle.std.proofs.Common.{refl}

pub returns-clause-put : goal.returns-clause-put
returns-clause-put g c = λ w shown sound.
    let done = c.in_ok-put.ensures.done w.rows (plain_served c.args.settings.kind shown.served) shown.rows in
    (done.0, shown_either (unwrap_or c.args.object.now nil) w (is_put c.in_ok-put.put) shown done.1 done.2)

pub returns-in_err-put-clause-refused : goal.returns-in_err-put-clause-refused
returns-in_err-put-clause-refused g c =
    let back = err_from_is_err_and c.from_residual.result c.from_residual.ensures.1 in
    rw back.1 (λ w shown. shown_still w w shown (c.in_err-put.ensures.refused w.rows shown.rows) refl c.in_err-put.ensures.slots)
