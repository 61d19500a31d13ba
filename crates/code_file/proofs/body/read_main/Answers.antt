use Rattle.std.proofs.lemmas.Result.{err_from_is_err_and}
use Rattle.code_file.proofs.BodyLemmas.{main_slots_stop, main_parts_stop, main_read}
use Rattle.code_file.proofs.body.read_main.Goals as goal

pub returns-in_err-slots-clause-refused : goal.returns-in_err-slots-clause-refused
returns-in_err-slots-clause-refused g c =
    let p = err_from_is_err_and c.from_residual.result c.from_residual.ensures.1 in
    rw (p.1, p.2) (main_slots_stop c.args.bytes.now _ c.in_err-slots.ensures)

pub returns-in_err-rest-clause-refused : goal.returns-in_err-rest-clause-refused
returns-in_err-rest-clause-refused g c =
    let p = err_from_is_err_and c.from_residual-in_err-rest.result c.from_residual-in_err-rest.ensures.1 in
    rw (p.1, p.2) (main_parts_stop c.args.bytes.now c.in_ok-slots.slots c.in_ok-slots.rest.now _ c.in_ok-slots.ensures c.in_err-rest.ensures.refused)

pub returns-clause-ok : goal.returns-clause-ok
returns-clause-ok g c =
    main_read c.args.constants.items c.args.bytes.now c.in_ok-slots.slots c.in_ok-slots.rest.now c.in_ok-rest.rest.now c.in_ok-builder.builder c.read_parts.new.builder c.in_ok-slots.ensures c.in_ok-builder.ensures c.in_ok-rest.ensures.ok c.in_ok-rest.ensures.kept
