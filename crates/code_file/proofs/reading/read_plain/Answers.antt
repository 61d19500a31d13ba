use Rattle.std.proofs.lemmas.Result.{err_from_is_err_and}
use Rattle.code_file.proofs.DecodeLemmas.{plain_slots_stop, plain_constants_stop, plain_parts_stop, plain_built}
use Rattle.code_file.proofs.reading.read_plain.Goals as goal

pub returns-in_err-slots-clause-code : goal.returns-in_err-slots-clause-code
returns-in_err-slots-clause-code g c =
    let p = err_from_is_err_and c.from_residual.result c.from_residual.ensures.1 in
    rw (p.1, p.2) (plain_slots_stop c.args.bytes.now _ c.in_err-slots.ensures)

pub returns-in_err-constants-clause-code : goal.returns-in_err-constants-clause-code
returns-in_err-constants-clause-code g c =
    let p = err_from_is_err_and c.from_residual-in_err-constants.result c.from_residual-in_err-constants.ensures.1 in
    rw (p.1, p.2) (plain_constants_stop c.args.bytes.now c.in_ok-slots.slots c.in_ok-slots.rest.now _ c.in_ok-slots.ensures c.in_err-constants.ensures)

pub returns-in_err-rest-clause-code : goal.returns-in_err-rest-clause-code
returns-in_err-rest-clause-code g c =
    let p = err_from_is_err_and c.from_residual-in_err-rest.result c.from_residual-in_err-rest.ensures.1 in
    rw (p.1, p.2) (plain_parts_stop c.args.bytes.now c.in_ok-slots.slots c.in_ok-slots.rest.now c.in_ok-constants.constants.items c.in_ok-constants.rest.now _ c.in_ok-slots.ensures c.in_ok-constants.ensures c.in_err-rest.ensures.refused)

pub returns-clause-code : goal.returns-clause-code
returns-clause-code g c =
    (plain_built c.args.bytes.now c.in_ok-slots.slots c.in_ok-slots.rest.now c.in_ok-constants.constants.items c.in_ok-constants.rest.now c.in_ok-rest.rest.now c.in_ok-builder.builder c.read_parts.new.builder c.finish.result c.in_ok-slots.ensures c.in_ok-constants.ensures c.in_ok-builder.ensures c.in_ok-rest.ensures.ok c.in_ok-rest.ensures.kept c.finish.ensures).0

pub returns-clause-alone : goal.returns-clause-alone
returns-clause-alone g c =
    (plain_built c.args.bytes.now c.in_ok-slots.slots c.in_ok-slots.rest.now c.in_ok-constants.constants.items c.in_ok-constants.rest.now c.in_ok-rest.rest.now c.in_ok-builder.builder c.read_parts.new.builder c.finish.result c.in_ok-slots.ensures c.in_ok-constants.ensures c.in_ok-builder.ensures c.in_ok-rest.ensures.ok c.in_ok-rest.ensures.kept c.finish.ensures).1
