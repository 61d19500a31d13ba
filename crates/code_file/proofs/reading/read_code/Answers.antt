use Rattle.std.proofs.lemmas.Result.{err_from_is_err_and}
use Rattle.std.proofs.Common.{arith, ap}
use Rattle.mcode.specs.Program.{Program}
use Rattle.code_file.proofs.DecodeLemmas.{code_constants_stop, code_count_stop, code_main_stop, code_routines_stop, code_built}
use Rattle.code_file.proofs.reading.read_code.Goals as goal

pub returns-in_err-constants : goal.returns-in_err-constants
returns-in_err-constants g c =
    let p = err_from_is_err_and c.from_residual.result c.from_residual.ensures.1 in
    rw (p.1, p.2) (code_constants_stop c.args.bytes.now _ c.in_err-constants.ensures)

pub returns-in_err-count : goal.returns-in_err-count
returns-in_err-count g c =
    let p = err_from_is_err_and c.from_residual-in_err-count.result c.from_residual-in_err-count.ensures.1 in
    rw (p.1, p.2) (code_count_stop c.args.bytes.now c.in_ok-constants.constants.items c.in_ok-constants.rest.now _ c.in_ok-constants.ensures c.in_err-count.ensures)

pub returns-in_err-builder : goal.returns-in_err-builder
returns-in_err-builder g c =
    let p = err_from_is_err_and c.from_residual-in_err-builder.result c.from_residual-in_err-builder.ensures.1 in
    rw (p.1, p.2) (code_main_stop c.args.bytes.now c.in_ok-constants.constants.items c.in_ok-constants.rest.now c.in_ok-count.count c.in_ok-count.rest.now _ c.in_ok-constants.ensures c.in_ok-count.ensures c.in_err-builder.ensures.refused)

pub returns-in_err-rest : goal.returns-in_err-rest
returns-in_err-rest g c =
    let p = err_from_is_err_and c.from_residual-in_err-rest.result c.from_residual-in_err-rest.ensures.1 in
    rw (p.1, p.2) (code_routines_stop c.args.bytes.now c.in_ok-constants.constants.items c.in_ok-constants.rest.now c.in_ok-count.count c.in_ok-count.rest.now _ c.in_ok-builder.rest.now _ c.in_ok-constants.ensures c.in_ok-count.ensures c.in_ok-builder.ensures.ok.begins c.in_err-rest.ensures.refused)

pub returns : goal.returns
returns g c =
    code_built c.args.bytes.now c.in_ok-constants.constants.items c.in_ok-constants.rest.now c.in_ok-count.count c.in_ok-count.rest.now c.in_ok-builder.rest.now c.in_ok-rest.rest.now c.in_ok-builder.builder c.read_routines.new.builder c.finish.result c.in_ok-constants.ensures c.in_ok-count.ensures c.in_ok-builder.ensures.ok c.in_ok-rest.ensures.ok c.finish.ensures
