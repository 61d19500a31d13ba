use Rattle.std.proofs.lemmas.Result.{err_from_is_err_and}
use Rattle.code_writer.specs.Formats.{argument_count_format, arguments_format, any_kind_format}
use Rattle.code_writer.proofs.FormatLemmas.{counted_begins}
use Rattle.code_file.proofs.RoutineLemmas.{count_stop_signature, arguments_stop_signature, result_stop_signature, signature_begins}
use Rattle.code_file.proofs.routine.read_signature.Goals as goal

pub returns-in_err-count : goal.returns-in_err-count
returns-in_err-count g c =
    let p = err_from_is_err_and c.from_residual.result c.from_residual.ensures.1 in
    rw (p.1, p.2) (count_stop_signature c.args.bytes.now _ c.in_err-count.ensures)

pub returns-in_err-arguments : goal.returns-in_err-arguments
returns-in_err-arguments g c =
    let p = err_from_is_err_and c.from_residual-in_err-arguments.result c.from_residual-in_err-arguments.ensures.1 in
    rw (p.1, p.2) (arguments_stop_signature c.args.bytes.now c.in_ok-count.count c.in_ok-count.rest.now _ c.in_ok-count.ensures c.in_err-arguments.ensures)

pub returns-in_err-gives : goal.returns-in_err-gives
returns-in_err-gives g c =
    let p = err_from_is_err_and c.from_residual-in_err-gives.result c.from_residual-in_err-gives.ensures.1 in
    rw (p.1, p.2) (result_stop_signature c.args.bytes.now c.in_ok-arguments.arguments.items c.in_ok-arguments.rest.now _ (counted_begins argument_count_format any_kind_format c.args.bytes.now c.in_ok-count.count c.in_ok-count.rest.now c.in_ok-arguments.arguments.items c.in_ok-arguments.rest.now c.in_ok-count.ensures c.in_ok-arguments.ensures) c.in_err-gives.ensures)

pub returns : goal.returns
returns g c =
    signature_begins c.args.bytes.now c.in_ok-count.count c.in_ok-count.rest.now c.in_ok-arguments.arguments.items c.in_ok-arguments.rest.now c.in_ok-gives.gives c.in_ok-gives.rest.now c.in_ok-count.ensures c.in_ok-arguments.ensures c.in_ok-gives.ensures
