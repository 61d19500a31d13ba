use Rattle.std.proofs.lemmas.Result.{err_from_is_err_and}
use Rattle.code_file.proofs.InstructionLemmas.{call_stop_function, call_stop_arguments}
use Rattle.code_file.proofs.instr.read_call.Goals as goal

pub returns-in_err-function : goal.returns-in_err-function
returns-in_err-function c =
    let p = err_from_is_err_and c.from_residual.result c.from_residual.ensures.1 in
    rw (p.1, p.2) (call_stop_function c.args.most c.args.bytes.now c.args.rest.now _ c.requires c.in_err-function.ensures)

pub returns-in_err-arguments : goal.returns-in_err-arguments
returns-in_err-arguments c =
    let p = err_from_is_err_and c.from_residual-in_err-arguments.result c.from_residual-in_err-arguments.ensures.1 in
    rw (p.1, p.2) (call_stop_arguments c.args.most c.args.bytes.now c.args.rest.now c.in_ok-function.function c.in_ok-function.rest.now _ c.requires c.in_ok-function.ensures c.in_err-arguments.ensures)
