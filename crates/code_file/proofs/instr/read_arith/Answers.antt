use Rattle.std.proofs.lemmas.Result.{err_from_is_err_and}
use Rattle.code_file.proofs.InstructionLemmas.{arith_stop_function, arith_stop_target}
use Rattle.code_file.proofs.instr.read_arith.Goals as goal

pub returns-in_err-function : goal.returns-in_err-function
returns-in_err-function c =
    let p = err_from_is_err_and c.from_residual.result c.from_residual.ensures.1 in
    rw (p.1, p.2) (arith_stop_function c.args.most c.args.bytes.now c.args.rest.now _ c.requires c.in_err-function.ensures)

pub returns-in_err-otherwise : goal.returns-in_err-otherwise
returns-in_err-otherwise c =
    let p = err_from_is_err_and c.from_residual-in_err-otherwise.result c.from_residual-in_err-otherwise.ensures.1 in
    rw (p.1, p.2) (arith_stop_target c.args.most c.args.bytes.now c.args.rest.now c.in_ok-function.function c.in_ok-function.rest.now _ c.requires c.in_ok-function.ensures c.in_err-otherwise.ensures)
