use Rattle.std.proofs.lemmas.Result.{err_from_is_err_and}
use Rattle.code_file.proofs.RoutineLemmas.{signature_stop_routine, slots_stop_routine, parts_stop_routine, routine_read}
use Rattle.code_file.proofs.routine.read_routine.Goals as goal

pub returns-in_err-arguments-clause-refused : goal.returns-in_err-arguments-clause-refused
returns-in_err-arguments-clause-refused g c =
    let p = err_from_is_err_and c.from_residual.result c.from_residual.ensures.1 in
    rw (p.1, p.2) (signature_stop_routine c.args.bytes.now _ c.in_err-arguments.ensures)

pub returns-in_err-slots-clause-refused : goal.returns-in_err-slots-clause-refused
returns-in_err-slots-clause-refused g c =
    let p = err_from_is_err_and c.from_residual-in_err-slots.result c.from_residual-in_err-slots.ensures.1 in
    rw (p.1, p.2) (slots_stop_routine c.args.bytes.now (c.in_ok-arguments.arguments.items, c.in_ok-arguments.gives) c.in_ok-arguments.rest.now _ c.in_ok-arguments.ensures c.in_err-slots.ensures)

pub returns-in_err-rest-clause-refused : goal.returns-in_err-rest-clause-refused
returns-in_err-rest-clause-refused g c =
    let p = err_from_is_err_and c.from_residual-in_err-rest.result c.from_residual-in_err-rest.ensures.1 in
    rw (p.1, p.2) (parts_stop_routine c.args.bytes.now (c.in_ok-arguments.arguments.items, c.in_ok-arguments.gives) c.in_ok-arguments.rest.now c.in_ok-slots.slots c.in_ok-slots.rest.now _ c.in_ok-arguments.ensures c.in_ok-slots.ensures c.in_err-rest.ensures.refused)

pub returns-clause-ok : goal.returns-clause-ok
returns-clause-ok g c =
    routine_read c.args.bytes.now (c.in_ok-arguments.arguments.items, c.in_ok-arguments.gives) c.in_ok-arguments.rest.now c.in_ok-slots.slots c.in_ok-slots.rest.now c.in_ok-rest.rest.now c.args.builder.now c.begin_routine.new.builder c.read_parts.new.builder c.in_ok-arguments.ensures c.in_ok-slots.ensures c.in_ok-rest.ensures.ok c.in_ok-begin_routine.ensures c.in_ok-rest.ensures.kept
