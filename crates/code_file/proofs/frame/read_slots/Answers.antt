use Rattle.std.proofs.lemmas.Result.{err_from_is_err_and}
use Rattle.code_file.proofs.FrameLemmas.{slots_short, slots_row_stop, slots_begins}
use Rattle.code_file.proofs.frame.read_slots.Goals as goal

pub returns-in_err-count : goal.returns-in_err-count
returns-in_err-count g c =
    let p = err_from_is_err_and c.from_residual.result c.from_residual.ensures.1 in
    rw (p.1, p.2) (slots_short c.args.bytes.now _ c.in_err-count.ensures)

pub returns-in_err-slots : goal.returns-in_err-slots
returns-in_err-slots g c =
    let p = err_from_is_err_and c.from_residual-in_err-slots.result c.from_residual-in_err-slots.ensures.1 in
    rw (p.1, p.2) (slots_row_stop c.args.bytes.now c.in_ok-count.count c.in_ok-count.rest.now _ c.in_ok-count.ensures c.in_err-slots.ensures)

pub returns : goal.returns
returns g c =
    rw c.new.ensures (slots_begins c.args.bytes.now c.in_ok-count.count c.in_ok-count.rest.now c.in_ok-slots.slots.items c.in_ok-slots.rest.now c.in_ok-count.ensures c.in_ok-slots.ensures)
