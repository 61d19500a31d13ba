use Rattle.code_file.proofs.RowLemmas.{not_so}
use Rattle.std.proofs.lemmas.Result.{err_from_is_err_and}
use Rattle.code_file.proofs.FrameLemmas.{slot_short, slot_unordered}
use Rattle.code_file.proofs.frame.read_slot.Goals as goal

pub returns-in_err-slot : goal.returns-in_err-slot
returns-in_err-slot c =
    let p = err_from_is_err_and c.from_residual.result c.from_residual.ensures.1 in
    rw (p.1, p.2) (slot_short c.args.before.now c.args.bytes.now _ c.in_err-slot.ensures)

pub returns-then-not-is_above : goal.returns-then-not-is_above
returns-then-not-is_above c = slot_unordered c.args.before.now c.last_slot.result c.args.bytes.now c.in_ok-slot.slot c.in_ok-slot.rest.now c.last_slot.ensures c.requires c.in_ok-slot.ensures (not_so (rw c.from.ensures at c.if-not-is_above.ensures.1))
