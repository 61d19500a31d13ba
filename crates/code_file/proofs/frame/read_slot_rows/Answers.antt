use Rattle.std.proofs.lemmas.Result.{err_from_is_err_and}
use Rattle.mcode.specs.Program.{Rise}
use Rattle.code_writer.specs.Formats.{u8_format}
use Rattle.code_file.proofs.FrameLemmas.{slot_row_stop}
use Rattle.code_file.proofs.RowLemmas.{row_step}
use Rattle.code_file.proofs.frame.read_slot_rows.Goals as goal

pub returns-in_err-slot : goal.returns-in_err-slot
returns-in_err-slot g c =
    let p = err_from_is_err_and c.from_residual.result c.from_residual.ensures.1 in
    rw (p.1, p.2) (slot_row_stop c.args.bytes.now c.loop-read.slots.items c.loop-read.rest.now c.loop-read._read c.args.count _ c.loop-read.invariant c.loop-read-test.true (rw c.as_slice.ensures.value at c.in_err-slot.ensures))

pub loop-read-preserved : goal.loop-read-preserved
loop-read-preserved g c =
    rw c.in_ok-push.ensures.items
    (row_step u8_format (Rise (λ slot. slot)) c.args.bytes.now c.loop-read.slots.items c.loop-read.rest.now c.loop-read._read c.in_ok-slot.slot c.in_ok-slot.behind.now c.loop-read.invariant (rw c.as_slice.ensures.value at c.in_ok-slot.ensures))
