use Rattle.std.proofs.lemmas.Result.{err_from_is_err_and}
use Rattle.mcode.specs.Program.{Rise, place_number}
use Rattle.code_writer.specs.Formats.{place_format}
use Rattle.code_file.proofs.RowLemmas.{row_step}
use Rattle.code_file.proofs.FrameLemmas.{place_row_stop}
use Rattle.code_file.proofs.frame.read_place_rows.Goals as goal

pub returns-in_err-place : goal.returns-in_err-place
returns-in_err-place g c =
    let p = err_from_is_err_and c.from_residual.result c.from_residual.ensures.1 in
    rw (p.1, p.2) (place_row_stop c.args.bytes.now c.loop-read.places.items c.loop-read.rest.now c.loop-read._read c.args.count _ c.loop-read.invariant c.loop-read-test.true (rw c.as_slice.ensures.value at c.in_err-place.ensures))

pub loop-read-preserved : goal.loop-read-preserved
loop-read-preserved g c =
    rw c.in_ok-push.ensures.items
    (row_step place_format (Rise place_number) c.args.bytes.now c.loop-read.places.items c.loop-read.rest.now c.loop-read._read c.in_ok-place.place c.in_ok-place.behind.now c.loop-read.invariant (rw c.as_slice.ensures.value at c.in_ok-place.ensures))
