use Rattle.std.proofs.lemmas.Result.{err_from_is_err_and, IfErr-weaker, IfOk-weaker}
use Rattle.mcode.specs.Program.{Rise, frame_number}
use Rattle.code_writer.specs.Formats.{u16_format, frame_format}
use Rattle.code_file.specs.Due.Row.{frames}
use Rattle.code_file.proofs.RowLemmas.{such_counted_short, such_counted_stop, such_counted_begins}
use Rattle.code_file.proofs.body.read_frames.Goals as goal

pub returns-in_err-count-clause-refused : goal.returns-in_err-count-clause-refused
returns-in_err-count-clause-refused g c =
    let p = err_from_is_err_and c.from_residual.result c.from_residual.ensures.1 in
    rw (p.1, p.2) (such_counted_short frame_format (Rise frame_number) frames c.args.bytes.now _ c.in_err-count.ensures)

pub returns-clause-ok : goal.returns-clause-ok
returns-clause-ok g c =
    IfOk-weaker c.read_frame_rows.result _ _ (λ rest h. such_counted_begins u16_format frame_format (Rise frame_number) c.args.bytes.now c.in_ok-count.count c.in_ok-count.rest.now c.read_frame_rows.new.builder.frames rest.now c.in_ok-count.ensures h) c.read_frame_rows.ensures.ok

pub returns-clause-refused : goal.returns-clause-refused
returns-clause-refused g c =
    IfErr-weaker c.read_frame_rows.result _ _ (λ stop h. such_counted_stop frame_format (Rise frame_number) frames c.args.bytes.now c.in_ok-count.count c.in_ok-count.rest.now stop c.in_ok-count.ensures h) c.read_frame_rows.ensures.refused
