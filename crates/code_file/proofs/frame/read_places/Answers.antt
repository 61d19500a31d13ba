use Rattle.std.proofs.lemmas.Result.{err_from_is_err_and}
use Rattle.mcode.specs.Program.{Rise, place_number}
use Rattle.code_writer.specs.Formats.{u16_format, place_format}
use Rattle.code_file.specs.Due.Row.{places}
use Rattle.code_file.proofs.RowLemmas.{such_counted_short, such_counted_stop, such_counted_begins}
use Rattle.code_file.proofs.frame.read_places.Goals as goal

pub returns-in_err-count : goal.returns-in_err-count
returns-in_err-count g c =
    let p = err_from_is_err_and c.from_residual.result c.from_residual.ensures.1 in
    rw (p.1, p.2) (such_counted_short place_format (Rise place_number) places c.args.bytes.now _ c.in_err-count.ensures)

pub returns-in_err-places : goal.returns-in_err-places
returns-in_err-places g c =
    let p = err_from_is_err_and c.from_residual-in_err-places.result c.from_residual-in_err-places.ensures.1 in
    rw (p.1, p.2) (such_counted_stop place_format (Rise place_number) places c.args.bytes.now c.in_ok-count.count c.in_ok-count.rest.now _ c.in_ok-count.ensures c.in_err-places.ensures)

pub returns : goal.returns
returns g c =
    rw c.new.ensures
    (such_counted_begins u16_format place_format (Rise place_number) c.args.bytes.now c.in_ok-count.count c.in_ok-count.rest.now c.in_ok-places.places.items c.in_ok-places.rest.now c.in_ok-count.ensures c.in_ok-places.ensures)
