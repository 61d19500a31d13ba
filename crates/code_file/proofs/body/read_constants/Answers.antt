use Rattle.std.proofs.lemmas.Result.{err_from_is_err_and}
use Rattle.std.proofs.Common.{subst}
use Rattle.code_writer.specs.Format.{rows}
use Rattle.code_file.specs.Due.Item.{many}
use Rattle.code_file.specs.Reads.{Blames, IsStop}
use Rattle.term_core.specs.Sizes.{depth_limit}
use Rattle.code_writer.specs.Formats.{constant_format}
use Rattle.code_file.specs.Due.Row.{constants, terms}
use Rattle.code_file.proofs.RowLemmas.{counted_short, counted_stop}
use Rattle.code_file.proofs.BodyLemmas.{constant_rows_stop}
use Rattle.code_file.proofs.body.read_constants.Goals as goal

pub returns-in_err-count : goal.returns-in_err-count
returns-in_err-count g c =
    let p = err_from_is_err_and c.from_residual.result c.from_residual.ensures.1 in
    rw (p.1, p.2) (counted_short (constant_format depth_limit) constants c.args.bytes.now _ c.in_err-count.ensures)

pub returns-in_err-constants : goal.returns-in_err-constants
returns-in_err-constants g c =
    let p = err_from_is_err_and c.from_residual-in_err-constants.result c.from_residual-in_err-constants.ensures.1 in
    rw (p.1, p.2) (counted_stop (constant_format depth_limit) constants c.args.bytes.now c.in_ok-count.count c.in_ok-count.rest.now _ c.in_ok-count.ensures (constant_rows_stop c.in_ok-count.rest.now c.in_ok-count.count _ (subst (λ n. IsStop (rows (constant_format depth_limit) n) c.in_ok-count.rest.now (Blames (many (terms depth_limit) n) c.in_ok-count.rest.now) c.in_err-constants.field-0.0) c.from.ensures c.in_err-constants.ensures)))
