use Rattle.std.proofs.lemmas.Result.{err_from_is_err_and}
use Rattle.std.proofs.Common.{◌≢◌}
use Rattle.code_writer.specs.Format.{Begins}
use Rattle.code_writer.specs.Formats.{kind_format}
use Rattle.code_file.specs.Due.Item.{a_kind}
use Rattle.code_file.specs.Reads.{Reads, Blames}
use Rattle.code_file.proofs.RoutineLemmas.{any_kind_short, told_reads}
use Rattle.code_file.proofs.routine.read_any_kind.Goals as goal

pub returns-in_err-tag : goal.returns-in_err-tag
returns-in_err-tag c =
    let p = err_from_is_err_and c.from_residual.result c.from_residual.ensures.1 in
    rw (p.1, p.2) (any_kind_short c.args.bytes.now _ c.in_err-tag.ensures)

pub returns : goal.returns
returns c =
    told_reads c.args.bytes.now c.in_ok-tag.tag c.in_ok-tag.rest.now (λ r. (r.0, r.1.now)) c.read_kind.result c.in_ok-tag.ensures c.if-tag-eq-ANY.false c.read_kind.ensures
