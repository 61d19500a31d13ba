use Rattle.std.proofs.lemmas.Result.{err_from_is_err_and}
use Rattle.code_writer.specs.Formats.{any_kind_format}
use Rattle.code_file.proofs.RowLemmas.{plain_step}
use Rattle.code_file.proofs.RoutineLemmas.{arguments_stop}
use Rattle.code_file.proofs.routine.read_arguments.Goals as goal

pub returns-in_err-kind : goal.returns-in_err-kind
returns-in_err-kind g c =
    let p = err_from_is_err_and c.from_residual.result c.from_residual.ensures.1 in
    rw (p.1, p.2) (arguments_stop c.args.bytes.now c.loop-read.kinds.items c.loop-read.rest.now c.loop-read._read c.args.count _ c.loop-read.invariant c.loop-read-test.true c.in_err-kind.ensures)

pub loop-read-preserved : goal.loop-read-preserved
loop-read-preserved g c =
    rw c.in_ok-push.ensures.items
    (plain_step any_kind_format c.args.bytes.now c.loop-read.kinds.items c.loop-read.rest.now c.loop-read._read c.in_ok-kind.kind c.in_ok-kind.behind.now c.loop-read.invariant c.in_ok-kind.ensures)
