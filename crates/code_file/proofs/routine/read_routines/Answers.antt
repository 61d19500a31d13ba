use Rattle.std.proofs.lemmas.Result.{err_from_is_err_and}
use Rattle.std.proofs.Common.{arith}
use Rattle.code_file.proofs.RoutineLemmas.{routines_start, routines_step, routines_stop, routines_end}
use Rattle.code_file.proofs.routine.read_routines.Goals as goal

pub loop-read-init : goal.loop-read-init
loop-read-init g c = routines_start c.args.builder.now c.args.bytes.now c.requires.none

pub returns-in_err-behind-clause-refused : goal.returns-in_err-behind-clause-refused
returns-in_err-behind-clause-refused g c =
    let p = err_from_is_err_and c.from_residual.result c.from_residual.ensures.1 in
    rw (p.1, p.2) (routines_stop c.args.builder.now c.args.bytes.now c.loop-read.builder c.loop-read.rest.now c.loop-read._read c.args.count _ c.loop-read.invariant c.loop-read-test.true c.in_err-behind.ensures.refused)

pub read_routine-requires : goal.read_routine-requires
read_routine-requires g c = omega (arith, c.loop-read.invariant.number_is, c.loop-read-test.true, c.requires.few)

pub loop-read-preserved : goal.loop-read-preserved
loop-read-preserved g c =
    routines_step c.args.builder.now c.args.bytes.now c.loop-read.builder c.read_routine.new.builder c.loop-read.rest.now c.loop-read._read c.in_ok-behind.behind.now c.loop-read.invariant c.in_ok-behind.ensures.ok
