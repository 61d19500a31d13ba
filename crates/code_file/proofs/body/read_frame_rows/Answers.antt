use Rattle.std.proofs.lemmas.Result.{err_from_is_err_and}
use Rattle.code_file.proofs.BodyLemmas.{frames_start, frames_step, frames_stop}
use Rattle.code_file.proofs.body.read_frame_rows.Goals as goal

pub loop-read-init : goal.loop-read-init
loop-read-init g c = frames_start c.args.builder.now c.args.bytes.now c.requires

pub returns-in_err-pc-clause-refused : goal.returns-in_err-pc-clause-refused
returns-in_err-pc-clause-refused g c =
    let p = err_from_is_err_and c.from_residual.result c.from_residual.ensures.1 in
    rw (p.1, p.2) (frames_stop c.args.bytes.now c.loop-read.builder.frames c.loop-read.rest.now c.loop-read._read c.args.count _ c.loop-read.invariant.row c.loop-read-test.true c.in_err-pc.ensures.refused)

pub loop-read-preserved : goal.loop-read-preserved
loop-read-preserved g c =
    frames_step c.args.builder.now c.args.bytes.now c.loop-read.builder c.read_frame.new.builder c.loop-read.rest.now c.loop-read._read c.in_ok-pc.pc c.loop-read.last c.in_ok-pc.behind.now c.loop-read.invariant c.in_ok-pc.ensures.ok
