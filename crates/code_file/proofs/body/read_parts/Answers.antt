use Rattle.std.proofs.lemmas.Result.{err_from_is_err_and}
use Rattle.code_file.proofs.BodyLemmas.{instructions_stop_parts, frames_stop_parts, parts_begin}
use Rattle.code_file.proofs.body.read_parts.Goals as goal

pub returns-in_err-rest-clause-refused : goal.returns-in_err-rest-clause-refused
returns-in_err-rest-clause-refused g c =
    let p = err_from_is_err_and c.from_residual.result c.from_residual.ensures.1 in
    rw (p.1, p.2) (instructions_stop_parts c.args.most c.args.bytes.now _ c.in_err-rest.ensures.refused)

pub returns-in_err-rest-2-clause-refused : goal.returns-in_err-rest-2-clause-refused
returns-in_err-rest-2-clause-refused g c =
    let p = err_from_is_err_and c.from_residual-in_err-rest-2.result c.from_residual-in_err-rest-2.ensures.1 in
    rw (p.1, p.2) (frames_stop_parts c.args.most c.args.bytes.now c.read_instrs.new.builder.instructions c.in_ok-rest.rest.now _ c.in_ok-rest.ensures.ok c.in_err-rest-2.ensures.refused)

pub returns-clause-ok : goal.returns-clause-ok
returns-clause-ok g c =
    (parts_begin c.args.most c.args.bytes.now c.in_ok-rest.rest.now c.in_ok-rest-2.rest.now c.args.builder.now c.read_instrs.new.builder c.read_frames.new.builder c.in_ok-rest.ensures.ok c.in_ok-rest-2.ensures.ok c.in_ok-rest.ensures.kept c.in_ok-rest-2.ensures.kept).0

pub returns-clause-kept : goal.returns-clause-kept
returns-clause-kept g c =
    (parts_begin c.args.most c.args.bytes.now c.in_ok-rest.rest.now c.in_ok-rest-2.rest.now c.args.builder.now c.read_instrs.new.builder c.read_frames.new.builder c.in_ok-rest.ensures.ok c.in_ok-rest-2.ensures.ok c.in_ok-rest.ensures.kept c.in_ok-rest-2.ensures.kept).1
