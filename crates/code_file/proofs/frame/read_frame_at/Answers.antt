use Rattle.std.proofs.lemmas.Result.{err_from_is_err_and}
use Rattle.code_file.proofs.FrameLemmas.{depth_short, frame_rest_places, frame_rest_slots}
use Rattle.code_file.proofs.frame.read_frame_at.Goals as goal

pub returns-in_err-depth-clause-rest : goal.returns-in_err-depth-clause-rest
returns-in_err-depth-clause-rest g c =
    let p = err_from_is_err_and c.from_residual.result c.from_residual.ensures.1 in
    rw (p.1, p.2) (depth_short c.args.bytes.now _ c.in_err-depth.ensures)

pub returns-in_err-places-clause-rest : goal.returns-in_err-places-clause-rest
returns-in_err-places-clause-rest g c =
    let p = err_from_is_err_and c.from_residual-in_err-places.result c.from_residual-in_err-places.ensures.1 in
    rw (p.1, p.2) (frame_rest_places c.args.bytes.now c.in_ok-depth.depth c.in_ok-depth.rest.now _ c.in_ok-depth.ensures c.in_err-places.ensures)

pub returns-in_err-slots-clause-rest : goal.returns-in_err-slots-clause-rest
returns-in_err-slots-clause-rest g c =
    let p = err_from_is_err_and c.from_residual-in_err-slots.result c.from_residual-in_err-slots.ensures.1 in
    rw (p.1, p.2) (frame_rest_slots c.args.bytes.now c.in_ok-depth.depth c.in_ok-depth.rest.now c.in_ok-places.places c.in_ok-places.rest.now _ c.in_ok-depth.ensures c.in_ok-places.ensures c.in_err-slots.ensures)
