use Rattle.std.proofs.Common.{refl}
use Rattle.code_file.proofs.RowLemmas.{not_so}
use Rattle.std.proofs.lemmas.Result.{err_from_is_err_and}
use Rattle.code_file.proofs.FrameLemmas.{place_short, place_kind, place_unordered, place_begins}
use Rattle.code_file.proofs.frame.read_place.Goals as goal

pub returns-in_err-number : goal.returns-in_err-number
returns-in_err-number c =
    let p = err_from_is_err_and c.from_residual.result c.from_residual.ensures.1 in
    rw (p.1, p.2) (place_short c.args.before.now c.args.bytes.now _ c.in_err-number.ensures)

pub returns-then-not-is_above : goal.returns-then-not-is_above
returns-then-not-is_above c = place_unordered c.args.before.now c.last_place.result c.args.bytes.now c.in_ok-number.number c.in_ok-number.rest.now c.last_place.ensures c.requires c.in_ok-number.ensures (not_so c.if-not-is_above.ensures.1)

pub returns-in_err-kind : goal.returns-in_err-kind
returns-in_err-kind c =
    let p = err_from_is_err_and c.from_residual-in_err-kind.result c.from_residual-in_err-kind.ensures.1 in
    rw (p.1, p.2) (place_kind c.args.before.now c.last_place.result c.args.bytes.now c.in_ok-number.number c.in_ok-number.rest.now _ c.last_place.ensures c.in_ok-number.ensures (c.if-not-is_above.ensures.0 refl) c.in_err-kind.ensures)

pub returns : goal.returns
returns c = place_begins c.args.before.now c.last_place.result c.args.bytes.now c.in_ok-number.number c.in_ok-number.rest.now c.in_ok-kind.kind c.in_ok-kind.rest.now c.last_place.ensures c.requires (c.if-not-is_above.ensures.0 refl) c.in_ok-number.ensures c.in_ok-kind.ensures
