use Rattle.std.proofs.Common.{suc, ap, arith}
use Rattle.mspec_syntax.specs.Expression.{expression_size, expressions_size, expression_nodes, expressions_nodes, rest_nodes, expressions_of}
use Rattle.mspec_syntax.specs.ExpressionView.{tail_expression}
use Rattle.mspec_syntax.proofs.ExpressionSizes.{size-at, assignments-at}
use Rattle.mspec_syntax.proofs.SizeLemmas.{new_cells-fall, no_room_expression, new_cells-nodes, rest-nodes, Leaves-more}
use Rattle.mspec_reader.proofs.size.+expression.Goals as goal

pub after_assignments-after_expression-requires : goal.after_assignments-after_expression-requires
after_assignments-after_expression-requires g t c κs within =
    (omega (arith, assignments-at _ _ _ c.loop-expression-test.true c.loop-expression-item.is, c.decreases), within)

pub after_expression-returns-in_err-room : goal.after_expression-returns-in_err-room
after_expression-returns-in_err-room g t c =
    rw c.from_residual.ensures (no_room_expression c.args.variables c.args.room c.args.expression.now c.in_err-room.ensures)

pub after_expression-after_parts-requires-in-List : goal.after_expression-after_parts-requires-in-List
after_expression-after_parts-requires-in-List g t c κs within =
    let is = rw c.in-List.is at c.kind.ensures.value in
    let kept = rw c.in-List.is at c.kind.ensures.kept in
    let fall = new_cells-fall c.in-List.elements.items (tail_expression c.in-List.tail) _ is kept.0 in
    (omega (arith, fall.0, ap (λ xs. expressions_size (expressions_of xs)) c.as_slice-in-List.ensures.value, c.decreases), within)

pub after_expression-returns-in_err-room-in-List : goal.after_expression-returns-in_err-room-in-List
after_expression-returns-in_err-room-in-List g t c =
    let is = rw c.in-List.is at c.kind.ensures.value in
    let kept = rw c.in-List.is at c.kind.ensures.kept in
    let whole = new_cells-nodes c.args.variables c.in-List.elements.items c.as_slice-in-List.result.now (tail_expression c.in-List.tail) c.args.expression.now is kept.0 c.as_slice-in-List.ensures.value in
    rw c.from_residual-in_err-room-in-List.ensures (omega (arith, whole, c.in_err-room-in-List.ensures, c.in_ok-room.ensures))

pub after_expression-after_expression-requires : goal.after_expression-after_expression-requires
after_expression-after_expression-requires g t c κs within =
    let is = rw c.in-List.is at c.kind.ensures.value in
    let kept = rw c.in-List.is at c.kind.ensures.kept in
    let fall = new_cells-fall c.in-List.elements.items (tail_expression c.in-List.tail) _ is kept.0 in
    (omega (arith, fall.1, ap (λ t. expression_size (tail_expression t)) c.in-Some.is, ap expression_size c.deref.ensures, c.decreases), within)

pub after_expression-returns-in-None : goal.after_expression-returns-in-None
after_expression-returns-in-None g t c =
    let is = rw c.in-List.is at c.kind.ensures.value in
    let kept = rw c.in-List.is at c.kind.ensures.kept in
    let whole = new_cells-nodes c.args.variables c.in-List.elements.items c.as_slice-in-List.result.now (tail_expression c.in-List.tail) c.args.expression.now is kept.0 c.as_slice-in-List.ensures.value in
    let none = ap (λ t. rest_nodes c.args.variables (tail_expression t)) c.in-None.is in
    omega (arith, whole, none, c.in_ok-room-in-List.ensures, c.in_ok-room.ensures)

pub after_expression-returns-in-Some : goal.after_expression-returns-in-Some
after_expression-returns-in-Some g t c =
    let is = rw c.in-List.is at c.kind.ensures.value in
    let kept = rw c.in-List.is at c.kind.ensures.kept in
    let whole = new_cells-nodes c.args.variables c.in-List.elements.items c.as_slice-in-List.result.now (tail_expression c.in-List.tail) c.args.expression.now is kept.0 c.as_slice-in-List.ensures.value in
    let last = rest-nodes c.args.variables c.in-List.tail c.in-Some.tail c.deref.result.now c.in-Some.is c.deref.ensures kept.1 in
    Leaves-more c.after_expression.result c.in_ok-room-in-List.room (expression_nodes c.args.variables c.deref.result.now)
    (suc (expressions_nodes c.args.variables (expressions_of c.as_slice-in-List.result.now))) c.args.room (expression_nodes c.args.variables c.args.expression.now)
    (omega (arith, c.in_ok-room-in-List.ensures, c.in_ok-room.ensures)) (omega (arith, whole, last)) c.after_expression.ensures

pub after_parts-after_expression-requires : goal.after_parts-after_expression-requires
after_parts-after_expression-requires g t c κs within =
    (omega (arith, size-at _ _ _ c.loop-part-test.true c.part-item.is, c.decreases), within)
