use Rattle.std.proofs.Common.{suc, ap, arith}
use Rattle.mspec_syntax.specs.Pattern.{pattern_size, patterns_size, pattern_nodes, patterns_nodes, tail_nodes, patterns_of}
use Rattle.mspec_syntax.specs.PatternView.{tail_pattern}
use Rattle.mspec_syntax.proofs.SizeLemmas.{patterns_size-at, fields_size-at, cells-fall, no_room, cells-nodes, tail-nodes, Leaves-more}
use Rattle.mspec_reader.proofs.size.+size.Goals as goal

pub after_fields-after_pattern-requires : goal.after_fields-after_pattern-requires
after_fields-after_pattern-requires g t c κs within =
    (omega (arith, fields_size-at _ _ _ c.loop-pattern-test.true c.loop-pattern-item.is, c.decreases), within)

pub after_pattern-returns-in_err-room : goal.after_pattern-returns-in_err-room
after_pattern-returns-in_err-room g t c =
    rw c.from_residual.ensures (no_room c.args.room c.args.pattern.now c.in_err-room.ensures)

pub after_pattern-after_patterns-requires-in-List : goal.after_pattern-after_patterns-requires-in-List
after_pattern-after_patterns-requires-in-List g t c κs within =
    let is = rw c.in-List.is at c.kind.ensures.value in
    let kept = rw c.in-List.is at c.kind.ensures.kept in
    let fall = cells-fall c.in-List.elements.items (tail_pattern c.in-List.tail) _ is kept.0 in
    (omega (arith, fall.0, ap (λ xs. patterns_size (patterns_of xs)) c.as_slice-in-List.ensures.value, c.decreases), within)

pub after_pattern-returns-in_err-room-in-List : goal.after_pattern-returns-in_err-room-in-List
after_pattern-returns-in_err-room-in-List g t c =
    let is = rw c.in-List.is at c.kind.ensures.value in
    let kept = rw c.in-List.is at c.kind.ensures.kept in
    let whole = cells-nodes c.in-List.elements.items c.as_slice-in-List.result.now (tail_pattern c.in-List.tail) c.args.pattern.now is kept.0 c.as_slice-in-List.ensures.value in
    rw c.from_residual-in_err-room-in-List.ensures (omega (arith, whole, c.in_err-room-in-List.ensures, c.in_ok-room.ensures))

pub after_pattern-after_pattern-requires : goal.after_pattern-after_pattern-requires
after_pattern-after_pattern-requires g t c κs within =
    let is = rw c.in-List.is at c.kind.ensures.value in
    let kept = rw c.in-List.is at c.kind.ensures.kept in
    let fall = cells-fall c.in-List.elements.items (tail_pattern c.in-List.tail) _ is kept.0 in
    (omega (arith, fall.1, ap (λ t. pattern_size (tail_pattern t)) c.in-Some.is, ap pattern_size c.deref.ensures, c.decreases), within)

pub after_pattern-returns-in-None : goal.after_pattern-returns-in-None
after_pattern-returns-in-None g t c =
    let is = rw c.in-List.is at c.kind.ensures.value in
    let kept = rw c.in-List.is at c.kind.ensures.kept in
    let whole = cells-nodes c.in-List.elements.items c.as_slice-in-List.result.now (tail_pattern c.in-List.tail) c.args.pattern.now is kept.0 c.as_slice-in-List.ensures.value in
    let none = ap (λ t. tail_nodes (tail_pattern t)) c.in-None.is in
    omega (arith, whole, none, c.in_ok-room-in-List.ensures, c.in_ok-room.ensures)

pub after_pattern-returns-in-Some : goal.after_pattern-returns-in-Some
after_pattern-returns-in-Some g t c =
    let is = rw c.in-List.is at c.kind.ensures.value in
    let kept = rw c.in-List.is at c.kind.ensures.kept in
    let whole = cells-nodes c.in-List.elements.items c.as_slice-in-List.result.now (tail_pattern c.in-List.tail) c.args.pattern.now is kept.0 c.as_slice-in-List.ensures.value in
    let last = tail-nodes c.in-List.tail c.in-Some.tail c.deref.result.now c.in-Some.is c.deref.ensures kept.1 in
    Leaves-more c.after_pattern.result c.in_ok-room-in-List.room (pattern_nodes c.deref.result.now)
    (suc (patterns_nodes (patterns_of c.as_slice-in-List.result.now))) c.args.room (pattern_nodes c.args.pattern.now)
    (omega (arith, c.in_ok-room-in-List.ensures, c.in_ok-room.ensures)) (omega (arith, whole, last)) c.after_pattern.ensures

pub after_patterns-after_pattern-requires : goal.after_patterns-after_pattern-requires
after_patterns-after_pattern-requires g t c κs within =
    (omega (arith, patterns_size-at _ _ _ c.loop-pattern-test.true c.pattern-item.is, c.decreases), within)
