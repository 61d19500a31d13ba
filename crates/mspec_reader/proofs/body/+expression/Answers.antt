use Rattle.std.proofs.Common.{length, sym, ◌∙◌, ap, arith}
use Rattle.term_core.specs.Limits.{depth as depth_of}
use Rattle.term_core.specs.Term.{tail_of}
use Rattle.std.specs.Option.{option_copied}
use Rattle.std.specs.Str.{chars}
use Rattle.std.proofs.lemmas.Result.{err_from_is_err_and}
use Rattle.term_core.proofs.DepthLemmas.{items_depth-at, entries_depth-at, elements-fall, tail-falls}
use Rattle.mspec_syntax.proofs.ExpressionLemmas.{PartsFront-more, PartsFront-all, PartsFront-refuses, AssignmentsFront-more, AssignmentsFront-all, AssignmentsFront-refuses, AreParts-some, proper-IsExpression, improper-IsExpression, elements-Refuses, tail-Refuses, tail-no_list, quotes-one, first-depth, call-read, call-refused, tuple-read, tuple-refused, list-led, other-led, keys-rising, alone-read, alone-refused, crowded-refused}
use Rattle.mspec_syntax.specs.Expression.{expressions_of, assignments_of}
use Rattle.term_core.specs.Datum.{items_of, entries_of}
use Rattle.mspec_reader.proofs.body.+expression.Goals as goal

pub read_assignments-read_expression-requires : goal.read_assignments-read_expression-requires
read_assignments-read_expression-requires g t c κs within =
    let p = entries_depth-at _ _ _ c.loop-key-test.true c.loop-key-item.is in (omega (arith, p.1, c.decreases), within)

pub read_assignments-returns-in_err-expression-clause-refused :
    goal.read_assignments-returns-in_err-expression-clause-refused
read_assignments-returns-in_err-expression-clause-refused g t c =
    let p = err_from_is_err_and c.from_residual.result c.from_residual.ensures.1 in
    rw (p.1, p.2)
    (AssignmentsFront-refuses c.args.clause c.args.variables.now c.args.pairs.now c.loop-key.key-index c.loop-key-item.result c.loop-key.assignments.items c.in_err-expression.field-0.0 c.loop-key-test.true c.loop-key-item.is c.loop-key.invariant c.in_err-expression.ensures.refused)

pub read_assignments-loop-key-preserved : goal.read_assignments-loop-key-preserved
read_assignments-loop-key-preserved g t c =
    AssignmentsFront-more c.args.clause c.args.variables.now c.args.pairs.now c.loop-key.key-index c.loop-key-item.result c.loop-key.assignments.items _ c.in_ok-key.key c.in_ok-expression.expression c.loop-key-test.true c.loop-key-item.is c.in_ok-key.ensures c.in_ok-expression.ensures.ok c.in_ok-push.ensures.items c.loop-key.invariant

pub read_assignments-returns-clause-ok : goal.read_assignments-returns-clause-ok
read_assignments-returns-clause-ok g t c =
    AssignmentsFront-all c.args.clause c.args.variables.now c.args.pairs.now c.loop-key.key-index c.loop-key.assignments.items c.loop-key-test.false c.loop-key.invariant

pub read_expression-read_parts-requires : goal.read_expression-read_parts-requires
read_expression-read_parts-requires g t c κs within =
    let arm = c.in-List-default-None in
    (omega (arith, elements-fall arm.elements.now (option_copied arm.field-1) _ arm.ensures.value arm.ensures.split.0, c.decreases), within)

pub read_expression-returns-in_err-elements-in-List-default-None-clause-refused :
    goal.read_expression-returns-in_err-elements-in-List-default-None-clause-refused
read_expression-returns-in_err-elements-in-List-default-None-clause-refused g t c =
    let residual = c.from_residual in
    let p = err_from_is_err_and residual.result residual.ensures.1 in
    let arm = c.in-List-default-None in
    let failed = c.in_err-elements-in-List-default-None in
    rw (p.1, p.2) (elements-Refuses c.args.clause c.args.variables.now arm.elements.now (option_copied arm.field-1) c.args.term.now failed.field-0.0 arm.ensures.value failed.ensures.refused)

pub read_expression-new-requires : goal.read_expression-new-requires
read_expression-new-requires g t c =
    let arm = c.in-List-default-None in
    let made = c.in_ok-elements-in-List-default-None in
    (AreParts-some c.args.variables.now arm.elements.now made.elements.items made.ensures.ok arm.ensures.split.0, tt)

pub read_expression-read_parts-requires-in-List-default-Some :
    goal.read_expression-read_parts-requires-in-List-default-Some
read_expression-read_parts-requires-in-List-default-Some g t c κs within =
    let arm = c.in-List-default-Some in
    (omega (arith, elements-fall arm.elements.now (option_copied arm.field-1) _ arm.ensures.value arm.ensures.split.0, c.decreases), within)

pub read_expression-returns-in_err-elements-in-List-default-Some-clause-refused :
    goal.read_expression-returns-in_err-elements-in-List-default-Some-clause-refused
read_expression-returns-in_err-elements-in-List-default-Some-clause-refused g t c =
    let residual = c.from_residual-in_err-elements-in-List-default-Some in
    let p = err_from_is_err_and residual.result residual.ensures.1 in
    let arm = c.in-List-default-Some in
    let failed = c.in_err-elements-in-List-default-Some in
    rw (p.1, p.2) (elements-Refuses c.args.clause c.args.variables.now arm.elements.now (option_copied arm.field-1) c.args.term.now failed.field-0.0 arm.ensures.value failed.ensures.refused)

pub read_expression-read_expression-requires : goal.read_expression-read_expression-requires
read_expression-read_expression-requires g t c κs within =
    let arm = c.in-List-default-Some in
    (omega (arith, tail-falls arm.elements.now (option_copied arm.field-1) _ _ (ap option_copied arm.field-1-is) arm.ensures.value arm.ensures.split.0 arm.ensures.split.1, c.decreases), within)

pub read_expression-returns-in_err-tail-in-List-default-Some-clause-refused :
    goal.read_expression-returns-in_err-tail-in-List-default-Some-clause-refused
read_expression-returns-in_err-tail-in-List-default-Some-clause-refused g t c =
    let residual = c.from_residual-in_err-tail-in-List-default-Some in
    let p = err_from_is_err_and residual.result residual.ensures.1 in
    let arm = c.in-List-default-Some in
    let made = c.in_ok-elements-in-List-default-Some in
    let failed = c.in_err-tail-in-List-default-Some in
    rw (p.1, p.2)
    (tail-Refuses c.args.clause c.args.variables.now arm.elements.now (option_copied arm.field-1) arm.tail.now c.args.term.now made.elements.items failed.field-0.0 (ap option_copied arm.field-1-is) arm.ensures.value made.ensures.ok failed.ensures.refused)

pub read_expression-new-requires-in-List-default-Some-2 :
    goal.read_expression-new-requires-in-List-default-Some-2
read_expression-new-requires-in-List-default-Some-2 g t c =
    let arm = c.in-List-default-Some in
    let made = c.in_ok-elements-in-List-default-Some in
    let tail = c.in_ok-tail-in-List-default-Some in (
      AreParts-some c.args.variables.now arm.elements.now made.elements.items made.ensures.ok arm.ensures.split.0,
      rw c.in_ok-tail-in-List-default-Some-2.ensures.ok
          (tail-no_list c.args.variables.now (option_copied arm.field-1) arm.tail.now tail.tail (ap option_copied arm.field-1-is) arm.ensures.split.1 tail.ensures.ok),
    )

pub read_expression-returns-in_ok-elements-in-List-default-None-clause-ok :
    goal.read_expression-returns-in_ok-elements-in-List-default-None-clause-ok
read_expression-returns-in_ok-elements-in-List-default-None-clause-ok g t c =
    let arm = c.in-List-default-None in
    let made = c.in_ok-elements-in-List-default-None in
    rw c.new.ensures
    (proper-IsExpression c.args.variables.now arm.elements.now (option_copied arm.field-1) c.args.term.now made.elements.items (ap option_copied arm.field-1-is) arm.ensures.value made.ensures.ok)

pub read_expression-returns-in_ok-tail-in-List-default-Some-2-clause-ok :
    goal.read_expression-returns-in_ok-tail-in-List-default-Some-2-clause-ok
read_expression-returns-in_ok-tail-in-List-default-Some-2-clause-ok g t c =
    let arm = c.in-List-default-Some in
    let made = c.in_ok-elements-in-List-default-Some in
    let tail = c.in_ok-tail-in-List-default-Some in
    rw (c.new-in-List-default-Some-2.ensures, c.in_ok-tail-in-List-default-Some-2.ensures.ok)
    (improper-IsExpression c.args.variables.now arm.elements.now (option_copied arm.field-1) arm.tail.now c.args.term.now made.elements.items tail.tail (ap option_copied arm.field-1-is) arm.ensures.value made.ensures.ok tail.ensures.ok)

pub read_parts-read_expression-requires : goal.read_parts-read_expression-requires
read_parts-read_expression-requires g t c κs within =
    (omega (arith, items_depth-at _ _ _ c.loop-term-test.true c.term-item.is, c.decreases), within)

pub read_parts-returns-in_err-part-clause-refused :
    goal.read_parts-returns-in_err-part-clause-refused
read_parts-returns-in_err-part-clause-refused g t c =
    let p = err_from_is_err_and c.from_residual.result c.from_residual.ensures.1 in
    rw (p.1, p.2)
    (PartsFront-refuses c.args.clause c.args.variables.now c.args.terms.now c.loop-term.term-index c.term-item.result c.loop-term.parts.items c.in_err-part.field-0.0 c.loop-term-test.true c.term-item.is c.loop-term.invariant c.in_err-part.ensures.refused)

pub read_parts-loop-term-preserved : goal.read_parts-loop-term-preserved
read_parts-loop-term-preserved g t c =
    PartsFront-more c.args.clause c.args.variables.now c.args.terms.now c.loop-term.term-index c.term-item.result c.loop-term.parts.items _ c.in_ok-part.part c.loop-term-test.true c.term-item.is c.in_ok-part.ensures.ok c.in_ok-push.ensures.items c.loop-term.invariant

pub read_parts-returns-clause-ok : goal.read_parts-returns-clause-ok
read_parts-returns-clause-ok g t c =
    PartsFront-all c.args.clause c.args.variables.now c.args.terms.now c.loop-term.term-index c.loop-term.parts.items c.loop-term-test.false c.loop-term.invariant

pub read_tuple-read_call-requires : goal.read_tuple-read_call-requires
read_tuple-read_call-requires g t c κs within =
    let depth = first-depth c.args.elements.now c.in-Some.first.now c.in-Some.rest.now c.in-Some.ensures.cases.0 in
    (omega (arith, depth.1, c.decreases), (within, λ e. quotes-one (chars c.in-Atom.name.now) (length c.in-Some.rest.now) (sym c.new-callee.ensures ∙ e)))

pub read_tuple-read_construction-requires : goal.read_tuple-read_construction-requires
read_tuple-read_construction-requires g t c κs within =
    let depth = first-depth c.args.elements.now c.in-Some.first.now c.in-Some.rest.now c.in-Some.ensures.cases.0 in
    (omega (arith, depth.0, ap depth_of c.in-Tuple.ensures.value, c.decreases), within)

pub read_tuple-returns-in-Atom-clause-ok : goal.read_tuple-returns-in-Atom-clause-ok
read_tuple-returns-in-Atom-clause-ok g t c =
    call-read c.args.variables.now c.args.elements.now c.in-Some.first.now c.in-Some.rest.now (chars c.in-Atom.name.now) c.new-callee.result c.read_call.result c.in-Some.ensures.cases.0 c.in-Atom.ensures.value c.new-callee.ensures c.read_call.ensures.ok

pub read_tuple-returns-in-Atom-clause-refused : goal.read_tuple-returns-in-Atom-clause-refused
read_tuple-returns-in-Atom-clause-refused g t c =
    call-refused c.args.clause c.args.variables.now c.args.elements.now c.in-Some.first.now c.in-Some.rest.now (chars c.in-Atom.name.now) c.new-callee.result c.read_call.result c.in-Some.ensures.cases.0 c.in-Atom.ensures.value c.new-callee.ensures c.read_call.ensures.refused

pub read_tuple-returns-in-Tuple-clause-ok : goal.read_tuple-returns-in-Tuple-clause-ok
read_tuple-returns-in-Tuple-clause-ok g t c =
    tuple-read c.args.variables.now c.args.elements.now c.in-Some.first.now c.in-Some.rest.now c.in-Tuple.parts.now c.read_construction.result c.in-Some.ensures.cases.0 c.in-Tuple.ensures.value c.read_construction.ensures.ok

pub read_tuple-returns-in-Tuple-clause-refused : goal.read_tuple-returns-in-Tuple-clause-refused
read_tuple-returns-in-Tuple-clause-refused g t c =
    tuple-refused c.args.clause c.args.variables.now c.args.elements.now c.in-Some.first.now c.in-Some.rest.now c.in-Tuple.parts.now c.read_construction.result c.in-Some.ensures.cases.0 c.in-Tuple.ensures.value c.read_construction.ensures.refused

pub read_tuple-returns-in-Integer-clause-refused : goal.read_tuple-returns-in-Integer-clause-refused
read_tuple-returns-in-Integer-clause-refused g t c =
    other-led c.args.clause c.args.variables.now c.args.elements.now c.in-Some.first.now _ c.in-Some.rest.now c.in-Some.ensures.cases.0 c.in-Integer.ensures.value tt

pub read_tuple-returns-in-Nil-clause-refused : goal.read_tuple-returns-in-Nil-clause-refused
read_tuple-returns-in-Nil-clause-refused g t c =
    other-led c.args.clause c.args.variables.now c.args.elements.now c.in-Some.first.now _ c.in-Some.rest.now c.in-Some.ensures.cases.0 c.in-Nil.ensures.value tt

pub read_tuple-returns-in-Map-clause-refused : goal.read_tuple-returns-in-Map-clause-refused
read_tuple-returns-in-Map-clause-refused g t c =
    other-led c.args.clause c.args.variables.now c.args.elements.now c.in-Some.first.now _ c.in-Some.rest.now c.in-Some.ensures.cases.0 c.in-Map.ensures.value tt

pub read_tuple-returns-in-Binary-clause-refused : goal.read_tuple-returns-in-Binary-clause-refused
read_tuple-returns-in-Binary-clause-refused g t c =
    other-led c.args.clause c.args.variables.now c.args.elements.now c.in-Some.first.now _ c.in-Some.rest.now c.in-Some.ensures.cases.0 c.in-Binary.ensures.value tt

pub read_tuple-returns-in-List-clause-refused : goal.read_tuple-returns-in-List-clause-refused
read_tuple-returns-in-List-clause-refused g t c =
    list-led c.args.clause c.args.variables.now c.args.elements.now c.in-Some.first.now c.in-Some.rest.now c.in-List.field-0.now (tail_of (option_copied c.in-List.field-1)) c.in-Some.ensures.cases.0 c.in-List.ensures.value c.in-List.ensures.split.0

pub read_construction-returns-then-not-is_empty-clause-refused :
    goal.read_construction-returns-then-not-is_empty-clause-refused
read_construction-returns-then-not-is_empty-clause-refused g t c =
    crowded-refused c.args.clause c.args.variables.now (items_of c.args.parts.now) c.args.rest.now c.is_empty.result c.is_empty.ensures c.if-not-is_empty.true

pub read_construction-returns-in_err-parts-clause-refused :
    goal.read_construction-returns-in_err-parts-clause-refused
read_construction-returns-in_err-parts-clause-refused g t c =
    let p = err_from_is_err_and c.from_residual.result c.from_residual.ensures.1 in
    rw (p.1, p.2)
    (alone-refused c.args.clause c.args.variables.now (items_of c.args.parts.now) c.args.rest.now c.in_err-parts.field-0.0 c.is_empty.result c.is_empty.ensures c.if-not-is_empty.false c.in_err-parts.ensures.refused)

pub read_construction-returns-clause-ok : goal.read_construction-returns-clause-ok
read_construction-returns-clause-ok g t c =
    rw c.new.ensures
    (alone-read c.args.variables.now (items_of c.args.parts.now) c.args.rest.now (expressions_of c.in_ok-parts.parts.items) c.is_empty.result c.is_empty.ensures c.if-not-is_empty.false c.in_ok-parts.ensures.ok)

pub read_expression-new-requires-in-Map : goal.read_expression-new-requires-in-Map
read_expression-new-requires-in-Map g t c =
    keys-rising c.args.variables.now (entries_of c.in-Map.pairs.now) (assignments_of c.in_ok-assignments-in-Map.assignments.items) c.args.term.now c.in-Map.ensures.value c.in-Map.ensures.within c.in_ok-assignments-in-Map.ensures.ok
