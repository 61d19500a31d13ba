use Rattle.std.proofs.Common.{[], ◌∷◌, ◌++◌, length, refl, sym, ◌∙◌, ap, arith}
use Rattle.std.proofs.lemmas.Result.{on_ok_weaker}
use Rattle.mcode.specs.declared.kind.Kind.TheVariants.{Int}
use Rattle.mspec_syntax.specs.Expression.{expressions_of, assignments_of, new_cells, expression_size}
use Rattle.mspec_syntax.specs.Expression.Expression.{constant, call, and_also, or_else, new_tuple, new_map}
use Rattle.mspec_syntax.specs.ExpressionView.{tail_expression}
use Rattle.mspec_syntax.proofs.ExpressionSizes.{size-at, length-size, length-assignments, new_cells-size}
use Rattle.compiler_expressions.proofs.LineLemmas.{near, arguments-none, arguments-step, arguments-all, values-none, values-step, values-all, tests-none, choices-none}
use Rattle.compiler_expressions.proofs.WriteLemmas.{written-of, lines-of, argument-written, value-written, tuple-arguments, tuple-lines, function-arguments, function-lines, map-values, map-keys, map-lines, test-written, test-near, tests-longer, and-step, and-lines, choice-written, choice-near, choices-longer, or-step, or-lines, list-cells, list-arguments, list-tail, list-lines, list-depth, list-room, arithmetic-needs, second-needs, second-longer, second-near, arithmetic-lines, arithmetic-none, second-written, second-lines}
use Rattle.compiler_expressions.proofs.site.Site.+write.Goals as goal

pub write_all-loop-place-init : goal.write_all-loop-place-init
write_all-loop-place-init g t c = arguments-none _ _ c.args.expressions.now _ _

pub write_all-overflow_cast-place : goal.write_all-overflow_cast-place
write_all-overflow_cast-place g t c = omega (arith, length-size c.args.expressions.now, c.requires.room)

pub write_all-overflow_add-depth : goal.write_all-overflow_add-depth
write_all-overflow_add-depth g t c = omega (arith, length-size c.args.expressions.now, c.requires.room)

pub write_all-write_one-requires : goal.write_all-write_one-requires
write_all-write_one-requires g t c κs within =
    let one =
    argument-written _ _ _ _ _ c.index-expressions-place.is (omega arith) c.requires.room c.requires.lines in
    (omega (arith, one.0, c.decreases), (within, one.1))

pub write_all-loop-place-preserved : goal.write_all-loop-place-preserved
write_all-loop-place-preserved g t c =
    arguments-step c.args.self.now c.args.integers.now _ c.args.depth _ c.loop-place.place _
    c.index-expressions-place.is (omega arith) (omega arith) c.loop-place.invariant c.in_ok-write_one.ensures

pub write_all-returns : goal.write_all-returns
write_all-returns g t c =
    arguments-all c.args.self.now c.args.integers.now c.args.expressions.now c.args.depth c.loop-place.place
    c.loop-place.lines c.args.lines.now (omega arith) c.loop-place.invariant

pub write_values-loop-place-init : goal.write_values-loop-place-init
write_values-loop-place-init g t c = values-none _ _ c.args.assignments.now _ _

pub write_values-overflow_cast-place : goal.write_values-overflow_cast-place
write_values-overflow_cast-place g t c = omega (arith, length-assignments c.args.assignments.now, c.requires.room)

pub write_values-overflow_add-depth : goal.write_values-overflow_add-depth
write_values-overflow_add-depth g t c = omega (arith, length-assignments c.args.assignments.now, c.requires.room)

pub write_values-write_one-requires : goal.write_values-write_one-requires
write_values-write_one-requires g t c κs within =
    let one =
    value-written _ _ _ _ _ c.index-assignments-place.is (omega arith) c.requires.room c.requires.lines in
    (omega (arith, one.0, c.decreases), (within, one.1))

pub write_values-loop-place-preserved : goal.write_values-loop-place-preserved
write_values-loop-place-preserved g t c =
    values-step c.args.self.now c.args.integers.now _ c.args.depth _ c.loop-place.place _
    c.index-assignments-place.is (omega arith) (omega arith) c.loop-place.invariant c.in_ok-write_one.ensures

pub write_values-returns : goal.write_values-returns
write_values-returns g t c =
    values-all c.args.self.now c.args.integers.now c.args.assignments.now c.args.depth c.loop-place.place
    c.loop-place.lines c.args.lines.now (omega arith) c.loop-place.invariant

pub write_and-loop-place-init : goal.write_and-loop-place-init
write_and-loop-place-init g t c = tests-none _ _ c.args.arguments.now _ _

pub write_and-overflow_sub-len : goal.write_and-overflow_sub-len
write_and-overflow_sub-len g t c =
    let more = tests-longer _ _ _ _ c.loop-place.place _ c.requires c.loop-place.invariant in
    omega (arith, more, c.len.ensures, c.len-end.ensures)

pub write_and-put_test-requires : goal.write_and-put_test-requires
write_and-put_test-requires g t c =
    let near =
    test-near _ _ _ _ c.loop-place.place _ c.requires (omega arith) (omega arith)
    c.loop-place.invariant c.len.ensures c.len-end.ensures in
    record { failing = near.0; branch = near.1 }

pub write_and-write_one-requires : goal.write_and-write_one-requires
write_and-write_one-requires g t c κs within =
    let one = test-written _ _ _ _ _ c.requires c.index-arguments-place.is (omega arith) in
    (omega (arith, one.0, c.decreases), (within, one.1))

pub write_and-loop-place-preserved : goal.write_and-loop-place-preserved
write_and-loop-place-preserved g t c =
    and-step _ _ _ _ _ c.loop-place.place _ c.requires c.index-arguments-place.is (omega arith) (omega arith)
    c.loop-place.invariant c.len.ensures c.len-end.ensures c.in_ok-put_test.ensures c.in_ok-write_one.ensures

pub write_and-returns : goal.write_and-returns
write_and-returns g t c =
    and-lines _ _ _ _ c.loop-place.place _ c.requires (omega arith) c.in_ok-put_all_true.ensures c.loop-place.invariant

pub write_or-loop-place-init : goal.write_or-loop-place-init
write_or-loop-place-init g t c = c.in_ok-put_none_true.ensures ∙ choices-none c.args.self.now _ c.args.arguments.now _ _

pub write_or-overflow_sub-len : goal.write_or-overflow_sub-len
write_or-overflow_sub-len g t c =
    let more = choices-longer _ _ _ _ c.loop-place.place _ c.requires c.loop-place.invariant in
    omega (arith, more, c.len.ensures, c.len-end.ensures)

pub write_or-put_choice-requires : goal.write_or-put_choice-requires
write_or-put_choice-requires g t c =
    let near =
    choice-near _ _ _ _ c.loop-place.place _ c.requires (omega arith) (omega arith)
    c.loop-place.invariant c.len.ensures c.len-end.ensures in
    record { failing = near.0; jump = near.1 }

pub write_or-write_one-requires : goal.write_or-write_one-requires
write_or-write_one-requires g t c κs within =
    let one = choice-written _ _ _ _ _ c.requires c.index-arguments-place.is (omega arith) in
    (omega (arith, one.0, c.decreases), (within, one.1))

pub write_or-loop-place-preserved : goal.write_or-loop-place-preserved
write_or-loop-place-preserved g t c =
    or-step _ _ _ _ _ c.loop-place.place _ c.requires c.index-arguments-place.is (omega arith) (omega arith)
    c.loop-place.invariant c.len.ensures c.len-end.ensures c.in_ok-put_choice.ensures c.in_ok-write_one.ensures

pub write_or-returns : goal.write_or-returns
write_or-returns g t c =
    or-lines _ _ _ _ c.loop-place.place _ c.requires (omega arith) c.loop-place.invariant

pub write_function-overflow_cast-count : goal.write_function-overflow_cast-count
write_function-overflow_cast-count g t c = omega (arith, length-size c.args.arguments.now, c.requires.room)

pub write_function-failure-requires : goal.write_function-failure-requires
write_function-failure-requires g t c = near c.args.self.now.mode 1 (omega arith)

pub write_function-write_all-requires : goal.write_function-write_all-requires
write_function-write_all-requires g t c κs within =
    (omega (arith, c.decreases), (within, (omega (arith, c.requires.room), function-arguments _ _ _ _ _ c.requires)))

pub write_function-returns : goal.write_function-returns
write_function-returns g t c =
    on_ok_weaker _ (function-lines _ _ _ _ _ _ c.requires refl c.failure.ensures c.in_ok-put_exit.ensures
    c.in_ok-put.ensures) c.write_all.ensures

pub write_tuple-overflow_cast-count : goal.write_tuple-overflow_cast-count
write_tuple-overflow_cast-count g t c = omega (arith, length-size c.args.elements.now, c.requires.room)

pub write_tuple-failure-requires : goal.write_tuple-failure-requires
write_tuple-failure-requires g t c = near c.args.self.now.mode 1 (omega arith)

pub write_tuple-write_all-requires : goal.write_tuple-write_all-requires
write_tuple-write_all-requires g t c κs within =
    (omega (arith, c.decreases), (within, (omega (arith, c.requires.room), tuple-arguments _ _ _ _ c.requires)))

pub write_tuple-returns : goal.write_tuple-returns
write_tuple-returns g t c =
    on_ok_weaker _ (tuple-lines _ _ _ _ _ c.requires refl c.failure.ensures c.in_ok-put_exit.ensures
    c.in_ok-put.ensures) c.write_all.ensures

pub write_map-key_list-requires : goal.write_map-key_list-requires
write_map-key_list-requires g t c = map-keys _ _ _ _ c.requires

pub write_map-failure-requires : goal.write_map-failure-requires
write_map-failure-requires g t c = near c.args.self.now.mode 1 (omega arith)

pub write_map-write_values-requires : goal.write_map-write_values-requires
write_map-write_values-requires g t c κs within =
    (omega (arith, c.decreases), (within, (omega (arith, c.requires.room), map-values _ _ _ _ c.requires)))

pub write_map-returns : goal.write_map-returns
write_map-returns g t c =
    on_ok_weaker _ (map-lines _ _ _ _ _ c.requires c.in_ok-keys.ensures c.failure.ensures c.in_ok-put_exit.ensures
    c.in_ok-put.ensures) c.write_values.ensures

pub write_list-put_exit-requires : goal.write_list-put_exit-requires
write_list-put_exit-requires g t c = omega (arith, list-depth _ _ _ c.args.elements.now _ c.requires.written)

pub write_list-put_cells-requires : goal.write_list-put_cells-requires
write_list-put_cells-requires g t c =
    list-cells _ _ _ c.args.elements.now c.args.tail.now c.requires.elements c.requires.tail c.requires.written

pub write_list-overflow_cast-elements : goal.write_list-overflow_cast-elements
write_list-overflow_cast-elements g t c = omega (arith, list-depth _ _ _ c.args.elements.now _ c.requires.written)

pub write_list-overflow_add-depth : goal.write_list-overflow_add-depth
write_list-overflow_add-depth g t c = omega (arith, list-depth _ _ _ c.args.elements.now _ c.requires.written)

pub write_list-write_tail-requires : goal.write_list-write_tail-requires
write_list-write_tail-requires g t c κs within =
    let es = c.args.elements.now in
    let tail = list-tail _ _ _ es c.args.tail.now c.requires.elements c.requires.tail c.requires.written in
    (omega (arith, length-size es, c.requires.elements, c.decreases), (within, tail))

pub write_list-write_all-requires : goal.write_list-write_all-requires
write_list-write_all-requires g t c κs within =
    let room = list-room _ _ _ c.args.elements.now _ c.requires.written in
    let all =
    list-arguments _ _ _ c.args.elements.now c.args.tail.now c.requires.elements c.requires.tail
    c.requires.written in
    (omega (arith, c.decreases), (within, (room, all)))

pub write_list-returns : goal.write_list-returns
write_list-returns g t c =
    on_ok_weaker _
    (list-lines _ _ _ c.args.elements.now c.args.tail.now c.requires.elements c.requires.tail
    c.args.lines.now c.requires.written c.in_ok-put_exit.ensures c.in_ok-put_cells.ensures c.in_ok-write_tail.ensures)
    c.write_all.ensures

pub write_tail-write_one-requires : goal.write_tail-write_one-requires
write_tail-write_one-requires g t c κs within =
    let same = c.deref.ensures ∙ ap tail_expression (sym c.in-Some.is) in
    (omega (arith, ap expression_size same, c.decreases), (within, written-of same c.requires))

pub write_tail-returns-in-None : goal.write_tail-returns-in-None
write_tail-returns-in-None g t c =
    let same = ap constant c.nil.ensures ∙ ap tail_expression (sym c.in-None.is) in
    on_ok_weaker _ (lines-of c.args.lines.now same c.requires) c.put.ensures

pub write_tail-returns-in-Some : goal.write_tail-returns-in-Some
write_tail-returns-in-Some g t c =
    let same = c.deref.ensures ∙ ap tail_expression (sym c.in-Some.is) in
    on_ok_weaker _ (lines-of c.args.lines.now same c.requires) c.write_one.ensures

pub write_second-write_one-requires : goal.write_second-write_one-requires
write_second-write_one-requires g t c κs within =
    let pushed = ap (λ l. l ++ (c.args.depth, Int) ∷ []) c.in_ok-integers.ensures.items in
    let all = c.as_slice.ensures.value ∙ c.in_ok-push.ensures.items ∙ pushed in
    (omega (arith, c.decreases), (within, second-written _ _ _ all c.requires))

pub write_second-returns : goal.write_second-returns
write_second-returns g t c =
    let pushed = ap (λ l. l ++ (c.args.depth, Int) ∷ []) c.in_ok-integers.ensures.items in
    let all = c.as_slice.ensures.value ∙ c.in_ok-push.ensures.items ∙ pushed in
    on_ok_weaker _ (second-lines _ _ _ c.args.lines.now all c.requires) c.write_one.ensures

pub write_arithmetic-returns-then-arguments-ne2 : goal.write_arithmetic-returns-then-arguments-ne2
write_arithmetic-returns-then-arguments-ne2 g t c = arithmetic-none _ _ _ _ _ _ c.if-arguments-ne2.true

pub write_arithmetic-write_second-requires : goal.write_arithmetic-write_second-requires
write_arithmetic-write_second-requires g t c κs within =
    let can = second-needs _ _ _ _ _ c.if-arguments-ne2.false c.index-arguments-1.is c.requires in
    let fall = size-at c.args.arguments.now 1 c.index-arguments-1.result (omega arith) c.index-arguments-1.is in
    (omega (arith, fall, c.decreases), (within, can.second))

pub write_arithmetic-overflow_sub-len : goal.write_arithmetic-overflow_sub-len
write_arithmetic-overflow_sub-len g t c =
    let can = second-needs _ _ _ _ _ c.if-arguments-ne2.false c.index-arguments-1.is c.requires in
    omega (arith, second-longer _ _ _ _ can c.in_ok-write_second.ensures, c.len.ensures, c.len-end.ensures)

pub write_arithmetic-failure_after-failure-requires : goal.write_arithmetic-failure_after-failure-requires
write_arithmetic-failure_after-failure-requires g t c =
    let can = second-needs _ _ _ _ _ c.if-arguments-ne2.false c.index-arguments-1.is c.requires in
    second-near _ _ _ c.put_arithmetic.new.lines can c.in_ok-write_second.ensures c.len.ensures c.len-end.ensures

pub write_arithmetic-write_one-requires : goal.write_arithmetic-write_one-requires
write_arithmetic-write_one-requires g t c κs within =
    let can =
    arithmetic-needs _ _ _ _ _ _ _ c.if-arguments-ne2.false
    c.index-arguments-0.is c.index-arguments-1.is c.requires in
    let fall = size-at c.args.arguments.now 0 c.index-arguments-0.result (omega arith) c.index-arguments-0.is in
    (omega (arith, fall, c.decreases), (within, can.first))

pub write_arithmetic-returns : goal.write_arithmetic-returns
write_arithmetic-returns g t c =
    on_ok_weaker _
    (arithmetic-lines _ _ _ _ _ c.args.lines.now c.requires c.if-arguments-ne2.false
    c.index-arguments-0.is c.index-arguments-1.is c.len.ensures c.len-end.ensures c.failure_after-failure.ensures
    c.in_ok-put_exit.ensures c.in_ok-put_arithmetic.ensures c.in_ok-write_second.ensures c.in_ok-put.ensures)
    c.write_one.ensures

pub write_one-write_call-requires : goal.write_one-write_call-requires
write_one-write_call-requires g t c κs within =
    let is = rw c.in-Call.is at c.kind.ensures.value in
    let same = ap (λ l. call c.in-Call.function (expressions_of l)) c.as_slice.ensures.value ∙ is in
    (omega (arith, ap expression_size same, c.decreases), (within, written-of same c.requires))

pub write_one-returns-in-Call : goal.write_one-returns-in-Call
write_one-returns-in-Call g t c =
    let is = rw c.in-Call.is at c.kind.ensures.value in
    let same = ap (λ l. call c.in-Call.function (expressions_of l)) c.as_slice.ensures.value ∙ is in
    on_ok_weaker _ (lines-of c.args.lines.now same c.requires) c.write_call.ensures

pub write_one-write_and-requires : goal.write_one-write_and-requires
write_one-write_and-requires g t c κs within =
    let is = rw c.in-AndAlso.is at c.kind.ensures.value in
    let same = ap (λ l. and_also (expressions_of l)) c.as_slice-in-AndAlso.ensures.value ∙ is in
    (omega (arith, ap expression_size same, c.decreases), (within, written-of same c.requires))

pub write_one-returns-in-AndAlso : goal.write_one-returns-in-AndAlso
write_one-returns-in-AndAlso g t c =
    let is = rw c.in-AndAlso.is at c.kind.ensures.value in
    let same = ap (λ l. and_also (expressions_of l)) c.as_slice-in-AndAlso.ensures.value ∙ is in
    on_ok_weaker _ (lines-of c.args.lines.now same c.requires) c.write_and.ensures

pub write_one-write_or-requires : goal.write_one-write_or-requires
write_one-write_or-requires g t c κs within =
    let is = rw c.in-OrElse.is at c.kind.ensures.value in
    let same = ap (λ l. or_else (expressions_of l)) c.as_slice-in-OrElse.ensures.value ∙ is in
    (omega (arith, ap expression_size same, c.decreases), (within, written-of same c.requires))

pub write_one-returns-in-OrElse : goal.write_one-returns-in-OrElse
write_one-returns-in-OrElse g t c =
    let is = rw c.in-OrElse.is at c.kind.ensures.value in
    let same = ap (λ l. or_else (expressions_of l)) c.as_slice-in-OrElse.ensures.value ∙ is in
    on_ok_weaker _ (lines-of c.args.lines.now same c.requires) c.write_or.ensures

pub write_one-write_tuple-requires : goal.write_one-write_tuple-requires
write_one-write_tuple-requires g t c κs within =
    let is = rw c.in-Tuple.is at c.kind.ensures.value in
    let same = ap (λ l. new_tuple (expressions_of l)) c.as_slice-in-Tuple.ensures.value ∙ is in
    (omega (arith, ap expression_size same, c.decreases), (within, written-of same c.requires))

pub write_one-returns-in-Tuple : goal.write_one-returns-in-Tuple
write_one-returns-in-Tuple g t c =
    let is = rw c.in-Tuple.is at c.kind.ensures.value in
    let same = ap (λ l. new_tuple (expressions_of l)) c.as_slice-in-Tuple.ensures.value ∙ is in
    on_ok_weaker _ (lines-of c.args.lines.now same c.requires) c.write_tuple.ensures

pub write_one-write_map-requires : goal.write_one-write_map-requires
write_one-write_map-requires g t c κs within =
    let is = rw c.in-Map.is at c.kind.ensures.value in
    let same = ap (λ l. new_map (assignments_of l)) c.as_slice-in-Map.ensures.value ∙ is in
    (omega (arith, ap expression_size same, c.decreases), (within, written-of same c.requires))

pub write_one-returns-in-Map : goal.write_one-returns-in-Map
write_one-returns-in-Map g t c =
    let is = rw c.in-Map.is at c.kind.ensures.value in
    let same = ap (λ l. new_map (assignments_of l)) c.as_slice-in-Map.ensures.value ∙ is in
    on_ok_weaker _ (lines-of c.args.lines.now same c.requires) c.write_map.ensures

pub write_one-write_list-requires : goal.write_one-write_list-requires
write_one-write_list-requires g t c κs within =
    let is = rw c.in-List.is at c.kind.ensures.value in
    let same = ap (λ l. new_cells l (tail_expression c.in-List.tail)) c.as_slice-in-List.ensures.value ∙ is in
    let kept = rw c.in-List.is at c.kind.ensures.kept in
    let size = new_cells-size c.as_slice-in-List.result.now (tail_expression c.in-List.tail) in
    let some = ap length c.as_slice-in-List.ensures.value in (
      omega (arith, ap expression_size same, size, c.decreases),
      (within, (omega (arith, some, kept.0), (kept.1, written-of same c.requires))),
    )

pub write_one-returns-in-List : goal.write_one-returns-in-List
write_one-returns-in-List g t c =
    let is = rw c.in-List.is at c.kind.ensures.value in
    let same = ap (λ l. new_cells l (tail_expression c.in-List.tail)) c.as_slice-in-List.ensures.value ∙ is in
    on_ok_weaker _ (lines-of c.args.lines.now same c.requires) c.write_list.ensures

pub write_one-put_variable-requires : goal.write_one-put_variable-requires
write_one-put_variable-requires g t c =
    let is = rw c.in-Variable.is at c.kind.ensures.value in
    (written-of is c.requires).lines.0

pub write_one-put_bindings-requires : goal.write_one-put_bindings-requires
write_one-put_bindings-requires g t c =
    let is = rw c.in-Bindings.is at c.kind.ensures.value in
    let can = written-of is c.requires in
    record { room = omega (arith, can.room); lines = can.lines }

pub write_one-returns-in-Variable : goal.write_one-returns-in-Variable
write_one-returns-in-Variable g t c =
    let is = rw c.in-Variable.is at c.kind.ensures.value in
    on_ok_weaker _ (lines-of c.args.lines.now is c.requires) c.put_variable.ensures

pub write_one-returns-in-Bindings : goal.write_one-returns-in-Bindings
write_one-returns-in-Bindings g t c =
    let is = rw c.in-Bindings.is at c.kind.ensures.value in
    on_ok_weaker _ (lines-of c.args.lines.now is c.requires) c.put_bindings.ensures

pub write_one-returns-in-Object : goal.write_one-returns-in-Object
write_one-returns-in-Object g t c =
    let is = rw c.in-Object.is at c.kind.ensures.value in
    on_ok_weaker _ (lines-of c.args.lines.now is c.requires) c.put.ensures

pub write_one-returns-in-Constant : goal.write_one-returns-in-Constant
write_one-returns-in-Constant g t c =
    let is = rw c.in-Constant.is at c.kind.ensures.value in
    on_ok_weaker _ (lines-of c.args.lines.now is c.requires) c.put_constant.ensures

pub write_one-returns-in-Quoted : goal.write_one-returns-in-Quoted
write_one-returns-in-Quoted g t c =
    let is = rw c.in-Quoted.is at c.kind.ensures.value in
    on_ok_weaker _ (lines-of c.args.lines.now is c.requires) c.put_constant-in-Quoted.ensures

pub write_call-write_function-requires : goal.write_call-write_function-requires
write_call-write_function-requires g t c κs within =
    let same = ap (λ f. call f (expressions_of c.args.arguments.now)) (sym c.in-Function.is) in
    (omega (arith, c.decreases), (within, written-of same c.requires))

pub write_call-returns-in-Function : goal.write_call-returns-in-Function
write_call-returns-in-Function g t c =
    let same = ap (λ f. call f (expressions_of c.args.arguments.now)) (sym c.in-Function.is) in
    on_ok_weaker _ (lines-of c.args.lines.now same c.requires) c.write_function.ensures

pub write_call-write_arithmetic-requires : goal.write_call-write_arithmetic-requires
write_call-write_arithmetic-requires g t c κs within =
    let same = ap (λ f. call f (expressions_of c.args.arguments.now)) (sym c.in-Arithmetic.is) in
    (omega (arith, c.decreases), (within, written-of same c.requires))

pub write_call-returns-in-Arithmetic : goal.write_call-returns-in-Arithmetic
write_call-returns-in-Arithmetic g t c =
    let same = ap (λ f. call f (expressions_of c.args.arguments.now)) (sym c.in-Arithmetic.is) in
    on_ok_weaker _ (lines-of c.args.lines.now same c.requires) c.write_arithmetic.ensures
