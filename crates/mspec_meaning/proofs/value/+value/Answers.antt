use Rattle.std.proofs.Common.{◌+◌, ◌∷◌, [], List, Some, option_map, map, drop, ap, sym, ◌∙◌, subst, arith}
use Rattle.std.proofs.lemmas.List.{map-append}
use Rattle.std.proofs.lemmas.Result.{IfOk-weaker}
use Rattle.term_core.specs.Datum.{Datum, items_of, entries_of}
use Rattle.term_core.specs.Datum.Datum.{tuple, map as table}
use Rattle.mspec_syntax.specs.Expression.{expression_size, expressions_size, assignments_size, expressions_of, assignments_of}
use Rattle.mspec_syntax.specs.ExpressionView.{tail_expression}
use Rattle.mspec_meaning.specs.Made.{joined_to, made_of}
use Rattle.mspec_meaning.specs.Called.{called}
use Rattle.mspec_meaning.specs.Meaning.{value_of, argument_values, entry_values, all_true, any_true}
use Rattle.mspec_meaning.specs.Value.{decided}
use Rattle.term_operand.specs.Value.{value_datum}
use Rattle.mspec_syntax.proofs.ExpressionSizes.{size-at, assignments-at, new_cells-size, size-some, some-size}
use Rattle.mspec_meaning.proofs.ValueLemmas.{ValuesFront, ValuesFront-start, ValuesFront-more, ValuesFront-none, ValuesFront-all, EntriesFront, EntriesFront-start, EntriesFront-more, EntriesFront-none, EntriesFront-all, DecidedFront-step, DecidedFront-all, list-value, joined_to-none, pairs-rise}
use Rattle.mspec_meaning.proofs.value.+value.Goals as goal

pub values-loop-argument-init : goal.values-loop-argument-init
values-loop-argument-init g t c =
    let p = c.args.environment.now in
    let P : List Datum → Type 0 = λ l. ValuesFront p.mode p.substitution p.object c.args.arguments.now 0 l in
    subst P (sym (ap (map value_datum) c.in_ok-values.ensures.items)) (ValuesFront-start p.mode p.substitution p.object c.args.arguments.now)

pub values-value-requires : goal.values-value-requires
values-value-requires g t c κs within =
    (omega (arith, size-at _ _ _ c.loop-argument-test.true c.argument-item.is, c.decreases), within)

pub values-returns-in_default : goal.values-returns-in_default
values-returns-in_default g t c =
    let p = c.args.environment.now in
    ValuesFront-none p.mode p.substitution p.object c.args.arguments.now c.loop-argument.argument-index c.argument-item.result (map value_datum c.loop-argument.values.items) c.loop-argument-test.true c.argument-item.is (rw c.in_default.is at c.in_ok-value.ensures) c.loop-argument.invariant

pub values-loop-argument-preserved : goal.values-loop-argument-preserved
values-loop-argument-preserved g t c =
    let p = c.args.environment.now in
    let value = rw c.in-Some.is at c.in_ok-value.ensures in
    let P : List Datum → Type 0 = λ l. ValuesFront p.mode p.substitution p.object c.args.arguments.now (c.loop-argument.argument-index + 1) l in
    let items = ap (map value_datum) c.in_ok-push.ensures.items ∙ map-append value_datum c.loop-argument.values.items (c.in-Some.value ∷ []) in
    subst P (sym items) (ValuesFront-more p.mode p.substitution p.object c.args.arguments.now c.loop-argument.argument-index c.argument-item.result (map value_datum c.loop-argument.values.items) (value_datum c.in-Some.value) c.loop-argument-test.true c.argument-item.is value c.loop-argument.invariant)

pub values-returns : goal.values-returns
values-returns g t c =
    let p = c.args.environment.now in
    ValuesFront-all p.mode p.substitution p.object c.args.arguments.now c.loop-argument.argument-index (map value_datum c.loop-argument.values.items) c.loop-argument-test.false c.loop-argument.invariant

pub terms-loop-element-init : goal.terms-loop-element-init
terms-loop-element-init g t c =
    let p = c.args.environment.now in
    let P : List Datum → Type 0 = λ l. ValuesFront p.mode p.substitution p.object c.args.elements.now 0 l in
    subst P (sym c.in_ok-terms.ensures.items) (ValuesFront-start p.mode p.substitution p.object c.args.elements.now)

pub terms-value-requires : goal.terms-value-requires
terms-value-requires g t c κs within =
    (omega (arith, size-at _ _ _ c.loop-element-test.true c.element-item.is, c.decreases), within)

pub terms-returns-in_default : goal.terms-returns-in_default
terms-returns-in_default g t c =
    let p = c.args.environment.now in
    ValuesFront-none p.mode p.substitution p.object c.args.elements.now c.loop-element.element-index c.element-item.result c.loop-element.terms.items c.loop-element-test.true c.element-item.is (rw c.in_default.is at c.in_ok-value.ensures) c.loop-element.invariant

pub terms-loop-element-preserved : goal.terms-loop-element-preserved
terms-loop-element-preserved g t c =
    let p = c.args.environment.now in
    let value = rw c.in-Some.is at c.in_ok-value.ensures in
    let P : List Datum → Type 0 = λ l. ValuesFront p.mode p.substitution p.object c.args.elements.now (c.loop-element.element-index + 1) l in
    subst P (sym c.in_ok-push_element.ensures)
    (ValuesFront-more p.mode p.substitution p.object c.args.elements.now c.loop-element.element-index c.element-item.result c.loop-element.terms.items (value_datum c.in-Some.value) c.loop-element-test.true c.element-item.is value c.loop-element.invariant)

pub terms-returns : goal.terms-returns
terms-returns g t c =
    let p = c.args.environment.now in
    ValuesFront-all p.mode p.substitution p.object c.args.elements.now c.loop-element.element-index c.loop-element.terms.items c.loop-element-test.false c.loop-element.invariant

pub pairs-loop-key-init : goal.pairs-loop-key-init
pairs-loop-key-init g t c =
    let p = c.args.environment.now in
    let P : List (Datum × Datum) → Type 0 = λ l. EntriesFront p.mode p.substitution p.object c.args.assignments.now 0 l in
    subst P (sym c.in_ok-pairs.ensures.items) (EntriesFront-start p.mode p.substitution p.object c.args.assignments.now)

pub pairs-value-requires : goal.pairs-value-requires
pairs-value-requires g t c κs within =
    (omega (arith, assignments-at _ _ _ c.loop-key-test.true c.loop-key-item.is, c.decreases), within)

pub pairs-returns-in_default : goal.pairs-returns-in_default
pairs-returns-in_default g t c =
    let p = c.args.environment.now in
    EntriesFront-none p.mode p.substitution p.object c.args.assignments.now c.loop-key.key-index c.loop-key-item.result c.loop-key.pairs.items c.loop-key-test.true c.loop-key-item.is (rw c.in_default.is at c.in_ok-value.ensures) c.loop-key.invariant

pub pairs-loop-key-preserved : goal.pairs-loop-key-preserved
pairs-loop-key-preserved g t c =
    let p = c.args.environment.now in
    let value = rw c.in-Some.is at c.in_ok-value.ensures in
    let P : List (Datum × Datum) → Type 0 = λ l. EntriesFront p.mode p.substitution p.object c.args.assignments.now (c.loop-key.key-index + 1) l in
    subst P (sym c.in_ok-push_entry.ensures)
    (EntriesFront-more p.mode p.substitution p.object c.args.assignments.now c.loop-key.key-index c.loop-key-item.result c.loop-key.pairs.items (value_datum c.in-Some.value) c.loop-key-test.true c.loop-key-item.is value c.loop-key.invariant)

pub pairs-returns : goal.pairs-returns
pairs-returns g t c =
    let p = c.args.environment.now in
    EntriesFront-all p.mode p.substitution p.object c.args.assignments.now c.loop-key.key-index c.loop-key.pairs.items c.loop-key-test.false c.loop-key.invariant

pub list-terms-requires : goal.list-terms-requires
list-terms-requires g t c κs within =
    (omega (arith, size-some (tail_expression c.args.tail.now), c.decreases), within)

pub list-returns-in_default : goal.list-returns-in_default
list-returns-in_default g t c =
    let p = c.args.environment.now in
    let tail = value_of p.mode (tail_expression c.args.tail.now) p.substitution p.object in
    ap (made_of p.mode) (joined_to-none tail)
    ∙ ap (λ x. made_of p.mode (joined_to x tail)) (rw c.in_default.is at c.in_ok-elements.ensures)

pub list-tail_term-requires : goal.list-tail_term-requires
list-tail_term-requires g t c κs within = (omega (arith, c.decreases), within)

pub list-returns : goal.list-returns
list-returns g t c =
    let p = c.args.environment.now in
    let elements = rw c.in-Some.is at c.in_ok-elements.ensures in
    let values = argument_values p.mode (expressions_of c.args.elements.now) p.substitution p.object in
    IfOk-weaker c.list.result _ _
    (λ v h.
    h ∙ ap (λ x. made_of p.mode (joined_to x c.in_ok-tail.tail)) elements
    ∙ ap (λ x. made_of p.mode (joined_to values x)) c.in_ok-tail.ensures)
    c.list.ensures

pub tail_term-returns-in_default : goal.tail_term-returns-in_default
tail_term-returns-in_default g t c =
    let p = c.args.environment.now in
    ap Some c.nil.ensures ∙ sym (ap (λ x. value_of p.mode (tail_expression x) p.substitution p.object) c.in_default.is)

pub tail_term-value-requires : goal.tail_term-value-requires
tail_term-value-requires g t c κs within =
    (omega (arith, ap (λ x. expression_size (tail_expression x)) c.in-Some.is, ap expression_size c.deref.ensures, c.decreases), within)

pub tail_term-returns : goal.tail_term-returns
tail_term-returns g t c =
    let p = c.args.environment.now in
    IfOk-weaker c.into_term.result _ _
    (λ v h.
    h ∙ c.in_ok-value.ensures
    ∙ ap (λ e. value_of p.mode e p.substitution p.object) c.deref.ensures
    ∙ sym (ap (λ x. value_of p.mode (tail_expression x) p.substitution p.object) c.in-Some.is))
    c.into_term.ensures

pub decide-value-requires : goal.decide-value-requires
decide-value-requires g t c κs within =
    (omega (arith, size-at _ _ _ c.loop-argument-test.true c.argument-item.is, c.decreases), within)

pub decide-returns-in-Ends : goal.decide-returns-in-Ends
decide-returns-in-Ends g t c =
    let p = c.args.environment.now in
    let es = c.args.arguments.now in
    let i = c.loop-argument.argument-index in
    let says = c.in_ok-verdict.ensures (decided c.args.decides p.mode (expressions_of (drop (i + 1) es)) p.substitution p.object) in
    let ends = rw c.in-Ends.is at says in
    ends ∙ DecidedFront-step p.mode p.substitution p.object c.args.decides es i c.argument-item.result _ c.loop-argument-test.true c.argument-item.is c.in_ok-value.ensures c.loop-argument.invariant

pub decide-loop-argument-preserved : goal.decide-loop-argument-preserved
decide-loop-argument-preserved g t c =
    let p = c.args.environment.now in
    let es = c.args.arguments.now in
    let i = c.loop-argument.argument-index in
    let says = c.in_ok-verdict.ensures (decided c.args.decides p.mode (expressions_of (drop (i + 1) es)) p.substitution p.object) in
    let stays = rw c.in-Open.is at says in
    stays ∙ DecidedFront-step p.mode p.substitution p.object c.args.decides es i c.argument-item.result _ c.loop-argument-test.true c.argument-item.is c.in_ok-value.ensures c.loop-argument.invariant

pub decide-returns : goal.decide-returns
decide-returns g t c =
    let p = c.args.environment.now in
    DecidedFront-all p.mode p.substitution p.object c.args.decides c.args.arguments.now c.loop-argument.argument-index c.loop-argument-test.false c.loop-argument.invariant

pub value-values-requires : goal.value-values-requires
value-values-requires g t c κs within =
    let is = rw c.in-Call.is at c.kind.ensures.value in
    (omega (arith, ap expression_size is, ap (λ l. expressions_size (expressions_of l)) c.as_slice.ensures.value, c.decreases), within)

pub value-decide-requires : goal.value-decide-requires
value-decide-requires g t c κs within =
    let is = rw c.in-AndAlso.is at c.kind.ensures.value in
    (omega (arith, ap expression_size is, ap (λ l. expressions_size (expressions_of l)) c.as_slice-in-AndAlso.ensures.value, c.decreases), within)

pub value-decide-requires-in-OrElse : goal.value-decide-requires-in-OrElse
value-decide-requires-in-OrElse g t c κs within =
    let is = rw c.in-OrElse.is at c.kind.ensures.value in
    (omega (arith, ap expression_size is, ap (λ l. expressions_size (expressions_of l)) c.as_slice-in-OrElse.ensures.value, c.decreases), within)

pub value-terms-requires : goal.value-terms-requires
value-terms-requires g t c κs within =
    let is = rw c.in-Tuple.is at c.kind.ensures.value in
    (omega (arith, ap expression_size is, ap (λ l. expressions_size (expressions_of l)) c.as_slice-in-Tuple.ensures.value, c.decreases), within)

pub value-list-requires : goal.value-list-requires
value-list-requires g t c κs within =
    let is = rw c.in-List.is at c.kind.ensures.value in
    let kept = rw c.in-List.is at c.kind.ensures.kept in
    let es = c.in-List.elements.items in
    let tail = tail_expression c.in-List.tail in
    (omega (arith, ap expression_size is, new_cells-size es tail, some-size es kept.0, size-some tail, ap (λ l. expressions_size (expressions_of l)) c.as_slice-in-List.ensures.value, c.decreases), within)

pub value-pairs-requires : goal.value-pairs-requires
value-pairs-requires g t c κs within =
    let is = rw c.in-Map.is at c.kind.ensures.value in
    (omega (arith, ap expression_size is, ap (λ l. assignments_size (assignments_of l)) c.as_slice-in-Map.ensures.value, c.decreases), within)

pub value-map-requires : goal.value-map-requires
value-map-requires g t c =
    let p = c.args.environment.now in
    let kept = rw c.in-Map.is at c.kind.ensures.kept in
    pairs-rise p.mode p.substitution p.object (λ pairs. entries_of pairs.items) c.in_ok-pairs-in-Map.pairs (assignments_of c.in-Map.assignments.items)
    (c.in_ok-pairs-in-Map.ensures ∙ ap (λ l. entry_values p.mode (assignments_of l) p.substitution p.object) c.as_slice-in-Map.ensures.value) kept

pub value-returns-in-Variable : goal.value-returns-in-Variable
value-returns-in-Variable g t c =
    let p = c.args.environment.now in
    let is = rw c.in-Variable.is at c.kind.ensures.value in
    c.bound.ensures ∙ ap (λ e. value_of p.mode e p.substitution p.object) is

pub value-returns-in-Object : goal.value-returns-in-Object
value-returns-in-Object g t c =
    let p = c.args.environment.now in
    let is = rw c.in-Object.is at c.kind.ensures.value in
    ap Some c.object.ensures ∙ ap (λ e. value_of p.mode e p.substitution p.object) is

pub value-returns-in-Bindings : goal.value-returns-in-Bindings
value-returns-in-Bindings g t c =
    let p = c.args.environment.now in
    let is = rw c.in-Bindings.is at c.kind.ensures.value in
    IfOk-weaker c.bindings.result _ _ (λ v h. h ∙ ap (λ e. value_of p.mode e p.substitution p.object) is) c.bindings.ensures

pub value-returns-in-Constant : goal.value-returns-in-Constant
value-returns-in-Constant g t c =
    let p = c.args.environment.now in
    let is = rw c.in-Constant.is at c.kind.ensures.value in
    ap (λ e. value_of p.mode e p.substitution p.object) is

pub value-returns-in-Quoted : goal.value-returns-in-Quoted
value-returns-in-Quoted g t c =
    let p = c.args.environment.now in
    let is = rw c.in-Quoted.is at c.kind.ensures.value in
    ap (λ e. value_of p.mode e p.substitution p.object) is

pub value-returns-in_ok-values-in-Call : goal.value-returns-in_ok-values-in-Call
value-returns-in_ok-values-in-Call g t c =
    let p = c.args.environment.now in
    let is = rw c.in-Call.is at c.kind.ensures.value in
    IfOk-weaker c.called.result _ _
    (λ v h.
    h ∙ ap (called p.mode c.in-Call.function) c.in_ok-values-in-Call.ensures
    ∙ ap (λ l. called p.mode c.in-Call.function (argument_values p.mode (expressions_of l) p.substitution p.object)) c.as_slice.ensures.value
    ∙ ap (λ e. value_of p.mode e p.substitution p.object) is)
    c.called.ensures

pub value-returns-in-AndAlso : goal.value-returns-in-AndAlso
value-returns-in-AndAlso g t c =
    let p = c.args.environment.now in
    let is = rw c.in-AndAlso.is at c.kind.ensures.value in
    IfOk-weaker c.decide.result _ _
    (λ v h.
    h ∙ ap (λ l. all_true p.mode (expressions_of l) p.substitution p.object) c.as_slice-in-AndAlso.ensures.value
    ∙ ap (λ e. value_of p.mode e p.substitution p.object) is)
    c.decide.ensures

pub value-returns-in-OrElse : goal.value-returns-in-OrElse
value-returns-in-OrElse g t c =
    let p = c.args.environment.now in
    let is = rw c.in-OrElse.is at c.kind.ensures.value in
    IfOk-weaker c.decide-in-OrElse.result _ _
    (λ v h.
    h ∙ ap (λ l. any_true p.mode (expressions_of l) p.substitution p.object) c.as_slice-in-OrElse.ensures.value
    ∙ ap (λ e. value_of p.mode e p.substitution p.object) is)
    c.decide-in-OrElse.ensures

pub value-returns-in_ok-elements-in-Tuple : goal.value-returns-in_ok-elements-in-Tuple
value-returns-in_ok-elements-in-Tuple g t c =
    let p = c.args.environment.now in
    let is = rw c.in-Tuple.is at c.kind.ensures.value in
    IfOk-weaker c.tuple.result _ _
    (λ v h.
    h ∙ ap (λ x. made_of p.mode (option_map (λ ds. tuple (items_of ds)) x)) c.in_ok-elements-in-Tuple.ensures
    ∙ ap (λ l. made_of p.mode (option_map (λ ds. tuple (items_of ds)) (argument_values p.mode (expressions_of l) p.substitution p.object))) c.as_slice-in-Tuple.ensures.value
    ∙ ap (λ e. value_of p.mode e p.substitution p.object) is)
    c.tuple.ensures

pub value-returns-in-List : goal.value-returns-in-List
value-returns-in-List g t c =
    let p = c.args.environment.now in
    let is = rw c.in-List.is at c.kind.ensures.value in
    let kept = rw c.in-List.is at c.kind.ensures.kept in
    let tail = value_of p.mode (tail_expression c.in-List.tail) p.substitution p.object in
    IfOk-weaker c.list.result _ _
    (λ v h.
    h ∙ ap (λ l. made_of p.mode (joined_to (argument_values p.mode (expressions_of l) p.substitution p.object) tail)) c.as_slice-in-List.ensures.value
    ∙ list-value p.mode p.substitution p.object c.in-List.elements.items c.in-List.tail kept.0 kept.1
    ∙ ap (λ e. value_of p.mode e p.substitution p.object) is)
    c.list.ensures

pub value-returns-in_ok-pairs-in-Map : goal.value-returns-in_ok-pairs-in-Map
value-returns-in_ok-pairs-in-Map g t c =
    let p = c.args.environment.now in
    let is = rw c.in-Map.is at c.kind.ensures.value in
    IfOk-weaker c.map.result _ _
    (λ v h.
    h ∙ ap (λ x. made_of p.mode (option_map table x)) c.in_ok-pairs-in-Map.ensures
    ∙ ap (λ l. made_of p.mode (option_map table (entry_values p.mode (assignments_of l) p.substitution p.object))) c.as_slice-in-Map.ensures.value
    ∙ ap (λ e. value_of p.mode e p.substitution p.object) is)
    c.map.ensures
