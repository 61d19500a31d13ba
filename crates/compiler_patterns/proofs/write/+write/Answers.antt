use Rattle.std.proofs.Common.{◌≡◌, ◌+◌, ◌<◌, ◌≤◌, Some, List, length, drop, refl, sym, ◌∙◌, ap, subst, arith}
use Rattle.std.proofs.lemmas.Result.{on_ok_weaker}
use Rattle.std.proofs.lemmas.List.{length-drop}
use Rattle.mspec_syntax.specs.Pattern.{Pattern, patterns_of, fields_of, cells_of, own_term, pattern_size, patterns_size, fields_size}
use Rattle.mspec_syntax.specs.Pattern.Pattern.{variable, anything, tuple_of, map_of}
use Rattle.mspec_syntax.specs.PatternView.{tail_pattern}
use Rattle.mspec_syntax.specs.Sound.{IsSoundPattern}
use Rattle.mspec_syntax.proofs.SizeLemmas.{patterns_size-at, fields_size-at, pattern_size-some, patterns_size-some, cells-size}
use Rattle.compiler_patterns.proofs.WrittenLemmas.{puts-writes}
use Rattle.compiler_patterns.specs.Spelled.{spells}
use Rattle.compiler_patterns.specs.Writable.{IsWritable}
use Rattle.compiler_patterns.proofs.SpelledLemmas.{rest-slice, back}
use Rattle.compiler_patterns.proofs.WritableLemmas.{count-nodes, writable-at, field-at, tuple-elements, map-fields, cells-rest, cells-element, cells-tail, variable-slot}
use Rattle.compiler_patterns.proofs.WriteLemmas.{writes-of, writes-at, same-writes, tuple-writes, element-none, element-writes, elements-step, elements-end, head-writes, cells-step, cells-end, map-writes, field-writes, fields-step, fields-end}
use Rattle.compiler_patterns.proofs.write.+write.Goals as goal

pub write_cell-write_pattern-requires : goal.write_cell-write_pattern-requires
write_cell-write_pattern-requires g t c κs within = (omega (arith, c.decreases), (within, c.requires))

pub write_cell-returns : goal.write_cell-returns
write_cell-returns g t c =
    on_ok_weaker c.write_pattern.result
    (head-writes c.args.slots.now c.args.head.now c.args.draft.now c.put.new.self c.put-2.new.self c.put-3.new.self c.write_pattern.new.draft c.in_ok-put.ensures c.in_ok-put-2.ensures c.in_ok-put-3.ensures)
    c.write_pattern.ensures

pub write_element-returns-then-is_anything : goal.write_element-returns-then-is_anything
write_element-returns-then-is_anything g t c =
    element-none c.args.slots.now c.args.element.now c.args.number c.args.draft.now (sym c.is_anything.ensures ∙ c.if-is_anything.true)

pub write_element-write_pattern-requires : goal.write_element-write_pattern-requires
write_element-write_pattern-requires g t c κs within = (omega (arith, c.decreases), (within, c.requires))

pub write_element-returns : goal.write_element-returns
write_element-returns g t c =
    on_ok_weaker c.write_pattern.result
    (element-writes c.args.slots.now c.args.element.now c.args.number c.args.draft.now c.put.new.self c.put-2.new.self c.write_pattern.new.draft (sym c.is_anything.ensures ∙ c.if-is_anything.false) c.in_ok-put.ensures c.in_ok-put-2.ensures)
    c.write_pattern.ensures

pub write_elements-loop-place-init : goal.write_elements-loop-place-init
write_elements-loop-place-init g t c = λ new w. w

pub write_elements-overflow_cast-place : goal.write_elements-overflow_cast-place
write_elements-overflow_cast-place g t c =
    omega (arith, count-nodes c.args.elements.now, c.requires.small, c.loop-place-test.true)

pub write_elements-overflow_add-place : goal.write_elements-overflow_add-place
write_elements-overflow_add-place g t c =
    omega (arith, count-nodes c.args.elements.now, c.requires.small, c.loop-place-test.true)

pub write_elements-write_element-requires : goal.write_elements-write_element-requires
write_elements-write_element-requires g t c κs within =
    let es = c.args.elements.now in
    let i = c.loop-place.place in
    let e = c.index-elements-place.result in (
      omega (arith, patterns_size-at es i e c.loop-place-test.true c.index-elements-place.is, c.decreases),
      (within, writable-at c.args.slots.now es i e c.loop-place-test.true c.index-elements-place.is c.requires),
    )

pub write_elements-loop-place-preserved : goal.write_elements-loop-place-preserved
write_elements-loop-place-preserved g t c =
    let i = c.loop-place.place in
    λ new w.
    c.loop-place.invariant new
    (elements-step c.args.slots.now c.args.elements.now i (i + 1) c.index-elements-place.result c.loop-place.draft c.write_element.new.draft new c.loop-place-test.true c.index-elements-place.is refl c.in_ok-write_element.ensures w)

pub write_elements-returns : goal.write_elements-returns
write_elements-returns g t c =
    c.loop-place.invariant c.loop-place.draft
    (elements-end c.args.slots.now c.args.elements.now c.loop-place.place c.loop-place.draft c.loop-place-test.false)

pub write_field-write_pattern-requires : goal.write_field-write_pattern-requires
write_field-write_pattern-requires g t c κs within = (omega (arith, c.decreases), (within, c.requires))

pub write_field-returns : goal.write_field-returns
write_field-returns g t c =
    on_ok_weaker c.write_pattern.result
    (field-writes c.args.slots.now c.args.key.now c.in_ok-copy.field-0 c.args.value.now c.args.draft.now c.put.new.self c.put-2.new.self c.write_pattern.new.draft c.in_ok-copy.ensures c.in_ok-put.ensures c.in_ok-put-2.ensures)
    c.write_pattern.ensures

pub write_fields-loop-place-init : goal.write_fields-loop-place-init
write_fields-loop-place-init g t c = λ new w. w

pub write_fields-write_field-requires : goal.write_fields-write_field-requires
write_fields-write_field-requires g t c κs within =
    let fs = c.args.fields.now in
    let i = c.loop-place.place in
    let f = c.index-fields-place.result in (
      omega (arith, fields_size-at fs i f c.loop-place-test.true c.index-fields-place.is, c.decreases),
      (within, field-at c.args.slots.now fs i f c.loop-place-test.true c.index-fields-place.is c.requires),
    )

pub write_fields-loop-place-preserved : goal.write_fields-loop-place-preserved
write_fields-loop-place-preserved g t c =
    λ new w.
    c.loop-place.invariant new
    (fields-step c.args.slots.now c.args.fields.now c.loop-place.place c.index-fields-place.result c.loop-place.draft c.write_field.new.draft new c.loop-place-test.true c.index-fields-place.is c.in_ok-write_field.ensures w)

pub write_fields-returns : goal.write_fields-returns
write_fields-returns g t c =
    c.loop-place.invariant c.loop-place.draft
    (fields-end c.args.slots.now c.args.fields.now c.loop-place.place c.loop-place.draft c.loop-place-test.false)

pub write_map-write_fields-requires : goal.write_map-write_fields-requires
write_map-write_fields-requires g t c κs within = (omega (arith, c.decreases), (within, c.requires))

pub write_map-returns : goal.write_map-returns
write_map-returns g t c =
    on_ok_weaker c.put-2.result
    (map-writes c.args.slots.now (fields_of c.args.fields.now) c.args.draft.now c.put.new.self c.write_fields.new.draft c.put-2.new.self c.in_ok-put.ensures c.in_ok-write_fields.ensures)
    c.put-2.ensures

pub write_tuple-own_tuple-requires-clause-sound : goal.write_tuple-own_tuple-requires-clause-sound
write_tuple-own_tuple-requires-clause-sound g t c = c.requires.sound

pub write_tuple-own_tuple-requires-clause-spells : goal.write_tuple-own_tuple-requires-clause-spells
write_tuple-own_tuple-requires-clause-spells g t c = sym c.all_spell.ensures ∙ c.if-all_spell.true

pub write_tuple-returns-then-all_spell : goal.write_tuple-returns-then-all_spell
write_tuple-returns-then-all_spell g t c =
    on_ok_weaker c.put_same.result
    (same-writes c.args.slots.now (tuple_of (patterns_of c.args.elements.now)) c.in_ok-term.term c.args.draft.now c.put_same.new.self c.in_ok-term.ensures)
    c.put_same.ensures

pub write_tuple-overflow_cast-count : goal.write_tuple-overflow_cast-count
write_tuple-overflow_cast-count g t c = omega (arith, count-nodes c.args.elements.now, c.requires.small)

pub write_tuple-write_elements-requires : goal.write_tuple-write_elements-requires
write_tuple-write_elements-requires g t c κs within =
    (omega (arith, c.decreases), (within, tuple-elements c.args.slots.now (patterns_of c.args.elements.now) c.requires))

pub write_tuple-returns : goal.write_tuple-returns
write_tuple-returns g t c =
    let es = c.args.elements.now in
    on_ok_weaker c.put-2.result
    (tuple-writes c.args.slots.now es (length es) c.args.draft.now c.put.new.self c.write_elements.new.draft c.put-2.new.self (sym c.all_spell.ensures ∙ c.if-all_spell.false) refl c.in_ok-put.ensures c.in_ok-write_elements.ensures)
    c.put-2.ensures

pub write_list-loop-place-init : goal.write_list-loop-place-init
write_list-loop-place-init g t c = λ new w. w

pub write_list-write_cell-requires : goal.write_list-write_cell-requires
write_list-write_cell-requires g t c κs within =
    let es = c.args.elements.now in
    let tail = tail_pattern c.args.tail.now in
    let i = c.loop-place.place in
    let e = c.index-elements-place.result in
    let h : i < length es = omega (arith, c.loop-place-test.true, c.open_elements-open.ensures.count) in (
      omega (arith, patterns_size-at es i e h c.index-elements-place.is, pattern_size-some tail, c.decreases),
      (within, cells-element c.args.slots.now es tail i e h c.index-elements-place.is c.requires.written),
    )

pub write_list-loop-place-preserved : goal.write_list-loop-place-preserved
write_list-loop-place-preserved g t c =
    let es = c.args.elements.now in
    let tail = tail_pattern c.args.tail.now in
    let i = c.loop-place.place in
    let h : i < length es = omega (arith, c.loop-place-test.true, c.open_elements-open.ensures.count) in
    λ new w.
    c.loop-place.invariant new
    (cells-step c.args.slots.now es tail i c.index-elements-place.result c.loop-place.draft c.write_cell.new.draft c.put.new.self new h c.index-elements-place.is (c.open_elements-open.ensures.before i c.loop-place-test.true) c.in_ok-write_cell.ensures c.in_ok-put.ensures w)

pub write_list-own_list-requires-clause-elements : goal.write_list-own_list-requires-clause-elements
write_list-own_list-requires-clause-elements g t c =
    let es = c.args.elements.now in
    let i = c.open_elements-open.result in
    omega (arith, ap length (rest-slice i es), length-drop i es, c.if-open-elements.true)

pub write_list-own_list-requires-clause-sound : goal.write_list-own_list-requires-clause-sound
write_list-own_list-requires-clause-sound g t c =
    let es = c.args.elements.now in
    let tail = tail_pattern c.args.tail.now in
    let i = c.open_elements-open.result in
    let P : List Pattern → Type 0 = λ l. IsSoundPattern (cells_of l tail) in
    subst P (sym (rest-slice i es)) (cells-rest c.args.slots.now es tail i c.requires.written).sound

pub write_list-own_list-requires-clause-spells : goal.write_list-own_list-requires-clause-spells
write_list-own_list-requires-clause-spells g t c =
    let es = c.args.elements.now in
    let tail = tail_pattern c.args.tail.now in
    let i = c.open_elements-open.result in
    ap (λ l. spells (cells_of l tail)) (rest-slice i es) ∙ c.open_elements-open.ensures.behind c.if-open-elements.true

pub write_list-returns-then-open-elements : goal.write_list-returns-then-open-elements
write_list-returns-then-open-elements g t c =
    let es = c.args.elements.now in
    let tail = tail_pattern c.args.tail.now in
    let i = c.open_elements-open.result in
    let place = c.loop-place.place in
    let at : place ≡ i = omega (arith, c.loop-place-test.false, c.loop-place.auto.place-end) in
    let own : own_term (cells_of (drop place es) tail) ≡ Some c.in_ok-term.term = ap (λ n. own_term (cells_of (drop n es) tail)) at ∙ sym (ap (λ l. own_term (cells_of l tail)) (rest-slice i es)) ∙ c.in_ok-term.ensures in
    on_ok_weaker c.put_same.result
    (λ h. c.loop-place.invariant c.put_same.new.self (same-writes c.args.slots.now (cells_of (drop place es) tail) c.in_ok-term.term c.loop-place.draft c.put_same.new.self own h))
    c.put_same.ensures

pub write_list-write_tail-requires : goal.write_list-write_tail-requires
write_list-write_tail-requires g t c κs within =
    let es = c.args.elements.now in
    let tail = tail_pattern c.args.tail.now in
    (omega (arith, patterns_size-some es c.requires.elements, c.decreases), (within, cells-tail c.args.slots.now es tail c.requires.written))

pub write_list-returns : goal.write_list-returns
write_list-returns g t c =
    let es = c.args.elements.now in
    let tail = tail_pattern c.args.tail.now in
    let end : length es ≤ c.loop-place.place = omega (arith, c.if-open-elements.false, c.loop-place-test.false) in
    on_ok_weaker c.write_tail.result
    (λ h. c.loop-place.invariant c.write_tail.new.draft (cells-end c.args.slots.now es tail c.loop-place.place c.loop-place.draft c.write_tail.new.draft end h))
    c.write_tail.ensures

pub write_tail-write_pattern-requires : goal.write_tail-write_pattern-requires
write_tail-write_pattern-requires g t c κs within =
    let same : tail_pattern c.args.tail.now ≡ c.deref.result.now = ap tail_pattern c.in-Some.is ∙ sym c.deref.ensures in
    (omega (arith, ap pattern_size same, c.decreases), (within, subst (IsWritable c.args.slots.now) same c.requires))

pub write_tail-returns-in-None : goal.write_tail-returns-in-None
write_tail-returns-in-None g t c =
    on_ok_weaker c.put_same.result
    (same-writes c.args.slots.now (tail_pattern c.args.tail.now) c.nil.result c.args.draft.now c.put_same.new.self (ap (λ t. own_term (tail_pattern t)) c.in-None.is ∙ ap Some (sym c.nil.ensures)))
    c.put_same.ensures

pub write_tail-returns-in-Some : goal.write_tail-returns-in-Some
write_tail-returns-in-Some g t c =
    let same : tail_pattern c.args.tail.now ≡ c.deref.result.now = ap tail_pattern c.in-Some.is ∙ sym c.deref.ensures in
    on_ok_weaker c.write_pattern.result
    (writes-at c.args.slots.now c.deref.result.now (tail_pattern c.args.tail.now) c.args.draft.now c.write_pattern.new.draft (sym same))
    c.write_pattern.ensures

pub write_pattern-write_variable-requires : goal.write_pattern-write_variable-requires
write_pattern-write_variable-requires g t c =
    let is = rw c.in-Variable.is at c.kind.ensures.value in
    variable-slot c.args.slots.now c.in-Variable.number c.args.pattern.now is c.requires

pub write_pattern-returns-in-Anything : goal.write_pattern-returns-in-Anything
write_pattern-returns-in-Anything g t c =
    let is = rw c.in-Anything.is at c.kind.ensures.value in
    on_ok_weaker c.put.result
    (λ h. writes-at c.args.slots.now anything c.args.pattern.now c.args.draft.now c.put.new.self is (puts-writes c.args.slots.now _ c.args.draft.now c.put.new.self h))
    c.put.ensures

pub write_pattern-returns-in-Variable : goal.write_pattern-returns-in-Variable
write_pattern-returns-in-Variable g t c =
    let is = rw c.in-Variable.is at c.kind.ensures.value in
    on_ok_weaker c.write_variable.result
    (writes-at c.args.slots.now (variable c.in-Variable.number) c.args.pattern.now c.args.draft.now c.write_variable.new.draft is)
    c.write_variable.ensures

pub write_pattern-returns-in_ok-copy-in-Literal : goal.write_pattern-returns-in_ok-copy-in-Literal
write_pattern-returns-in_ok-copy-in-Literal g t c =
    let is = rw c.in-Literal.is at c.kind.ensures.value in
    let p = c.args.pattern.now in
    on_ok_weaker c.put_same.result
    (same-writes c.args.slots.now p c.in_ok-copy-in-Literal.field-0 c.args.draft.now c.put_same.new.self (ap own_term (sym is) ∙ ap Some (sym c.in_ok-copy-in-Literal.ensures)))
    c.put_same.ensures

pub write_pattern-write_tuple-requires : goal.write_pattern-write_tuple-requires
write_pattern-write_tuple-requires g t c κs within =
    let is = rw c.in-Tuple.is at c.kind.ensures.value in
    let same = c.as_slice.ensures.value in (
      omega (arith, ap pattern_size is, ap (λ l. patterns_size (patterns_of l)) same, c.decreases),
      (within, back (λ l. tuple_of (patterns_of l)) (IsWritable c.args.slots.now) c.as_slice.result.now c.in-Tuple.elements.items c.args.pattern.now is same c.requires),
    )

pub write_pattern-returns-in-Tuple : goal.write_pattern-returns-in-Tuple
write_pattern-returns-in-Tuple g t c =
    let is = rw c.in-Tuple.is at c.kind.ensures.value in
    on_ok_weaker c.write_tuple.result
    (writes-of c.args.slots.now (λ l. tuple_of (patterns_of l)) c.as_slice.result.now c.in-Tuple.elements.items c.args.pattern.now c.args.draft.now c.write_tuple.new.draft is c.as_slice.ensures.value)
    c.write_tuple.ensures

pub write_pattern-write_list-requires : goal.write_pattern-write_list-requires
write_pattern-write_list-requires g t c κs within =
    let is = rw c.in-List.is at c.kind.ensures.value in
    let kept = rw c.in-List.is at c.kind.ensures.kept in
    let tail = tail_pattern c.in-List.tail in
    let same = c.as_slice-in-List.ensures.value in (
      omega (arith, cells-size c.in-List.elements.items tail, ap pattern_size is, ap (λ l. patterns_size (patterns_of l)) same, c.decreases),
      (
        within,
        (
          omega (arith, kept.0, ap length same),
          back (λ l. cells_of l tail) (IsWritable c.args.slots.now) c.as_slice-in-List.result.now c.in-List.elements.items c.args.pattern.now is same c.requires,
        ),
      ),
    )

pub write_pattern-returns-in-List : goal.write_pattern-returns-in-List
write_pattern-returns-in-List g t c =
    let is = rw c.in-List.is at c.kind.ensures.value in
    on_ok_weaker c.write_list.result
    (writes-of c.args.slots.now (λ l. cells_of l (tail_pattern c.in-List.tail)) c.as_slice-in-List.result.now c.in-List.elements.items c.args.pattern.now c.args.draft.now c.write_list.new.draft is c.as_slice-in-List.ensures.value)
    c.write_list.ensures

pub write_pattern-write_map-requires : goal.write_pattern-write_map-requires
write_pattern-write_map-requires g t c κs within =
    let is = rw c.in-Map.is at c.kind.ensures.value in
    let xs = c.as_slice-in-Map.result.now in
    let same = c.as_slice-in-Map.ensures.value in (
      omega (arith, ap pattern_size is, ap (λ l. fields_size (fields_of l)) same, c.decreases),
      (within, map-fields c.args.slots.now (fields_of xs) (back (λ l. map_of (fields_of l)) (IsWritable c.args.slots.now) xs c.in-Map.fields.items c.args.pattern.now is same c.requires)),
    )

pub write_pattern-returns-in-Map : goal.write_pattern-returns-in-Map
write_pattern-returns-in-Map g t c =
    let is = rw c.in-Map.is at c.kind.ensures.value in
    on_ok_weaker c.write_map.result
    (writes-of c.args.slots.now (λ l. map_of (fields_of l)) c.as_slice-in-Map.result.now c.in-Map.fields.items c.args.pattern.now c.args.draft.now c.write_map.new.draft is c.as_slice-in-Map.ensures.value)
    c.write_map.ensures
