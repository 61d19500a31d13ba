use Rattle.std.proofs.Common.{None, length, drop, ap, ◌∙◌, length-drop, arith}
use Rattle.term_core.proofs.LimitLemmas.{list-length, cell_count-sound}
use Rattle.term_core.proofs.term.length_of_tail.Goals as goal

pub returns-in-ListOfOne-clause-value : goal.returns-in-ListOfOne-clause-value
returns-in-ListOfOne-clause-value g c =
    let kept = rw c.in-ListOfOne.is at c.tail.invariant.1 in
    let seen = rw c.in-ListOfOne.is at c.tail.view_is in
    let some = c.in-Some.is in
    let held = ap length c.deref.ensures in
    let count = list-length c.in-ListOfOne.row.value None kept.2 in
    rw (some, ← seen) (held ∙ count)

pub returns-in-ListOfTwo-clause-value : goal.returns-in-ListOfTwo-clause-value
returns-in-ListOfTwo-clause-value g c =
    let kept = rw c.in-ListOfTwo.is at c.tail.invariant.1 in
    let seen = rw c.in-ListOfTwo.is at c.tail.view_is in
    let some = c.in-Some.is in
    let held = ap length c.deref-in-ListOfTwo.ensures in
    let count = list-length c.in-ListOfTwo.row.value None kept.2 in
    rw (some, ← seen) (held ∙ count)

pub returns-in-ListOfThree-clause-value : goal.returns-in-ListOfThree-clause-value
returns-in-ListOfThree-clause-value g c =
    let kept = rw c.in-ListOfThree.is at c.tail.invariant.1 in
    let seen = rw c.in-ListOfThree.is at c.tail.view_is in
    let some = c.in-Some.is in
    let held = ap length c.deref-in-ListOfThree.ensures in
    let count = list-length c.in-ListOfThree.row.value None kept.2 in
    rw (some, ← seen) (held ∙ count)

pub returns-in-ListOfFour-clause-value : goal.returns-in-ListOfFour-clause-value
returns-in-ListOfFour-clause-value g c =
    let kept = rw c.in-ListOfFour.is at c.tail.invariant.1 in
    let seen = rw c.in-ListOfFour.is at c.tail.view_is in
    let some = c.in-Some.is in
    let held = ap length c.deref-in-ListOfFour.ensures in
    let count = list-length c.in-ListOfFour.row.value None kept.2 in
    rw (some, ← seen) (held ∙ count)

pub returns-in-List-clause-value : goal.returns-in-List-clause-value
returns-in-List-clause-value g c =
    let kept = rw c.in-List.is at c.tail.invariant.1 in
    let seen = rw c.in-List.is at c.tail.view_is in
    let some = c.in-Some.is in
    let held = c.deref-in-List.ensures in
    let count = list-length c.in-List.cells.value.elements.items c.in-List.cells.value.tail kept.2 in
    let len = rw held at c.len.ensures in
    rw (some, ← seen) (omega (arith, c.in-List.cells.value.elements.ok))

pub returns-in-List-clause-within : goal.returns-in-List-clause-within
returns-in-List-clause-within g c =
    let kept = rw c.in-List.is at c.tail.invariant.1 in
    let sound = rw c.in-List.is at c.tail.invariant.0.sound in
    let held = c.deref-in-List.ensures in
    let count = list-length c.in-List.cells.value.elements.items c.in-List.cells.value.tail kept.2 in
    let len = rw held at c.len.ensures in
    let bound = cell_count-sound _ sound in omega (arith, c.in-List.cells.value.elements.ok)

pub overflow_sub-result : goal.overflow_sub-result
overflow_sub-result g c =
    let kept = rw c.in-Rest.is at c.tail.invariant.1 in
    let held = c.deref-in-Rest.ensures in
    let len = rw held at c.len-in-Rest.ensures in
    omega (arith, kept.0.1, length-drop c.in-Rest.count c.in-Rest.cells.value.elements.items)

pub returns-in-Rest-clause-value : goal.returns-in-Rest-clause-value
returns-in-Rest-clause-value g c =
    let kept = rw c.in-Rest.is at c.tail.invariant.1 in
    let seen = rw c.in-Rest.is at c.tail.view_is in
    let some = c.in-Some.is in
    let held = c.deref-in-Rest.ensures in
    let left = drop c.in-Rest.count c.in-Rest.cells.value.elements.items in
    let count = list-length left c.in-Rest.cells.value.tail kept.0.2 in
    let len = rw held at c.len-in-Rest.ensures in
    rw (some, ← seen) (omega (arith, length-drop c.in-Rest.count c.in-Rest.cells.value.elements.items, c.in-Rest.cells.value.elements.ok))

pub returns-in-Rest-clause-within : goal.returns-in-Rest-clause-within
returns-in-Rest-clause-within g c =
    let kept = rw c.in-Rest.is at c.tail.invariant.1 in
    let sound = rw c.in-Rest.is at c.tail.invariant.0.sound in
    let held = c.deref-in-Rest.ensures in
    let left = drop c.in-Rest.count c.in-Rest.cells.value.elements.items in
    let count = list-length left c.in-Rest.cells.value.tail kept.0.2 in
    let len = rw held at c.len-in-Rest.ensures in
    let bound = cell_count-sound _ sound in
    omega (arith, length-drop c.in-Rest.count c.in-Rest.cells.value.elements.items, c.in-Rest.cells.value.elements.ok)
